-- Runnable code, and its stretches: a routine from its beginning, or a loop's body.
use Rattle.std.specs.Prelude.{◌≡◌, ℕ, ◌<◌, ◌≤◌, true, cond}
use Rattle.td_verify_runs.specs.Imports.{Parts, Return, Again}
use Rattle.td_ir.specs.Tables.{lengths_of, end_of}
use Rattle.td_ir.specs.WellFormed.{IsCode}
use Rattle.td_verify.specs.Shape.{shapes_of}
use Rattle.td_verify.specs.Brackets.{shape_at, opened, window_bytes}
use Rattle.td_verify.specs.Ways.{IdleWay, MayBeEmpty}
use Rattle.td_verify.specs.Verify.{IsIn}
use Rattle.td_verify.specs.Safe.{IsSafe, looped}

-- tables that fit together, and instructions that keep what the verifier asks of them
pub record IsRunnable (c : Parts) : Type 0 where
  pub code : IsCode c
  pub safe : IsSafe c

-- a way of routine n with no byte
abbrev pub Idle : Parts → (n from to : ℕ) → Type 0
Idle c n from to = IdleWay (shapes_of c) (MayBeEmpty (shapes_of c) (lengths_of c) n) from to

-- each step in a loop counts twice
abbrev pub scale : Parts → ℕ → ℕ
scale c p = cond (looped c p) 2 1

-- a routine from its beginning, or a loop's body
pub record IsStretch (c : Parts) (n first to : ℕ) : Type 0 where
  pub place : IsIn c n first
  pub some : first < to
  pub within : to ≤ end_of c n
  pub closed : (q : ℕ) → IsIn c n q → (looped c first ≡ true → opened (shapes_of c) q ≡ opened (shapes_of c) first) → q < to
  pub outside : window_bytes (opened (shapes_of c) first) ≡ 0

-- a way with no byte to the end of a turn, and to a return
pub record IdleTurn (c : Parts) (n first : ℕ) : Type 0 where
  pub at : ℕ
  pub start : ℕ
  pub within : IsIn c n at
  pub is : shape_at (shapes_of c) at ≡ Again start
  pub same : opened (shapes_of c) at ≡ opened (shapes_of c) first
  pub way : Idle c n first at

pub record IdleReturn (c : Parts) (n first : ℕ) : Type 0 where
  pub at : ℕ
  pub within : IsIn c n at
  pub is : shape_at (shapes_of c) at ≡ Return
  pub way : Idle c n first at
