-- What a running routine has, and how code is left (own rule; docs/language/code.md).
use Rattle.std.specs.Prelude.{ℕ, zero, suc, ◌+◌, ◌-◌, List, [], ◌∷◌, ◌++◌, slice_index, slice_set}
use Rattle.td_core.specs.declared.outcome.Reason.{Reason}
use Rattle.td_core.specs.declared.outcome.TraceFrame.{TraceFrame}

-- the registers of the routine, the cells of the entry point, where the frame begins, the position, the end, and the end outside of the window
pub record State : Type 0 where
  pub regs : List ℕ
  pub cells : List ℕ
  pub start : ℕ
  pub pos : ℕ
  pub end : ℕ
  pub outer : ℕ

abbrev pub reg : State → ℕ → ℕ
reg s r = slice_index s.regs r

abbrev pub with_reg : State → ℕ → ℕ → State
with_reg s r value = record s { regs = slice_set s.regs r value }

abbrev pub at_pos : State → ℕ → State
at_pos s pos = record s { pos = pos }

-- how many bytes are left
abbrev pub left : State → ℕ
left s = s.end - s.pos

-- n registers from one on
abbrev pub registers_from : List ℕ → ℕ → ℕ → List ℕ
registers_from regs first zero = []
registers_from regs first (suc n) = slice_index regs first ∷ registers_from regs (first + 1) n

-- how a stretch of code is left: by a return at a position, at the end of a loop's turn, or by a failure with its reason, its position and its frames, the innermost first; verified code is never stuck
pub data Way : Type 0 where
  Returned : (pos : ℕ) (cells : List ℕ) → Way
  Turned : State → Way
  Failed : (reason : Reason) (pos : ℕ) (trace : List TraceFrame) (cells : List ℕ) → Way
  Stuck : Way

-- with the places of the bytes that were looked at, in order, and the count of steps
pub record Exit : Type 0 where
  pub way : Way
  pub touched : List ℕ
  pub steps : ℕ

-- left at once
abbrev pub at_once : Way → Exit
at_once way = record { way = way; touched = []; steps = 0 }

-- the same after these places were looked at, in so many steps
abbrev pub after : List ℕ → ℕ → Exit → Exit
after places steps e = record { way = e.way; touched = places ++ e.touched; steps = steps + e.steps }
