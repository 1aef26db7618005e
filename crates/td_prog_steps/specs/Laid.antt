-- Code whose blocks are laid well (draft; each follows of what the verifier promises).
use Rattle.td_prog_trees.specs.Agree.{Basis}
use Rattle.std.specs.Prelude.{◌≡◌, ℕ, ◌+◌, ◌*◌, ◌^◌, ◌<◌, ◌≤◌, ◌&&◌, List, [], ◌∷◌, nat_lt, nat_eq, true, length, slice_range, slice_get, slice_index, Some}
use Rattle.td_ir.specs.declared.instructions.Instr.{Instr}
use Rattle.td_ir.specs.declared.instructions.Instr.TheVariants as i
use Rattle.td_ir.specs.declared.tables.Parts.{Parts}
use Rattle.td_ir.specs.Tables.{routine_of, first_of, end_of}
use Rattle.td_ir.specs.State.{State, Turned}
use Rattle.td_ir.specs.Run.{block}
use Rattle.td_prog.specs.Syntax.{Block}
use Rattle.td_prog.specs.Text.{HasLabel}
use Rattle.td_verify.specs.Operands.{IsWidth, IsCellMap}
use Rattle.td_prog_code.specs.Program.{blocks}

-- where the blocks begin that stand before a place: the instructions behind an Again begin one of their own
abbrev pub tail_of : List ℕ → List ℕ
tail_of [] = []
tail_of (q ∷ qs) = qs

abbrev pub begins_behind : Instr → List ℕ → List ℕ
begins_behind (i.While target) qs = tail_of (tail_of qs)
begins_behind (i.Again target) qs = qs
begins_behind j qs = tail_of qs

abbrev pub begins : ℕ → List Instr → List ℕ
begins pc [] = pc ∷ []
begins pc (j ∷ js) = pc ∷ begins_behind j (begins (pc + 1) js)

-- what a routine was given of the run's: buffers of its own rooms, cells that are no buffer's, and its buffers' two cells
pub record OwnFits (c : Parts) (basis : Basis) (n : ℕ) (places own : List ℕ) : Type 0 where
  pub rooms : (b : ℕ) → b < length (routine_of c n).buffers → slice_index basis.lengths (slice_index own b) ≡ slice_index (routine_of c n).buffers b
  pub there : (b : ℕ) → b < length (routine_of c n).buffers → slice_index own b < length basis.lengths
  pub cells : (k : ℕ) → k < (routine_of c n).cells → slice_index places k < basis.first
  pub place : (b : ℕ) → b < length (routine_of c n).buffers → slice_index places ((routine_of c n).cells + 2 * b) ≡ basis.first + 2 * slice_index own b
  pub count : (b : ℕ) → b < length (routine_of c n).buffers
      → slice_index places ((routine_of c n).cells + 2 * b + 1) ≡ basis.first + 2 * slice_index own b + 1

-- a turn that ends takes a byte, and leaves the end
abbrev pub IsBusy : (c : Parts) → (message places : List ℕ) → (n pc : ℕ) → Type 0
IsBusy c message places n pc =
    (s t : State) → s.pos ≤ s.end → s.end ≤ s.outer → (block c message n places (pc + 1) s).way ≡ Turned t →
    (nat_lt s.pos t.pos && nat_eq t.end s.end) ≡ true

module _ (c : Parts) (message places : List ℕ) (n : ℕ) where
  -- a loop's body stands first, and next what is behind it, which begins at the target
  abbrev pub IsLoop : (pc target : ℕ) → List ℕ → Type 0
  IsLoop pc target [] = ⊥
  IsLoop pc target (q ∷ []) = ⊥
  IsLoop pc target (q ∷ r ∷ more) = (r ≡ target) × (pc + 1 < target) × (target < end_of c n) × IsBusy c message places n pc

  abbrev pub IsJump : (pc target : ℕ) → List Block → Type 0
  IsJump pc target [] = ⊥
  IsJump pc target (rest ∷ more) = (pc < target) × (target < end_of c n) × HasLabel target rest

  abbrev pub GoesOn : ℕ → Type 0
  GoesOn pc = pc + 1 < end_of c n

  abbrev pub IsLaid : ℕ → Instr → List ℕ → List Block → Type 0
  IsLaid pc (i.Const into value) qs bs = GoesOn pc × (value < 2 ^ 64)
  IsLaid pc (i.Op into operator x y) qs bs = GoesOn pc × (operator ≤ 13)
  IsLaid pc (i.Bits into source low count) qs bs = GoesOn pc × (low < 64)
  IsLaid pc (i.Jump target) qs bs = IsJump pc target bs
  IsLaid pc (i.JumpIf test target) qs bs = GoesOn pc × IsJump pc target bs
  IsLaid pc (i.JumpUnless test target) qs bs = GoesOn pc × IsJump pc target bs
  IsLaid pc (i.Call first m k site) qs bs = GoesOn pc × (m < n) × IsCellMap c n m k
  IsLaid pc i.Return qs bs = Unit {0}
  IsLaid pc (i.Fetch into order width site) qs bs = GoesOn pc × IsWidth width
  IsLaid pc (i.Zeroterm bound width site) qs bs = GoesOn pc × IsWidth width
  IsLaid pc (i.Divides size step site) qs bs = GoesOn pc × (0 < step)
  IsLaid pc (i.While target) qs bs = IsLoop pc target qs
  IsLaid pc (i.Again target) qs bs = Unit {0}
  IsLaid pc (i.Fail reason site) qs bs = Unit {0}
  IsLaid pc (i.Set source cell) qs bs = GoesOn pc × (cell < (routine_of c n).cells)
  IsLaid pc (i.Copy size buffer site) qs bs = GoesOn pc × (buffer < length (routine_of c n).buffers)
  IsLaid pc j qs bs = GoesOn pc

  abbrev pub AreLaid : ℕ → List Instr → Type 0
  AreLaid pc [] = Unit {0}
  AreLaid pc (j ∷ js) = IsLaid pc j (begins (pc + 1) js) (blocks c n (pc + 1) js) × AreLaid (pc + 1) js

-- all routines of code, on each message
pub record IsWellLaid (c : Parts) : Type 0 where
  pub divided : (n : ℕ) → n < length c.routines → end_of c n ≤ length c.instructions
  pub laid : (message places : List ℕ) (n : ℕ) → n < length c.routines
      → AreLaid c message places n (first_of c n) (slice_range c.instructions (first_of c n) (end_of c n))
  pub some : (n : ℕ) → n < length c.routines → 0 < length (blocks c n (first_of c n) (slice_range c.instructions (first_of c n) (end_of c n)))

-- constants are numbers of 64 bits, as their type has it
abbrev pub AreNumbers : Parts → Type 0
AreNumbers c = (p into value : ℕ) → slice_get c.instructions p ≡ Some (i.Const into value) → value < 2 ^ 64
