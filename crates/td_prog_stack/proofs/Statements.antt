-- What a statement adds to the calls behind it.
use Rattle.std.proofs.Common.{ℕ, zero, suc, ◌+◌, ◌≤◌, max, Bool, true, false, cond, arith}
use Rattle.std.specs.Prelude.{nat_eq}
use Rattle.td_ir.specs.declared.instructions.Instr.{Instr}
use Rattle.td_ir.specs.declared.instructions.Instr.TheVariants as i
use Rattle.td_ir.specs.declared.tables.Parts.{Parts}
use Rattle.td_verify.specs.Shape.{shape}
use Rattle.td_vm.specs.Need.{called}
use Rattle.td_prog.specs.Syntax.{Block}
use Rattle.td_prog_code.specs.Prelude.{little_helper, number_helper, copy_helper}
use Rattle.td_prog_code.specs.Instructions.{statement}
use Rattle.td_prog_stack.specs.Chains.{greatest_call}

-- what the code's need says of calls, and what the program's chains say: helpers take so many at most, and so do routines beyond their need
pub record AreNear (need helper routine : ℕ → ℕ) (d : ℕ) : Type 0 where
  pub helpers : (k : ℕ) → helper k ≤ d
  pub least : (m : ℕ) → need m ≤ routine m
  pub most : (m : ℕ) → routine m ≤ need m + d

module _ (c : Parts) (n : ℕ) (need helper routine : ℕ → ℕ) (d : ℕ) (near : AreNear need helper routine d) where
  abbrev pub G : Block → ℕ
  G b = greatest_call helper routine b

  -- a block of calls that need x, before others
  abbrev pub Adds : ℕ → (rest block : ℕ) → Type 0
  Adds x rest block = (x ≤ block) × (rest ≤ block) × (block ≤ max (x + d) rest)

  plain : (r : ℕ) → Adds 0 r r
  plain r = (omega arith, omega arith, omega arith)

  tested : (r : ℕ) → Adds 0 r (max 0 r)
  tested r = (omega arith, omega arith, omega arith)

  helped : (k r : ℕ) → Adds 0 r (max (helper k) r)
  helped k r = let h = near.helpers k in (omega arith, omega arith, omega (arith, h))

  either : (x r : ℕ) (b : Bool) (y z : Block) → Adds x r (G y) → Adds x r (G z) → Adds x r (G (cond b y z))
  either x r true y z h k = h
  either x r false y z h k = k

  pub adds : (j : Instr) (rest : Block) → Adds (called need (shape j)) (G rest) (G (statement c n j rest))
  adds (i.Const into value) rest = plain (G rest)
  adds (i.Member into source set) rest = plain (G rest)
  adds (i.Op into operator x y) rest = plain (G rest)
  adds (i.Bits into source low count) rest = plain (G rest)
  adds (i.Pos into) rest = plain (G rest)
  adds (i.Jump target) rest = plain (G rest)
  adds (i.JumpIf test target) rest = tested (G rest)
  adds (i.JumpUnless test target) rest = tested (G rest)
  adds (i.Call first m map site) rest = let a = near.least m in let b = near.most m in (omega (arith, a), omega arith, omega (arith, b))
  adds i.Return rest = plain (G rest)
  adds (i.Fetch into order width site) rest = let h = near.helpers (number_helper order width) in (omega arith, omega arith, omega (arith, h))
  adds (i.SkipK bytes site) rest = either 0 (G rest) (nat_eq bytes 0) rest _ (plain (G rest)) (tested (G rest))
  adds (i.Skip size site) rest = tested (G rest)
  adds i.Rest rest = plain (G rest)
  adds (i.Zeros site) rest = let h = near.helpers (little_helper 1) in (omega arith, omega arith, omega (arith, h))
  adds (i.Zeroterm bound width site) rest = let h = near.helpers (little_helper width) in (omega arith, omega arith, omega (arith, h))
  adds (i.NarrowK bytes site) rest = either 0 (G rest) (nat_eq bytes 0) _ _ (plain (G rest)) (tested (G rest))
  adds (i.Narrow size site) rest = tested (G rest)
  adds (i.Divides size step site) rest = tested (G rest)
  adds (i.While target) rest = plain (G rest)
  adds (i.Again target) rest = plain (G rest)
  adds (i.Widen site) rest = tested (G rest)
  adds (i.Fail reason site) rest = plain (G rest)
  adds (i.Get into cell) rest = plain (G rest)
  adds (i.Set source cell) rest = plain (G rest)
  adds i.Mark rest = plain (G rest)
  adds (i.Left into) rest = plain (G rest)
  adds (i.Copy size buffer site) rest = let h = near.helpers copy_helper in (omega arith, omega arith, omega (arith, h))
