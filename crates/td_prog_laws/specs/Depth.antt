-- How deep the routines of a program call each other (own rule).
use Rattle.std.specs.Prelude.{◌≡◌, ℕ, ◌<◌, ◌≤◌, List, length, Some, slice_get}
use Rattle.td_ir.specs.declared.tables.Parts.{Parts}
use Rattle.td_ir.specs.WellFormed.{IsCode}
use Rattle.td_verify.specs.Verify.{IsSound}
use Rattle.td_prog.specs.Syntax.{Block, Ends, Assign, Store, Byte, Member, Load, If, While, Label, Goto, Fail, Return, CallHelper, Call, Function, Program}
use Rattle.td_prog_code.specs.Program.{program}

-- each routine that a block calls has a depth below this one
abbrev pub CallsLower : (depth : ℕ → ℕ) → ℕ → Block → Type 0
CallsLower depth d Ends = Unit {0}
CallsLower depth d (Assign x e rest) = CallsLower depth d rest
CallsLower depth d (Store k e rest) = CallsLower depth d rest
CallsLower depth d (Byte b e f rest) = CallsLower depth d rest
CallsLower depth d (Member x y numbers rest) = CallsLower depth d rest
CallsLower depth d (Load rest) = CallsLower depth d rest
CallsLower depth d (If e inner rest) = CallsLower depth d inner × CallsLower depth d rest
CallsLower depth d (While e inner rest) = CallsLower depth d inner × CallsLower depth d rest
CallsLower depth d (Label l rest) = CallsLower depth d rest
CallsLower depth d (Goto l rest) = CallsLower depth d rest
CallsLower depth d (Fail reason e ty field rest) = CallsLower depth d rest
CallsLower depth d (Return e rest) = CallsLower depth d rest
CallsLower depth d (CallHelper x helper es bs rest) = CallsLower depth d rest
CallsLower depth d (Call first params routine cs bs ty field rest) = (depth routine < d) × CallsLower depth d rest

-- Each routine has a depth from 1 to 32, above those of the routines that it calls. So at most 32 of them call each other at a time.
pub record IsShallow (p : Program) : Type 0 where
  pub depth : ℕ → ℕ
  pub some : (n : ℕ) → 1 ≤ depth n
  pub few : (n : ℕ) → n < length p.routines → depth n ≤ 32
  pub lower : (n : ℕ) (f : Function) → slice_get p.routines n ≡ Some f → CallsLower depth (depth n) f.body

-- The program of verified code calls at most 32 routines deep.
abbrev pub ProgramIsShallow : Type 0
ProgramIsShallow = (c : Parts) (names : ℕ → List ℕ) → IsCode c → IsSound c → IsShallow (program c names)
