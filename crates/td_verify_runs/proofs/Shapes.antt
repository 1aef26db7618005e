-- Shapes of the instructions of code. Cited by other crates.
use Rattle.std.proofs.Common.{◌≡◌, ℕ, sym, ap, ◌∙◌}
use Rattle.td_verify_runs.specs.Imports.{Parts, Instr}
use Rattle.td_ir.specs.Tables.{instruction_of}
use Rattle.td_verify.specs.Shape.{shape, shapes_of}
use Rattle.td_verify.specs.Brackets.{shape_at}
use Rattle.td_verify.proofs.Sums.{shape_there}

pub shape_here : (c : Parts) (p : ℕ) (j : Instr) → j ≡ instruction_of c p → shape_at (shapes_of c) p ≡ shape j
shape_here c p j e = shape_there c p ∙ ap shape (sym e)
