use Rattle.td_prog_emit.proofs.blocks.push_place.Goals as goal
use Rattle.std.proofs.Common.{ap, ◌∙◌}
use Rattle.std.specs.Prelude.{◌∷◌, ◌++◌}
use Rattle.td_ir.specs.declared.instructions.Instr.{Instr}
use Rattle.td_prog_emit.specs.Labels.{bound, depth_in}
use Rattle.td_prog_emit.specs.Written.{pieces_of}
use Rattle.td_prog_emit.proofs.Texts.{joined, recut}
use Rattle.td_prog_text.specs.Expressions.{text}
use Rattle.td_prog_text.specs.Statements.{label_text}
use Rattle.td_verify.specs.Shape.{shape}
use Rattle.td_verify.specs.declared.shape.Shape.{Shape}
use Rattle.std.proofs.Common.{ℕ, subst, sym}
use Rattle.td_ir.specs.Tables.{lengths_of}
use Rattle.td_verify.proofs.Sums.{shape_there}
use Rattle.td_verify.specs.Operands.{HasOperands, HasTables}
use Rattle.td_verify.specs.Rules.{CallsWell}
use Rattle.td_verify.specs.Shape.{shapes_of}
use Rattle.td_verify.specs.Verify.{depths}

pub push_instruction-requires-clause-tables : goal.push_instruction-requires-clause-tables
push_instruction-requires-clause-tables c = subst (HasTables c.args.parts.now c.args.n) (sym c.instruction_at-instruction.ensures) (c.requires.safe.each c.args.n c.args.pc c.requires.place).tables

pub push_instruction-requires-clause-operands : goal.push_instruction-requires-clause-operands
push_instruction-requires-clause-operands c = subst HasOperands (sym c.instruction_at-instruction.ensures) (c.requires.safe.each c.args.n c.args.pc c.requires.place).operands

pub push_instruction-requires-clause-calls : goal.push_instruction-requires-clause-calls
push_instruction-requires-clause-calls c =
    subst (λ (z : Shape). CallsWell (depths (shapes_of c.args.parts.now) (lengths_of c.args.parts.now) c.args.n) c.args.n z)
    (shape_there c.args.parts.now c.args.pc ∙ ap shape (sym c.instruction_at-instruction.ensures))
    (c.requires.safe.each c.args.n c.args.pc c.requires.place).calls

pub returns : goal.returns
returns c whole =
    recut (joined (c.in_ok-push_label.ensures {u = tt}) (joined (c.in_ok-push_instruction.ensures {u = tt} whole) c.push_bound.ensures))
    (ap (λ (z : Shape). text (label_text c.args.is c.args.pc ∷ (pieces_of c.args.parts.now c.args.n whole c.depth_of.result c.instruction_at-instruction.result ++ bound z))) c.shape_of.ensures
    ∙ ap (λ (d : ℕ). text (label_text c.args.is c.args.pc ∷ (pieces_of c.args.parts.now c.args.n whole d c.instruction_at-instruction.result ++ bound (shape c.instruction_at-instruction.result)))) c.depth_of.ensures
    ∙ ap (λ (j : Instr). text (label_text c.args.is c.args.pc ∷ (pieces_of c.args.parts.now c.args.n whole (depth_in c.args.looped) j ++ bound (shape j)))) c.instruction_at-instruction.ensures)
