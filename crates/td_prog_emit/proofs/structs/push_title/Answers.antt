use Rattle.std.proofs.Common.{ap}
use Rattle.td_ir.specs.declared.tables.Routine.{Routine}
use Rattle.td_prog_emit.proofs.Texts.{same_piece}
use Rattle.td_prog_text.specs.Names.{name_of}
use Rattle.td_prog_emit.proofs.structs.push_title.Goals as goal

pub returns : goal.returns
returns c = same_piece c.push_name_of.ensures (ap (λ (r : Routine). name_of c.args.parts.now r.name) c.routine_at.ensures)
