use Rattle.std.proofs.Common.{sym, ◌∙◌}
use Rattle.td_prog_emit.proofs.Lines.{chosen, other}
use Rattle.td_prog_emit.proofs.Texts.{none}
use Rattle.td_prog_emit.proofs.structs.push_record_at.Goals as goal

pub returns-then-begins : goal.returns-then-begins
returns-then-begins c = chosen _ _ (sym c.begins_record-begins.ensures ∙ c.if-begins.true) c.push_record_struct.ensures

pub returns-else-begins : goal.returns-else-begins
returns-else-begins c = other _ _ (sym c.begins_record-begins.ensures ∙ c.if-begins.false) (none c.args.out.now.items)
