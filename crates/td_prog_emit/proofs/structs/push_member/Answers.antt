use Rattle.std.proofs.Common.{sym, ◌∙◌}
use Rattle.td_prog_emit.proofs.Lines.{chosen, other}
use Rattle.td_prog_emit.proofs.Texts.{none}
use Rattle.td_prog_emit.proofs.structs.push_member.Goals as goal

pub returns-then-of : goal.returns-then-of
returns-then-of c = chosen _ _ (sym c.is_of-of.ensures ∙ c.if-of.true) c.push_member_line.ensures

pub returns-else-of : goal.returns-else-of
returns-else-of c = other _ _ (sym c.is_of-of.ensures ∙ c.if-of.false) (none c.args.out.now.items)
