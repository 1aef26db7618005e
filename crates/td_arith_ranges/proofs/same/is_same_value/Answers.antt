use Rattle.std.proofs.Common.{◌∙◌, sym}
use Rattle.td_arith_ranges.proofs.Comparing.{value_decides}
use Rattle.td_arith_ranges.proofs.same.is_same_value.Goals as goal

pub returns-in-Some : goal.returns-in-Some
returns-in-Some c = c.has_value.ensures ∙ value_decides c.args.a.now c.args.b.now c.in-Some.value (sym c.constant_of.ensures ∙ c.in-Some.is)
