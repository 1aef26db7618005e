use Rattle.std.proofs.Common.{◌≡◌, drop}
use Rattle.td_num.specs.Lists.{is_among}
use Rattle.td_meaning.proofs.enums.is_among.Given as goal

abbrev pub invariant-loop-value : goal.invariant-loop-value
invariant-loop-value l = is_among l.values l.number ≡ is_among (drop l.value-index l.values) l.number
