use Rattle.td_prog_emit.proofs.pieces.push_mask.Goals as goal
use Rattle.std.proofs.Common.{ap}
use Rattle.td_prog_emit.proofs.Texts.{same_piece}
use Rattle.td_prog_text.specs.Expressions.{numeral}

pub returns : goal.returns
returns c = same_piece c.push_numeral.ensures (ap numeral c.lowest_bits.ensures)
