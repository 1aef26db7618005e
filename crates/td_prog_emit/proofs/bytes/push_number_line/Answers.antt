use Rattle.std.proofs.Common.{refl}
use Rattle.td_prog_emit.proofs.Texts.{joined, recut}
use Rattle.td_prog_emit.proofs.bytes.push_number_line.Goals as goal

pub returns : goal.returns
returns c = recut (joined (c.in_ok-push_begun.ensures {u = tt}) c.push_numeral_in.ensures) refl
