use Rattle.std.proofs.Common.{refl}
use Rattle.td_prog_emit.proofs.Texts.{joined, recut}
use Rattle.td_prog_emit.proofs.bytes.push_room_by.Goals as goal

pub returns : goal.returns
returns c = recut (joined (c.in_ok-push_begun.ensures {u = tt}) (joined (c.in_ok-push_numeral_in.ensures {u = tt}) c.push_refusal.ensures)) refl
