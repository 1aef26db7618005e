use Rattle.std.proofs.Common.{◌∙◌}
use Rattle.td_meaning_plain.proofs.Copied.{bytes_more}
use Rattle.td_meaning_plain.proofs.copies.bytes_from.Goals as goal

pub loop-k-preserved : goal.loop-k-preserved
loop-k-preserved c = c.in_ok-push.ensures.ok ∙ bytes_more c.args.message.now c.args.place c.loop-k.k c.byte_from.result c.loop-k.bytes c.loop-k.invariant c.byte_from.ensures
