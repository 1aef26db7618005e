use Rattle.std.proofs.Common.{refl}
use Rattle.td_prog_emit.proofs.Texts.{joined, recut}
use Rattle.td_prog_emit.proofs.fixed.push_header_front.Goals as goal

pub returns : goal.returns
returns c = recut (joined (c.in_ok-push.ensures {u = tt}) (joined (c.in_ok-push-2.ensures {u = tt}) (joined (c.in_ok-push-3.ensures {u = tt}) (joined (c.in_ok-push-4.ensures {u = tt}) (joined (c.in_ok-push-5.ensures {u = tt}) (joined (c.in_ok-push_types_text.ensures {u = tt}) (joined (c.in_ok-push-6.ensures {u = tt}) (joined (c.in_ok-push_reasons_text.ensures {u = tt}) (joined (c.in_ok-push_outcome_text.ensures {u = tt}) c.push_piece_text.ensures))))))))) refl
