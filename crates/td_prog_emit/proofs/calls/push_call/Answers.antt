use Rattle.std.proofs.Common.{refl}
use Rattle.td_prog_emit.proofs.Texts.{joined, recut}
use Rattle.td_prog_emit.proofs.calls.push_call.Goals as goal

pub returns : goal.returns
returns c whole = recut (joined (c.in_ok-push_begun.ensures {u = tt}) (joined (c.in_ok-push_called.ensures {u = tt}) (joined (c.in_ok-push.ensures {u = tt}) (joined (c.in_ok-push_arguments.ensures {u = tt}) (joined (c.in_ok-push-2.ensures {u = tt}) (joined (c.in_ok-push_line.ensures {u = tt}) (joined (c.in_ok-push_frame.ensures {u = tt}) c.push_close.ensures))))))) refl
