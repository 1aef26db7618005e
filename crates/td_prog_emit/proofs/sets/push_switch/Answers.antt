use Rattle.std.proofs.Common.{refl}
use Rattle.td_prog_emit.proofs.Texts.{joined, recut}
use Rattle.td_prog_emit.proofs.sets.push_switch.Goals as goal

pub returns : goal.returns
returns c = recut (joined (c.in_ok-push_begun.ensures {u = tt}) (joined (c.in_ok-push_register_in.ensures {u = tt}) (joined (c.in_ok-push_among.ensures {u = tt}) (joined (c.in_ok-push_line.ensures {u = tt}) (joined (c.in_ok-push_answer.ensures {u = tt}) c.push_close.ensures))))) refl
