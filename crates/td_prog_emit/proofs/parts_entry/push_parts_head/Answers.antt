use Rattle.std.proofs.Common.{refl}
use Rattle.td_prog_emit.proofs.Texts.{joined, recut}
use Rattle.td_prog_emit.proofs.parts_entry.push_parts_head.Goals as goal

pub returns : goal.returns
returns c = recut (joined (c.in_ok-push.ensures {u = tt}) (joined (c.in_ok-push-2.ensures {u = tt}) (joined (c.in_ok-push-3.ensures {u = tt}) (joined (c.in_ok-push_title.ensures {u = tt}) (joined (c.in_ok-push-4.ensures {u = tt}) (joined (c.in_ok-push_params.ensures {u = tt}) (joined (c.in_ok-push_pointers.ensures {u = tt}) (joined (c.in_ok-push_copy_pointers.ensures {u = tt}) c.push-5.ensures)))))))) refl
