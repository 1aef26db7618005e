use Rattle.td_prog_emit.proofs.routine.push_function.Goals as goal
use Rattle.std.proofs.Common.{refl}
use Rattle.td_prog_code.specs.Program.{body}
use Rattle.td_prog_emit.proofs.Texts.{joined, recut}

pub returns : goal.returns
returns c =
    recut (joined (c.in_ok-push_head.ensures {u = tt}) (joined (c.in_ok-push_locals.ensures {u = tt}) (joined (c.in_ok-push.ensures {u = tt}) (joined (c.in_ok-push_blocks.ensures {u = tt} (body c.args.parts.now c.args.n) c.requires.marks) c.push-2.ensures)))) refl
