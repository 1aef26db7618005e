use Rattle.td_prog_emit.proofs.labels.mark_all.Goals as goal
use Rattle.std.proofs.Common.{◌+◌, ◌<◌, length, arith}
use Rattle.td_prog_emit.proofs.Standing.{marked_more}

pub loop-at-preserved : goal.loop-at-preserved
loop-at-preserved c k h =
    let same = c.mark.auto.marks in
    let there : k < length c.loop-at.marks = omega (arith, h, same) in
    marked_more c.args.instructions.now c.loop-at.at (c.args.first + k) c.instruction_in.result _ _ c.loop-at-test.true c.instruction_in.ensures (c.mark.ensures k there) (c.loop-at.invariant k there)
