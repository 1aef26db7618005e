use Rattle.std.proofs.Common.{◌<◌, length, refl, arith}
use Rattle.td_vm.proofs.Places.{pair_more}
use Rattle.td_vm.proofs.machine.set_buffer_places.Goals as goal

pub loop-i-preserved : goal.loop-i-preserved
loop-i-preserved c =
    let there : c.loop-i.i < length c.args.buffers.now = omega (arith, c.loop-i-test.true) in
    pair_more c.loop-i.mine _ c.args.places.now c.args.buffers.now c.args.cells c.loop-i.i (omega (arith, there, c.loop-i.auto.mine, c.requires.fits)) there c.loop-i.invariant refl
