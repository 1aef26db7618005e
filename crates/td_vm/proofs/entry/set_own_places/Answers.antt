use Rattle.std.proofs.Common.{◌<◌, length, arith}
use Rattle.td_vm.proofs.Turns.{own_more}
use Rattle.td_vm.proofs.entry.set_own_places.Goals as goal

pub loop-i-preserved : goal.loop-i-preserved
loop-i-preserved c = let l : c.loop-i.i < length c.loop-i.mine = omega (arith, c.loop-i-test.true, c.loop-i.auto.mine) in own_more c.loop-i.mine c.loop-i.i l c.loop-i.invariant
