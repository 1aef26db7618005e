use Rattle.std.proofs.Common.{◌<◌, arith}
use Rattle.td_vm.proofs.Turns.{sliced}
use Rattle.td_vm.proofs.machine.arguments.Goals as goal

pub returns-else-count-eq0 : goal.returns-else-count-eq0
returns-else-count-eq0 c =
    let some : 0 < c.args.count = omega (arith, c.if-count-eq0.false) in
    sliced c.args.regs.now c.args.first c.args.count (c.requires some)
