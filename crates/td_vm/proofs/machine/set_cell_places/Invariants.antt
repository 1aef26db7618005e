use Rattle.std.proofs.Common.{◌≡◌, take}
use Rattle.td_ir.specs.Run.{places_by}
use Rattle.td_vm.proofs.machine.set_cell_places.Given as goal

abbrev pub invariant-loop-i : goal.invariant-loop-i
invariant-loop-i l = take l.i l.mine ≡ places_by l.places (take l.i l.map)
