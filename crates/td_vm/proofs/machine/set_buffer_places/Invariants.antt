use Rattle.std.proofs.Common.{◌≡◌, ◌*◌, take}
use Rattle.td_ir.specs.Tables.{buffer_cells}
use Rattle.td_ir.specs.Run.{places_by}
use Rattle.td_vm.proofs.machine.set_buffer_places.Given as goal

abbrev pub invariant-loop-i : goal.invariant-loop-i
invariant-loop-i l = take (2 * l.i) l.mine ≡ places_by l.places (buffer_cells l.cells (take l.i l.buffers))
