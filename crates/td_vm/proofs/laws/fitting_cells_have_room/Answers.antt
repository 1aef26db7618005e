use Rattle.td_vm.proofs.Rooms.{fitting_cells}
use Rattle.td_vm.proofs.laws.fitting_cells_have_room.Goals as goal

pub returns : goal.returns
returns c = fitting_cells
