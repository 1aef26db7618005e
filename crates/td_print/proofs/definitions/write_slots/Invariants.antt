use Rattle.std.proofs.Common.{◌≡◌, ◌++◌, take, flat_map}
use Rattle.td_print_layout.specs.Pieces.{text_of}
use Rattle.td_print_layout.specs.Definitions.{slot_line}
use Rattle.td_print.proofs.definitions.write_slots.Given as goal

abbrev pub invariant-loop-slot : goal.invariant-loop-slot
invariant-loop-slot l = l.out ≡ l.fn.out ++ text_of (flat_map slot_line (take l.slot-index l.slots))
