use Rattle.std.proofs.Common.{◌≡◌, take}
use Rattle.td_num.specs.Numbers.{places_from}
use Rattle.td_vm.proofs.entry.set_own_places.Given as goal

abbrev pub invariant-loop-i : goal.invariant-loop-i
invariant-loop-i l = take l.i l.mine ≡ places_from 0 l.i
