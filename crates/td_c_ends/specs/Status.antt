-- Exit statuses (own rule).
use Rattle.std.specs.Prelude.{ℕ}
use Rattle.td_c_ends.specs.declared.status.Status.{Status}
use Rattle.td_c_ends.specs.declared.status.Status.TheVariants.{Done, Refused, Usage, ReadFault, WriteFault, NoMemory}

abbrev pub number_of : Status → ℕ
number_of Done = 0
number_of Refused = 1
number_of Usage = 2
number_of ReadFault = 3
number_of WriteFault = 4
number_of NoMemory = 5
