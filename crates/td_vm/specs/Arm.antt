-- What a chain of calls takes; of use in this crate alone.
use Rattle.std.specs.Prelude.{ℕ}
use Rattle.td_vm.specs.Imports.{Parts}
use Rattle.td_vm.specs.Need.{registers, cells, level}
use Rattle.td_vm.specs.declared.arm.NeedKind.{NeedKind}
use Rattle.td_vm.specs.declared.arm.NeedKind.TheVariants.{Registers, Cells, Levels}

abbrev pub own_of : NeedKind → Parts → ℕ → ℕ
own_of Registers c n = registers c n
own_of Cells c n = cells c n
own_of Levels c n = level n
