-- What is counted of a routine; of use in this crate alone.
use Rattle.std.specs.Prelude.{ℕ}
use Rattle.td_ir.specs.declared.tables.Parts.{Parts}
use Rattle.td_vm.specs.Need.{level}
use Rattle.td_prog_stack.specs.Depth.{variables}
use Rattle.td_prog_stack.specs.declared.depth.Counted.{Counted}
use Rattle.td_prog_stack.specs.declared.depth.Counted.TheVariants.{Functions, Variables}

abbrev pub counted_of : Counted → Parts → ℕ → ℕ
counted_of Functions c n = level n
counted_of Variables c n = variables c n
