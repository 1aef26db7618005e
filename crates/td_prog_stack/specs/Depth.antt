-- How deep the functions of a program call each other, by what td_vm says that its code needs (own rule).
use Rattle.std.specs.Prelude.{ℕ, ◌+◌}
use Rattle.td_ir.specs.declared.tables.Parts.{Parts}
use Rattle.td_vm.specs.Need.{room_below, most_need, registers, level}

-- the need of routine n with its calls, where f says what a routine takes itself
abbrev pub need_from : (ℕ → ℕ) → Parts → ℕ → ℕ
need_from f c n = f n + room_below f c n

-- a routine's variables in C: `pos`, `end`, `start`, `outer`, `number`, `most`, `room` and its registers
abbrev pub variables : Parts → ℕ → ℕ
variables c n = registers c n + 7

-- at most so many functions are open at once, with so many variables: routines by the code's need, and helpers behind them
abbrev pub functions_deep : Parts → ℕ
functions_deep c = most_need level c + 3

abbrev pub variables_deep : Parts → ℕ
variables_deep c = most_need (variables c) c + 7
