-- The deepest chain of calls of a program, by what its code needs (own rule).
use Rattle.std.specs.Prelude.{◌≡◌, ℕ, ◌+◌, ◌<◌, ◌≤◌, List, length}
use Rattle.td_ir.specs.declared.tables.Parts.{Parts}
use Rattle.td_ir.specs.WellFormed.{IsCode}
use Rattle.td_verify.specs.Verify.{IsSound}
use Rattle.td_vm.specs.Need.{level}
use Rattle.td_prog.specs.Syntax.{Function}
use Rattle.td_prog_code.specs.Program.{function, program}
use Rattle.td_prog_stack.specs.Chains.{functions_open, variables_open, of_routines, chain}
use Rattle.td_prog_stack.specs.Depth.{need_from, variables, functions_deep, variables_deep}

-- so many, and at most so many on top
pub record IsFrom (need more n : ℕ) : Type 0 where
  pub least : need ≤ n
  pub most : n ≤ need + more

-- The deepest chain that begins at routine n: of what is said of routines alone it is just the code's need; on top of that come helpers, at most three, with seven variables at most.
-- So no chain has more functions, or more variables, than are counted of the code.
pub record IsNeed (c : Parts) (names : ℕ → List ℕ) (n : ℕ) : Type 0 where
  pub routines : (own : Function → ℕ) → chain (of_routines own) (program c names) n ≡ need_from (λ m. own (function c names m)) c n
  pub variables_alone : chain (of_routines variables_open.routine) (program c names) n ≡ need_from (variables c) c n
  pub functions : IsFrom (need_from level c n) 3 (chain functions_open (program c names) n)
  pub variables : IsFrom (need_from (variables c) c n) 7 (chain variables_open (program c names) n)
  pub functions_most : chain functions_open (program c names) n ≤ functions_deep c
  pub variables_most : chain variables_open (program c names) n ≤ variables_deep c

abbrev pub StackIsNeed : Type 0
StackIsNeed = (c : Parts) (names : ℕ → List ℕ) (n : ℕ) → IsCode c → IsSound c → n < length c.routines → IsNeed c names n
