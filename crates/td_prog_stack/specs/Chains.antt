-- What the deepest chain of calls of a program takes (own rule): functions that are open at once, each called by the one before it. What a compiler keeps
-- beside a function's variables, as the place to return to, isn't counted.
use Rattle.std.specs.Prelude.{ℕ, zero, suc, ◌+◌, max, cond, nat_eq, List, length, Option, Some, None, slice_get}
use Rattle.td_prog.specs.Syntax.{Block, Ends, Assign, Store, Byte, Member, Load, If, While, Label, Goto, Fail, Return, CallHelper, Call, Helper, Function, Program, routine_params, routine_locals}

-- what is counted of a function by itself
pub record Count : Type 0 where
  pub helper : Helper → ℕ
  pub routine : Function → ℕ

-- functions, each once
abbrev pub functions_open : Count
functions_open = record { helper = λ h. 1; routine = λ f. 1 }

-- variables: parameters, and what a function declares
abbrev pub variables_open : Count
variables_open = record { helper = λ h. length h.params + length h.locals; routine = λ f. length (routine_params f) + length (routine_locals f) }

-- something of routines alone
abbrev pub of_routines : (Function → ℕ) → Count
of_routines own = record { helper = λ h. 0; routine = own }

-- the greatest of the calls of a block, by what is said of each helper and of each routine
module _ (helper routine : ℕ → ℕ) where
  abbrev pub greatest_call : Block → ℕ
  greatest_call Ends = 0
  greatest_call (Assign x e rest) = greatest_call rest
  greatest_call (Store k e rest) = greatest_call rest
  greatest_call (Byte b e f rest) = greatest_call rest
  greatest_call (Member x y numbers rest) = greatest_call rest
  greatest_call (Load rest) = greatest_call rest
  greatest_call (If e inner rest) = max (greatest_call inner) (greatest_call rest)
  greatest_call (While e inner rest) = max (greatest_call inner) (greatest_call rest)
  greatest_call (Label l rest) = greatest_call rest
  greatest_call (Goto l rest) = greatest_call rest
  greatest_call (Fail reason e ty field rest) = greatest_call rest
  greatest_call (Return e rest) = greatest_call rest
  greatest_call (CallHelper x n es bs rest) = max (helper n) (greatest_call rest)
  greatest_call (Call first params n cs bs ty field rest) = max (routine n) (greatest_call rest)

abbrev pub nothing : ℕ → ℕ
nothing n = 0

-- a function and the deepest of its calls
abbrev pub helper_and_calls : Count → (helpers : ℕ → ℕ) → Option Helper → ℕ
helper_and_calls count helpers None = 0
helper_and_calls count helpers (Some h) = count.helper h + greatest_call helpers nothing h.body

abbrev pub routine_and_calls : Count → (helpers routines : ℕ → ℕ) → Option Function → ℕ
routine_and_calls count helpers routines None = 0
routine_and_calls count helpers routines (Some f) = count.routine f + greatest_call helpers routines f.body

-- the deepest chain that begins at helper n, of those below k: a helper calls those above it
abbrev pub helper_chain : Count → List Helper → (k n : ℕ) → ℕ
helper_chain count hs zero n = 0
helper_chain count hs (suc k) n = cond (nat_eq n k) (helper_and_calls count (helper_chain count hs k) (slice_get hs k)) (helper_chain count hs k n)

-- the deepest chain that begins at routine n, of those below k, and of all
abbrev pub routine_chain : Count → Program → (k n : ℕ) → ℕ
routine_chain count p zero n = 0
routine_chain count p (suc k) n =
    cond (nat_eq n k)
    (routine_and_calls count (helper_chain count p.helpers (length p.helpers)) (routine_chain count p k) (slice_get p.routines k))
    (routine_chain count p k n)

abbrev pub chain : Count → Program → ℕ → ℕ
chain count p n = routine_chain count p (length p.routines) n
