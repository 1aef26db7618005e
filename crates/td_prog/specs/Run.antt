-- What programs of the small C mean (own rule): each function calls those above it, so a run is a recursion on their number.
use Rattle.std.specs.Prelude.{ℕ, zero, suc, ◌-◌, ◌++◌, cond, List, [], ◌∷◌, length, replicate, slice_get, nat_eq, nat_lt, ◌+◌, ◌/◌}
use Rattle.td_num.specs.Numbers.{places_from}
use Rattle.td_prog.specs.Tree.{Tree, Done, Loads}
use Rattle.td_prog.specs.Syntax.{Var, Reg, Helper, Function, Program}
use Rattle.td_prog.specs.Values.{Locals, written}
use Rattle.td_prog.specs.Means.{Out, Undefined, nowhere, given, Helpers, Routines, block_means}

-- a function's variables, declared with `= 0`, with these registers; and what all functions share
abbrev pub declared : List ℕ → Locals → Locals
declared regs s = record {
  next = s.next;
  held = s.held;
  cells = s.cells;
  buffers = s.buffers;
  pos = 0;
  end = 0;
  start = 0;
  outer = 0;
  regs = regs;
  word = 0;
  low = 0;
  number = 0;
  more = 0;
  most = 0;
  room = 0;
  count = 0;
}

-- parameters get their values
abbrev pub with_values : List Var → List ℕ → Locals → Locals
with_values [] vs s = s
with_values (x ∷ xs) [] s = s
with_values (x ∷ xs) (v ∷ vs) s = with_values xs vs (written x v s)

abbrev pub no_routine : Routines
no_routine n args places buffers s = Done Undefined

-- as many registers as these variables name
abbrev pub registers_of : List Var → ℕ → ℕ
registers_of [] n = n
registers_of (Reg k ∷ xs) n = registers_of xs (cond (nat_lt k n) n (suc k))
registers_of (x ∷ xs) n = registers_of xs n

-- a helper's variables, before its parameters get their values
abbrev pub begun : Helper → Locals → Locals
begun h s = declared (replicate (registers_of h.locals (registers_of h.params 0)) 0) s

abbrev pub no_helper : Helpers
no_helper n vs buffers s = Done Undefined

-- helper n, of those below k; helpers with other numbers are these
abbrev pub helpers_over : Helpers → ℕ → List Helper → ℕ → Helpers
helpers_over others most hs zero n vs buffers s = others n vs buffers s
helpers_over others most hs (suc k) n vs buffers s =
    cond (nat_eq n k)
    (given (slice_get hs k) (λ h. (block_means most (helpers_over others most hs k) no_routine [] buffers h.body nowhere []).0 (with_values h.params vs (begun h s))))
    (helpers_over others most hs k n vs buffers s)

abbrev pub helpers_below : ℕ → List Helper → ℕ → Helpers
helpers_below most hs k = helpers_over no_helper most hs k

-- the first registers are the parameters; a routine begins at the caller's position, and its end is the caller's
abbrev pub entered : ℕ → List ℕ → Locals → Locals
entered registers args s = record (declared (args ++ replicate (registers - length args) 0) s) { pos = s.pos; end = s.end }

-- routine n, of those below k, with these helpers
abbrev pub routines_over : Helpers → ℕ → List Function → ℕ → Routines
routines_over helpers most fs zero n args places buffers s = Done Undefined
routines_over helpers most fs (suc k) n args places buffers s =
    cond (nat_eq n k)
    (given (slice_get fs k) (λ f. (block_means most helpers (routines_over helpers most fs k) places buffers f.body nowhere []).0 (entered f.registers args s)))
    (routines_over helpers most fs k n args places buffers s)

abbrev pub routines_below : ℕ → Program → ℕ → Routines
routines_below most p k = routines_over (helpers_below most p.helpers (length p.helpers)) most p.routines k

-- before the first statement: from byte 0 to a message's end, with cells and buffers; nothing was loaded
abbrev pub started : (size : ℕ) → (cells : List ℕ) → (buffers : List (List ℕ)) → Locals
started size cells buffers = record (declared [] (record {
  next = 0;
  held = 0;
  cells = cells;
  buffers = buffers;
  pos = 0;
  end = 0;
  start = 0;
  outer = 0;
  regs = [];
  word = 0;
  low = 0;
  number = 0;
  more = 0;
  most = 0;
  room = 0;
  count = 0;
})) { end = size }

-- a routine, run from outside, with all cells and all buffers
abbrev pub run_from : Routines → (routine : ℕ) → (size : ℕ) → (args cells : List ℕ) → (buffers : List (List ℕ)) → Tree Out
run_from routines n size args cells buffers =
    routines n args (places_from 0 (length cells)) (places_from 0 (length buffers)) (started size cells buffers)

-- the same of a program, where each loop takes at most so many turns
abbrev pub free_run : (most : ℕ) → Program → (routine : ℕ) → (size : ℕ) → (args cells : List ℕ) → (buffers : List (List ℕ)) → Tree Out
free_run most p n size args cells buffers = run_from (routines_below most p (length p.routines)) n size args cells buffers

-- the same over so many words: C has no word behind them, so there is no such load
abbrev pub guarded : (words : ℕ) → Tree Out → Tree Out
guarded words (Done x) = Done x
guarded words (Loads w k) = cond (nat_lt w words) (Loads w (λ v. guarded words (k v))) (Done Undefined)

-- over a message of so many bytes
abbrev pub run : (most : ℕ) → Program → (routine : ℕ) → (size : ℕ) → (args cells : List ℕ) → (buffers : List (List ℕ)) → Tree Out
run most p n size args cells buffers = guarded ((size + 7) / 8) (free_run most p n size args cells buffers)
