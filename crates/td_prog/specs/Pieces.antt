-- What programs of the small C mean over a message in pieces (own rule). A message word is one of td_stream's: a piece with a word of the memory to which the piece's pointer leads.
use Rattle.std.specs.Prelude.{ℕ, ◌+◌, cond, List, [], ◌∷◌, length, nat_eq, nat_lt}
use Rattle.td_stream.specs.declared.stretch.Stretch.{Stretch}
use Rattle.td_stream.specs.Layouts.{length_in, count_in, word_at, offset_at}
use Rattle.td_prog.specs.Tree.{Tree, Done}
use Rattle.td_prog.specs.Syntax.{Program}
use Rattle.td_prog.specs.Means.{Out, Gave, Undefined, Helpers}
use Rattle.td_prog.specs.Run.{helpers_over, routines_over, run_from, guarded}

-- What the caller's table says of a byte of the message: `td_word_at(run, pos)`, the number of its message word, and `td_offset_at(run, pos)`, which byte of that word it is. These two are
-- fixed text. They have the numbers behind a program's helpers. No piece has a byte behind the message.
abbrev pub from_table : List Stretch → (first : ℕ) → Helpers
from_table layout first n (pos ∷ []) [] s =
    cond (nat_lt pos (length_in layout))
    (cond (nat_eq n first) (Done (Gave (word_at layout pos) s)) (cond (nat_eq n (first + 1)) (Done (Gave (offset_at layout pos) s)) (Done Undefined)))
    (Done Undefined)
from_table layout first n vs buffers s = Done Undefined

-- a program's helpers, over a message that lies so
abbrev pub helpers_in : List Stretch → (most : ℕ) → Program → Helpers
helpers_in layout most p = helpers_over (from_table layout (length p.helpers)) most p.helpers (length p.helpers)

abbrev pub free_run_in : List Stretch → (most : ℕ) → Program → (routine : ℕ) → (args cells : List ℕ) → (buffers : List (List ℕ)) → Tree Out
free_run_in layout most p n args cells buffers =
    run_from (routines_over (helpers_in layout most p) most p.routines (length p.routines)) n (length_in layout) args cells buffers

-- a routine, run from outside, over a message that lies so
abbrev pub run_in : List Stretch → (most : ℕ) → Program → (routine : ℕ) → (args cells : List ℕ) → (buffers : List (List ℕ)) → Tree Out
run_in layout most p n args cells buffers = guarded (count_in layout) (free_run_in layout most p n args cells buffers)
