-- The room that a routine needs with its calls: the greatest over the chains of calls that begin at it (own rule).
use Rattle.std.specs.Prelude.{ℕ, zero, suc, ◌+◌, ◌*◌, max, cond, nat_eq, List, length, map, slice_index}
use Rattle.td_num.specs.Numbers.{places_from}
use Rattle.td_vm.specs.Imports.{Parts, Shape, Call}
use Rattle.td_ir.specs.Tables.{routine_of, entry_of, lengths_of, begin}
use Rattle.td_verify.specs.Shape.{shapes_of}
use Rattle.td_verify.specs.Brackets.{shape_at}

-- what is said of the routine that an instruction calls; nothing of other instructions
abbrev pub called : (ℕ → ℕ) → Shape → ℕ
called f (Call m) = f m
called f j = 0

-- the greatest of k instructions from a place on
abbrev pub greatest : List Shape → (ℕ → ℕ) → ℕ → ℕ → ℕ
greatest s f from zero = 0
greatest s f from (suc k) = max (greatest s f from k) (called f (shape_at s (from + k)))

-- the need of routine m, of the first n, where f says what a routine takes itself
abbrev pub need : (ℕ → ℕ) → List Shape → List ℕ → ℕ → ℕ → ℕ
need f s ls zero m = 0
need f s ls (suc n) m = cond (nat_eq m n) (f n + greatest s (need f s ls n) (begin ls n) (slice_index ls n)) (need f s ls n m)

-- what the calls of routine n need
abbrev pub room_below : (ℕ → ℕ) → Parts → ℕ → ℕ
room_below f c n = greatest (shapes_of c) (need f (shapes_of c) (lengths_of c) n) (begin (lengths_of c) n) (slice_index (lengths_of c) n)

-- the greatest need of the first n routines, and of all
abbrev pub most : (ℕ → ℕ) → Parts → ℕ → ℕ
most f c zero = 0
most f c (suc n) = max (most f c n) (f n + room_below f c n)

abbrev pub most_need : (ℕ → ℕ) → Parts → ℕ
most_need f c = most f c (length c.routines)

-- what routine n takes itself: registers, places of cells (two for each buffer too), a level of calls
abbrev pub registers : Parts → ℕ → ℕ
registers c n = (routine_of c n).registers

abbrev pub cells : Parts → ℕ → ℕ
cells c n = (routine_of c n).cells + 2 * length (routine_of c n).buffers

abbrev pub level : ℕ → ℕ
level n = 1

-- the greatest of what is said of the first n entry points, and of all
abbrev pub greatest_of : (ℕ → ℕ) → ℕ → ℕ
greatest_of f zero = 0
greatest_of f (suc n) = max (greatest_of f n) (f n)

abbrev pub of_entries : Parts → (ℕ → ℕ) → ℕ
of_entries c f = greatest_of f (length c.entries)

-- the cells of entry point n, with two for each of its buffers, and the rooms of these
abbrev pub entry_cells : Parts → ℕ → ℕ
entry_cells c n = length (entry_of c n).cells + 2 * length (entry_of c n).buffers

abbrev pub entry_rooms : Parts → ℕ → List ℕ
entry_rooms c n = (routine_of c (entry_of c n).routine).buffers

abbrev pub most_entry_cells : Parts → ℕ
most_entry_cells c = of_entries c (entry_cells c)

-- the greatest rooms, place by place
abbrev pub most_buffers : Parts → ℕ
most_buffers c = of_entries c (λ n. length (entry_rooms c n))

abbrev pub most_room : Parts → ℕ → ℕ
most_room c k = of_entries c (λ n. slice_index (entry_rooms c n) k)

abbrev pub most_rooms : Parts → List ℕ
most_rooms c = map (most_room c) (places_from 0 (most_buffers c))
