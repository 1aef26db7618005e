-- Where cells and buffers lie, from routine to routine.
use Rattle.std.proofs.Common.{◌≡◌, ℕ, zero, suc, ◌+◌, ◌*◌, ◌<◌, List, [], ◌∷◌, ◌++◌, length, length-append, map, take, drop, refl, sym, ap, ◌∙◌, subst, arith, append_assoc}
use Rattle.std.specs.Prelude.{slice_index, slice_set, replicate}
use Rattle.std.proofs.lemmas.List.{get_or-map, get_or-append-add, length-map, length-take-le, length-drop, map-append, length-set}
use Rattle.std.proofs.Math.ListN.{get_or-append}
use Rattle.std.proofs.Math.Seq.{take-suc, take-suc-set}
use Rattle.td_num.specs.Numbers.{places_from}
use Rattle.td_core.specs.Held.{IsBufferAt}
use Rattle.td_core.specs.Outcome.{copies_by}
use Rattle.td_stream.specs.Copies.{held_by, empty_with}
use Rattle.td_vm.specs.Imports.{Parts}
use Rattle.td_ir.specs.Tables.{routine_of, map_of, buffer_cells, own_cells, cells_by}
use Rattle.td_ir.specs.Run.{places_by}
use Rattle.td_ir.proofs.Buffers.{buffer_count}
use Rattle.td_verify.specs.Operands.{AreBelow, IsCellMap}
use Rattle.td_vm_step.specs.Stepping.{HasPlaces}
use Rattle.td_vm.specs.Need.{cells}
use Rattle.td_vm.specs.Machine.{AreRoomy}

-- the cells of buffers

buffer_place : (k : ℕ) (bs : List ℕ) (i : ℕ) → i < length bs → slice_index (buffer_cells k bs) (2 * i) ≡ k + 2 * slice_index bs i
buffer_place k [] i h = absurd (omega (arith, h))
buffer_place k (b ∷ bs) zero h = refl
buffer_place k (b ∷ bs) (suc i) h =
    let e : 2 * suc i ≡ suc (suc (2 * i)) = omega arith in
    ap (slice_index (buffer_cells k (b ∷ bs))) e ∙ buffer_place k bs i (omega (arith, h))

buffer_size : (k : ℕ) (bs : List ℕ) (i : ℕ) → i < length bs → slice_index (buffer_cells k bs) (2 * i + 1) ≡ k + 2 * slice_index bs i + 1
buffer_size k [] i h = absurd (omega (arith, h))
buffer_size k (b ∷ bs) zero h = refl
buffer_size k (b ∷ bs) (suc i) h =
    let e : 2 * suc i + 1 ≡ suc (suc (2 * i + 1)) = omega arith in
    ap (slice_index (buffer_cells k (b ∷ bs))) e ∙ buffer_size k bs i (omega (arith, h))

buffer_append : (k : ℕ) (xs ys : List ℕ) → buffer_cells k (xs ++ ys) ≡ buffer_cells k xs ++ buffer_cells k ys
buffer_append k [] ys = refl
buffer_append k (x ∷ xs) ys = ap (λ zs. (k + 2 * x) ∷ (k + 2 * x + 1) ∷ zs) (buffer_append k xs ys)

-- a callee's places

pub callee_places : (c : Parts) (n m k : ℕ) (places : List ℕ) (first size : ℕ) (rooms : List ℕ) → HasPlaces c n places first size rooms → IsCellMap c n m k → HasPlaces c m (places_by places (cells_by c n m k)) first size rooms
callee_places c n m k places first size rooms h l =
    let xs = map_of c k in
    let a = (routine_of c n).cells in
    let q = (routine_of c m).cells in
    let bs = (routine_of c m).buffers in
    let f = slice_index places in
    let front = take q xs in
    let behind = drop q xs in
    let own = own_cells a q xs in
    let few : length front ≡ q = length-take-le q xs (let e = l.size in omega (arith, e)) in
    let rest : length behind ≡ length bs = (let e = length-drop q xs in let s = l.size in omega (arith, e, s)) in
    let many : length own ≡ q + 2 * length bs = (let e = length-append front (buffer_cells a behind) in let b = buffer_count a behind in omega (arith, e, b, few, rest)) in
    record {
      count = length-map own f ∙ many;
      size_is = h.size_is;
      cells = λ j g.
          let there : j < length front = omega (arith, g, few) in
          let is : slice_index (places_by places own) j ≡ f (slice_index front j) = get_or-map f own j 0 0 (omega (arith, g, many)) ∙ ap f (get_or-append front (buffer_cells a behind) 0 j there) in
          let below = h.cells (slice_index front j) (l.numbers j there) in
          omega (arith, is, below);
      buffers = λ j g.
          let number = slice_index behind j in
          let given = l.buffers j g in
          let there : j < length behind = omega (arith, g, rest) in
          let at : (i : ℕ) → i < 2 * length bs → slice_index (places_by places own) (q + i) ≡ f (slice_index (buffer_cells a behind) i) = (λ i z.
          get_or-map f own (q + i) 0 0 (omega (arith, z, many))
          ∙ ap f (ap (λ x. slice_index own (x + i)) (sym few) ∙ get_or-append-add front (buffer_cells a behind) i 0)) in
          let next : q + 2 * j + 1 ≡ q + (2 * j + 1) = omega arith in
          let place : slice_index (places_by places own) (q + 2 * j) ≡ f (a + 2 * number) = at (2 * j) (omega (arith, g)) ∙ ap f (buffer_place a behind j there) in
          let second : slice_index (places_by places own) (q + 2 * j + 1) ≡ f (a + 2 * number + 1) = ap (slice_index (places_by places own)) next ∙ at (2 * j + 1) (omega (arith, g)) ∙ ap f (buffer_size a behind j there) in
          subst (λ x. IsBufferAt x (slice_index (places_by places own) (q + 2 * j + 1)) (slice_index bs j) first rooms) (sym place)
          (subst (λ x. IsBufferAt (f (a + 2 * number)) x (slice_index bs j) first rooms) (sym second)
          (subst (λ x. IsBufferAt (f (a + 2 * number)) (f (a + 2 * number + 1)) x first rooms) given.1 (h.buffers number given.0)));
    }

-- what a callee's places are made of: so many cells, and behind them so many buffers
pub record Widens (places : List ℕ) (count cells : ℕ) (map : List ℕ) (many : ℕ) : Type 0 where
  pub size : length map ≡ count + many
  pub below : AreBelow (length places) (take count map)
  pub behind : (j : ℕ) → j < length (drop count map) → cells + 2 * slice_index (drop count map) j + 1 < length places

pub widens : (c : Parts) (n m k : ℕ) (places : List ℕ) (first size : ℕ) (rooms : List ℕ) → HasPlaces c n places first size rooms → IsCellMap c n m k → (count cells : ℕ) (map : List ℕ) → count ≡ (routine_of c m).cells → cells ≡ (routine_of c n).cells → map ≡ map_of c k → Widens places count cells map (length (routine_of c m).buffers)
widens c n m k places first size rooms h l count mine numbers e f g =
    let xs = map_of c k in
    let q = (routine_of c m).cells in
    let many = length (routine_of c m).buffers in
    let base : Widens places q (routine_of c n).cells xs many = record {
      size = l.size;
      below = λ j z. let a = l.numbers j z in let b = h.count in omega (arith, a, b);
      behind = λ j z.
          let d = length-drop q xs in
          let s = l.size in
          let a = (l.buffers j (omega (arith, z, d, s))).0 in
          let b = h.count in
          omega (arith, a, b);
    } in
    subst (λ (z : ℕ × ℕ × List ℕ). Widens places z.0 z.1 z.2 many) (λ i. (sym e i, sym f i, sym g i)) base

-- an entry point's places are their own

pub own_place : (n k j : ℕ) → j < n → slice_index (places_from k n) j ≡ k + j
own_place zero k j h = absurd (omega (arith, h))
own_place (suc n) k zero h = omega arith
own_place (suc n) k (suc j) h = let e = own_place n (k + 1) j (omega (arith, h)) in omega (arith, e)

pub length_places : (n k : ℕ) → length (places_from k n) ≡ n
length_places zero k = refl
length_places (suc n) k = ap suc (length_places n (k + 1))

pub own_snoc : (n a : ℕ) → places_from a (suc n) ≡ places_from a n ++ (a + n) ∷ []
own_snoc zero a = let e : a ≡ a + zero = omega arith in ap (λ x. x ∷ []) e
own_snoc (suc n) a = let e : a + 1 + n ≡ a + suc n = omega arith in ap (λ l. a ∷ l) (own_snoc n (a + 1) ∙ ap (λ x. places_from (a + 1) n ++ x ∷ []) e)

pub entry_places : (c : Parts) (n size : ℕ) (rooms : List ℕ) → size ≡ (routine_of c n).cells + 2 * length rooms → AreRoomy (routine_of c n).buffers rooms → HasPlaces c n (places_from 0 (cells c n)) (routine_of c n).cells size rooms
entry_places c n size rooms s h =
    let q = (routine_of c n).cells in
    let bs = (routine_of c n).buffers in
    record {
      count = length_places (cells c n) 0;
      size_is = s;
      cells = λ j g. let e = own_place (cells c n) 0 j (omega (arith, g)) in omega (arith, e, g);
      buffers = λ j g.
          let place = own_place (cells c n) 0 (q + 2 * j) (omega (arith, g)) in
          let next = own_place (cells c n) 0 (q + 2 * j + 1) (omega (arith, g)) in
          let many = h.count in
          record { number = j; there = omega (arith, g, many); place_is = omega (arith, place); count_is = omega (arith, place, next); room_is = h.each j g };
    }

-- places that are written one after the other

pub pair_more : (xs ys places bs : List ℕ) (k i : ℕ) → 2 * i + 1 < length xs → i < length bs → take (2 * i) xs ≡ places_by places (buffer_cells k (take i bs))
    → ys ≡ slice_set (slice_set xs (2 * i) (slice_index places (k + 2 * slice_index bs i))) (2 * i + 1) (slice_index places (k + 2 * slice_index bs i + 1))
    → take (2 * (i + 1)) ys ≡ places_by places (buffer_cells k (take (i + 1) bs))
pair_more xs ys places bs k i l b h is =
    let at = k + 2 * slice_index bs i in
    let f = slice_index places in
    let zs = slice_set xs (2 * i) (f at) in
    let many : length zs ≡ length xs = length-set xs (2 * i) (f at) in
    let e : 2 * (i + 1) ≡ suc (2 * i + 1) = omega arith in
    let d : 2 * i + 1 ≡ suc (2 * i) = omega arith in
    let next : i + 1 ≡ suc i = omega arith in
    ap (λ us. take (2 * (i + 1)) us) is
    ∙ ap (λ j. take j (slice_set zs (2 * i + 1) (f (at + 1)))) e
    ∙ take-suc-set zs (2 * i + 1) (f (at + 1)) (omega (arith, l, many))
    ∙ ap (λ us. us ++ f (at + 1) ∷ []) (ap (λ j. take j zs) d ∙ take-suc-set xs (2 * i) (f at) (omega (arith, l)))
    ∙ append_assoc (take (2 * i) xs) (f at ∷ []) (f (at + 1) ∷ [])
    ∙ ap (λ us. us ++ f at ∷ f (at + 1) ∷ []) h
    ∙ sym (map-append f (buffer_cells k (take i bs)) (at ∷ (at + 1) ∷ []))
    ∙ ap (map f) (sym (buffer_append k (take i bs) (slice_index bs i ∷ [])))
    ∙ ap (λ us. places_by places (buffer_cells k us)) (sym (take-suc bs i 0 b) ∙ ap (λ j. take j bs) (sym next))

-- buffers that hold nothing
pub none_held : (b rooms : List ℕ) (n : ℕ) → n ≡ length rooms → copies_by b (replicate (2 * n) 0) ≡ held_by (map empty_with rooms)
none_held b [] zero e = refl
none_held b [] (suc n) e = absurd (omega (arith, e))
none_held b (r ∷ rooms) zero e = absurd (omega (arith, e))
none_held b (r ∷ rooms) (suc n) e =
    let d : 2 * suc n ≡ suc (suc (2 * n)) = omega arith in
    ap (λ k. copies_by b (replicate k 0)) d ∙ ap (λ xs. [] ∷ xs) (none_held b rooms n (omega (arith, e)))
