-- Cells and copy buffers that a definition gives on are formed.
use Rattle.std.proofs.Common.{◌≡◌, ℕ, zero, suc, ◌+◌, ◌*◌, ◌<◌, Bool, true, ◌&&◌, List, [], ◌∷◌, ◌++◌, length, map, refl, sym, ap, ◌∙◌, subst, arith, Option, Some, None, slice_get, nat_eq}
use Rattle.std.proofs.lemmas.Bool.{and_parts, eqb-true, false≢true}
use Rattle.std.proofs.lemmas.List.{length-map}
use Rattle.std.proofs.lemmas.Option.{none-some, same_Some}
use Rattle.td_num.specs.Numbers.{bytes_in}
use Rattle.td_elab_rules.specs.Imports.{Width, ThirtyTwo, CellKind, Number as NumberCell, Pointer as PointerCell, Cell, Buffer, TypeDef}
use Rattle.td_num.specs.declared.number.Width.TheVariants.{One, Two, Four, Eight}
use Rattle.td_core.specs.Formed.{Bound, scalar_of, whole, cell_bound, cell_bounds, buffer_bounds, own_bounds, AreCellsFormed}
use Rattle.td_elab_rules.specs.declared.known.Scope.{Scope}
use Rattle.td_elab_rules.specs.Types.{same_kind, is_kind, fits_cells, has_room, fits_buffers, buffer_cells}
use Rattle.td_elab_rules.proofs.Scopes.{bounds_of, room_bounds, own_of, get_more}

-- Cells

pub width_same : (a b : Width) → nat_eq (bytes_in a) (bytes_in b) ≡ true → a ≡ b
width_same One One h = refl
width_same Two Two h = refl
width_same Four Four h = refl
width_same Eight Eight h = refl
width_same One Two h = absurd (false≢true h)
width_same One Four h = absurd (false≢true h)
width_same One Eight h = absurd (false≢true h)
width_same Two One h = absurd (false≢true h)
width_same Two Four h = absurd (false≢true h)
width_same Two Eight h = absurd (false≢true h)
width_same Four One h = absurd (false≢true h)
width_same Four Two h = absurd (false≢true h)
width_same Four Eight h = absurd (false≢true h)
width_same Eight One h = absurd (false≢true h)
width_same Eight Two h = absurd (false≢true h)
width_same Eight Four h = absurd (false≢true h)

kind_same : (a b : CellKind) → same_kind a b ≡ true → cell_bound a ≡ cell_bound b
kind_same (NumberCell a) (NumberCell b) h = ap (λ w. whole (scalar_of w)) (width_same a b h)
kind_same (NumberCell a) PointerCell h = absurd (false≢true h)
kind_same PointerCell (NumberCell b) h = absurd (false≢true h)
kind_same PointerCell PointerCell h = refl

get_map : {A B : Type 0} (f : A → B) (xs : List A) (i : ℕ) (o : Option A) → slice_get xs i ≡ o → slice_get (map f xs) i ≡ elim o [ None ↦ None | Some x ↦ Some (f x) ]
get_map f [] i None e = refl
get_map f [] i (Some x) e = absurd (none-some x e)
get_map f (x ∷ xs) zero None e = cc
get_map f (x ∷ xs) zero (Some y) e = ap (λ z. Some (f z)) (same_Some x y e)
get_map f (x ∷ xs) (suc i) o e = get_map f xs i o e

cells_formed : (own : List CellKind) (bs : List Cell) (cs : List ℕ) → fits_cells own bs cs ≡ true → AreCellsFormed (bounds_of own) (cell_bounds bs) cs
cells_formed own [] [] t = tt
cells_formed own [] (c ∷ cs) t = absurd (false≢true t)
cells_formed own (b ∷ bs) [] t = absurd (false≢true t)
cells_formed own (b ∷ bs) (c ∷ cs) t =
    let u = and_parts (is_kind (slice_get own c) b.kind) (fits_cells own bs cs) t in
    (by (slice_get own c) refl u.0, cells_formed own bs cs u.1)
  where
    by : (o : Option CellKind) → slice_get own c ≡ o → is_kind o b.kind ≡ true → slice_get (bounds_of own) c ≡ Some (cell_bound b.kind)
    by None e t = absurd (false≢true t)
    by (Some kind) e t = get_map cell_bound own c (Some kind) e ∙ ap Some (kind_same kind b.kind t)

-- Lists of cells one after the other

cells_more : (cells more bs : List Bound) (ks : List ℕ) → AreCellsFormed cells bs ks → AreCellsFormed (cells ++ more) bs ks
cells_more cells more [] [] h = tt
cells_more cells more [] (k ∷ ks) h = absurd h
cells_more cells more (b ∷ bs) [] h = absurd h
cells_more cells more (b ∷ bs) (k ∷ ks) h = (get_more cells more k b h.0, cells_more cells more bs ks h.1)

cells_join : (cells xs bs : List Bound) (ks ls : List ℕ) → AreCellsFormed cells xs ks → AreCellsFormed cells bs ls → AreCellsFormed cells (xs ++ bs) (ks ++ ls)
cells_join cells [] bs [] ls h g = g
cells_join cells [] bs (k ∷ ks) ls h g = absurd h
cells_join cells (x ∷ xs) bs [] ls h g = absurd h
cells_join cells (x ∷ xs) bs (k ∷ ks) ls h g = (h.0, cells_join cells xs bs ks ls h.1 g)

-- Copy buffers

-- what stands behind a list
get_behind : {A : Type 0} (xs ys : List A) (i : ℕ) → slice_get (xs ++ ys) (length xs + i) ≡ slice_get ys i
get_behind [] ys i = let e : 0 + i ≡ i = omega arith in ap (slice_get ys) e
get_behind (x ∷ xs) ys i = let e : length (x ∷ xs) + i ≡ suc (length xs + i) = omega arith in ap (slice_get (x ∷ (xs ++ ys))) e ∙ get_behind xs ys i

-- both cells of a buffer
first_cell : (own : List ℕ) (n room : ℕ) → slice_get own n ≡ Some room → slice_get (room_bounds own) (2 * n) ≡ Some (whole ThirtyTwo)
first_cell [] n room e = absurd (none-some room e)
first_cell (r ∷ rs) zero room e = refl
first_cell (r ∷ rs) (suc n) room e = let g : 2 * suc n ≡ suc (suc (2 * n)) = omega arith in ap (slice_get (room_bounds (r ∷ rs))) g ∙ first_cell rs n room e

second_cell : (own : List ℕ) (n room : ℕ) → slice_get own n ≡ Some room → slice_get (room_bounds own) (2 * n + 1) ≡ Some (whole ThirtyTwo)
second_cell [] n room e = absurd (none-some room e)
second_cell (r ∷ rs) zero room e = refl
second_cell (r ∷ rs) (suc n) room e = let g : 2 * suc n + 1 ≡ suc (suc (2 * n + 1)) = omega arith in ap (slice_get (room_bounds (r ∷ rs))) g ∙ second_cell rs n room e

-- there is one of this room
pub room_there : (o : Option ℕ) (room : ℕ) → has_room o room ≡ true → o ≡ Some room
room_there None room t = absurd (false≢true t)
room_there (Some own) room t = ap Some (eqb-true own room t)

buffers_formed : (cells : List Bound) (own : List ℕ) (bs : List Buffer) (ns : List ℕ) → fits_buffers own bs ns ≡ true → AreCellsFormed (cells ++ room_bounds own) (buffer_bounds bs) (buffer_cells (length cells) ns)
buffers_formed cells own [] [] t = tt
buffers_formed cells own [] (n ∷ ns) t = absurd (false≢true t)
buffers_formed cells own (b ∷ bs) [] t = absurd (false≢true t)
buffers_formed cells own (b ∷ bs) (n ∷ ns) t =
    let u = and_parts (has_room (slice_get own n) b.room) (fits_buffers own bs ns) t in
    let there = room_there (slice_get own n) b.room u.0 in
    let second : length cells + 2 * n + 1 ≡ length cells + (2 * n + 1) = omega arith in (
      get_behind cells (room_bounds own) (2 * n) ∙ first_cell own n b.room there,
      (
        ap (slice_get (cells ++ room_bounds own)) second ∙ (get_behind cells (room_bounds own) (2 * n + 1) ∙ second_cell own n b.room there),
        buffers_formed cells own bs ns u.1,
      ),
    )

-- both
pub own_formed : (s : Scope) (d : TypeDef) (own ns : List ℕ) → fits_cells s.cells d.cells own ≡ true → fits_buffers s.buffers d.buffers ns ≡ true
    → AreCellsFormed (own_of s) (own_bounds d) (own ++ buffer_cells (length s.cells) ns)
own_formed s d own ns t u =
    cells_join (own_of s) (cell_bounds d.cells) (buffer_bounds d.buffers) own (buffer_cells (length s.cells) ns)
    (cells_more (bounds_of s.cells) (room_bounds s.buffers) (cell_bounds d.cells) own (cells_formed s.cells d.cells own t))
    (subst (λ n. AreCellsFormed (own_of s) (buffer_bounds d.buffers) (buffer_cells n ns)) (length-map s.cells cell_bound)
    (buffers_formed (bounds_of s.cells) s.buffers d.buffers ns u))
