-- The cells and the buffers with which an entry point begins.
use Rattle.std.proofs.Common.{◌≡◌, ℕ, zero, suc, ◌+◌, ◌-◌, ◌*◌, ◌<◌, ◌≤◌, List, [], ◌∷◌, ◌++◌, length, map, take, drop, reverse, refl, sym, ap, ◌∙◌, subst, arith, append_assoc}
use Rattle.std.specs.Prelude.{slice_index, replicate}
use Rattle.std.proofs.lemmas.List.{length-map, length-take-le, take-take, reverse-append}
use Rattle.std.proofs.Math.Seq.{drop-append_seam}
use Rattle.td_core.specs.Held.{AreHeld}
use Rattle.td_core.specs.Outcome.{copies_by}
use Rattle.td_stream.specs.Copies.{BufferView, held_by, rooms_of, empty_with}
use Rattle.td_stream.proofs.Rooms.{rooms_again}
use Rattle.td_vm.specs.Imports.{Parts}
use Rattle.td_vm.specs.Need.{most_rooms}
use Rattle.td_vm.specs.Frames.{FrameView, IsArmed}
use Rattle.td_vm.specs.Machine.{AreRoomy}
use Rattle.td_vm.proofs.Places.{none_held}

pub starts_held : (b cells : List ℕ) (first : ℕ) (copies : List BufferView) → drop first cells ≡ replicate (2 * length copies) 0 → copies ≡ map empty_with (rooms_of copies) → AreHeld b first cells (held_by copies)
starts_held b cells first copies d e = ap (copies_by b) d ∙ none_held b (rooms_of copies) (length copies) (sym (length-map copies (λ (v : BufferView). v.room))) ∙ ap held_by (sym e)

-- the first cells, and zeros behind them
pub opened_front : (all xs ys : List ℕ) (first m q k : ℕ) → xs ≡ take m all → length xs ≡ m → ys ≡ take first xs ++ replicate (length xs - first) 0 → first ≡ q → m ≡ q + k → ys ≡ take q all ++ replicate k 0
opened_front all xs ys first m q k e l o f s =
    let n : length xs - first ≡ k = omega (arith, l, f, s) in
    o ∙ (λ i. take (f i) (e i) ++ replicate (n i) 0) ∙ ap (λ zs. zs ++ replicate k 0) (take-take q m all (omega (arith, s)))

pub opened_behind : (all ys : List ℕ) (q k : ℕ) → q ≤ length all → ys ≡ take q all ++ replicate k 0 → drop q ys ≡ replicate k 0
opened_behind all ys q k l e =
    let n = length-take-le q all l in
    ap (drop q) e ∙ ap (λ m. drop m (take q all ++ replicate k 0)) (sym n) ∙ drop-append_seam (take q all) (replicate k 0)

-- the first of buffers that hold nothing

lent_rooms : (k : ℕ) (rs : List ℕ) → rooms_of (take k (map empty_with rs)) ≡ take k rs
lent_rooms zero rs = refl
lent_rooms (suc k) [] = refl
lent_rooms (suc k) (r ∷ rs) = ap (λ xs. r ∷ xs) (lent_rooms k rs)

none_lent : (k : ℕ) (rs : List ℕ) → take k (map empty_with rs) ≡ map empty_with (take k rs)
none_lent zero rs = refl
none_lent (suc k) [] = refl
none_lent (suc k) (r ∷ rs) = ap (λ xs. empty_with r ∷ xs) (none_lent k rs)

pub lent_none : (k : ℕ) (rs : List ℕ) (lent : List BufferView) → lent ≡ take k (map empty_with rs) → lent ≡ map empty_with (rooms_of lent)
lent_none k rs lent e = e ∙ none_lent k rs ∙ ap (map empty_with) (sym (ap rooms_of e ∙ lent_rooms k rs))

taken_at : (k j : ℕ) (rs : List ℕ) → j < k → slice_index (take k rs) j ≡ slice_index rs j
taken_at zero j rs h = absurd (omega (arith, h))
taken_at (suc k) j [] h = refl
taken_at (suc k) zero (r ∷ rs) h = refl
taken_at (suc k) (suc j) (r ∷ rs) h = taken_at k j rs (omega (arith, h))

pub lent_roomy : (k : ℕ) (wanted rs : List ℕ) (lent : List BufferView) → AreRoomy wanted rs → k ≡ length wanted → lent ≡ take k (map empty_with rs) → AreRoomy wanted (rooms_of lent)
lent_roomy k wanted rs lent h e is =
    let many = h.count in
    subst (AreRoomy wanted) (sym (ap rooms_of is ∙ lent_rooms k rs)) (record {
      count = let n = length-take-le k rs (omega (arith, many, e)) in omega (arith, n, e);
      each = λ j l. let a = taken_at k j rs (omega (arith, l, e)) in let b = h.each j l in omega (arith, a, b);
    })

-- an armed frame's buffers, lent and emptied
pub cleared_rooms : (c : Parts) (f : FrameView) (kept lent empty : List BufferView) → kept ≡ f.copies → IsArmed c f → lent ≡ kept → empty ≡ map empty_with (rooms_of lent) → rooms_of empty ≡ most_rooms c
cleared_rooms c f kept lent empty k a l e = ap rooms_of e ∙ rooms_again (rooms_of lent) ∙ ap rooms_of (l ∙ k) ∙ a.rooms

-- what buffers hold, of which the last was moved behind what the others held
pub held_moved : (xs : List (List ℕ)) (us vs : List BufferView) (v : BufferView) → us ≡ vs ++ v ∷ [] → (xs ++ v.held ∷ []) ++ held_by (reverse vs) ≡ xs ++ held_by (reverse us)
held_moved xs us vs v e =
    append_assoc xs (v.held ∷ []) (held_by (reverse vs))
    ∙ ap (λ ws. xs ++ held_by ws) (sym (ap reverse e ∙ reverse-append vs (v ∷ [])))
