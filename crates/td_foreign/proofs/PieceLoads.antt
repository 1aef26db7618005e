-- Pieces, their words, and the loads made of them. Cited by other crates.
use Rattle.std.proofs.Common.{◌≡◌, ℕ, zero, suc, ◌+◌, ◌-◌, ◌*◌, ◌/◌, ◌<◌, ◌≤◌, inl, inr, Bool, cond, true, false, List, [], ◌∷◌, ◌++◌, length, map, get_or, slice_set, refl, sym, ap, ◌∙◌, subst, arith}
use Rattle.std.specs.Prelude.{nat_eq}
use Rattle.std.proofs.lemmas.Bool.{cases_eq, eq-eqb, ne_eqb}
use Rattle.std.proofs.lemmas.List.{length-map, get_or-map}
use Rattle.std.proofs.lemmas.List.Elements.{All-head, All-tail}
use Rattle.td_stream.specs.declared.load.Load.{Load}
use Rattle.td_stream.specs.declared.stretch.Stretch.{Stretch}
use Rattle.td_stream.specs.Layouts.{words_in, count_in, pair_at}
use Rattle.td_stream.proofs.Layouts.{below_or, words_some, words_none, pair_here, pair_there}
use Rattle.td_foreign.specs.declared.memory.TdWords.{TdWords}
use Rattle.td_foreign.specs.declared.pieces.TdPiece.{TdPiece}
use Rattle.td_foreign.specs.Pieces.{stretch_of, layout_of, AreWhole, AreFresh, count_at, made_at, loads_in, AreLoaded, shape_of, SameShapes, IsLoad}

-- a message word is a word of one of the pieces
pub piece_within : (pieces : List TdPiece) (n : ℕ) → AreWhole pieces → n < count_in (layout_of pieces)
    → ((pair_at (layout_of pieces) n).0 < length pieces) × ((pair_at (layout_of pieces) n).1 < count_at pieces (pair_at (layout_of pieces) n).0)
piece_within [] n h lt = absurd (omega (arith, lt))
piece_within (p ∷ ps) n h lt =
    let P : TdPiece → Type 0 = λ p. p.place + p.size ≤ 8 * p.words.count in
    let s : Stretch = stretch_of p in
    let l : List Stretch = layout_of ps in
    let first : p.place + p.size ≤ 8 * p.words.count = All-head P p ps h in
    let Q : ℕ × ℕ → Type 0 = λ x. (x.0 < length (p ∷ ps)) × (x.1 < count_at (p ∷ ps) x.0) in
    elim (below_or n (words_in s)) [
      | inl here ↦
          let low : p.place / 8 + n < p.words.count =
          elim (below_or 0 p.size) [
            | inl some ↦ let m = words_some s some in omega (arith, m, here, first, some)
            | inr none ↦ let m = words_none s (omega (arith, none)) in absurd (omega (arith, m, here))
          ] in
          subst Q (sym (pair_here s l n here)) (omega arith, low)
      | inr there ↦
          let r = piece_within ps (n - words_in s) (All-tail P p ps h) (omega (arith, lt, there)) in
          let r0 = r.0 in
          subst Q (sym (pair_there s l n there)) (omega (arith, r0), r.1)
    ]

-- pieces of which no word was loaded
made_fresh : (pieces : List TdPiece) (k : ℕ) → AreFresh pieces → made_at pieces k ≡ []
made_fresh [] k h = refl
made_fresh (p ∷ ps) zero h = All-head (λ (p : TdPiece). p.words.made ≡ []) p ps h
made_fresh (p ∷ ps) (suc k) h = made_fresh ps k (All-tail (λ (p : TdPiece). p.words.made ≡ []) p ps h)

pub fresh_loaded : (pieces : List TdPiece) → AreFresh pieces → AreLoaded pieces []
fresh_loaded pieces h = λ k lt. made_fresh pieces k h

-- shapes say how pieces lie
abbrev stretch_by : (ℕ × ℕ) × (ℕ × ℕ) → Stretch
stretch_by x = record { place = x.1.0; size = x.1.1 }

by_shapes : (pieces : List TdPiece) → layout_of pieces ≡ map stretch_by (map shape_of pieces)
by_shapes [] = refl
by_shapes (p ∷ ps) = ap (λ (l : List Stretch). stretch_of p ∷ l) (by_shapes ps)

pub same_layout : (a b : List TdPiece) → SameShapes a b → layout_of b ≡ layout_of a
same_layout a b h = by_shapes b ∙ ap (map stretch_by) h ∙ sym (by_shapes a)

pub same_length : (a b : List TdPiece) → SameShapes a b → length b ≡ length a
same_length a b h = sym (length-map b shape_of) ∙ ap length h ∙ length-map a shape_of

-- one load more
abbrev in_piece : List Stretch → Load → Load
in_piece layout l = record { word = (pair_at layout l.word).1; value = l.value }

behind : (v : Bool) (x : Load) (xs ys : List Load) → cond v (x ∷ (xs ++ ys)) (xs ++ ys) ≡ cond v (x ∷ xs) xs ++ ys
behind true x xs ys = refl
behind false x xs ys = refl

loads_more : (layout : List Stretch) (k : ℕ) (loads : List Load) (l : Load) → (pair_at layout l.word).0 ≡ k
    → loads_in layout k (loads ++ l ∷ []) ≡ loads_in layout k loads ++ in_piece layout l ∷ []
loads_more layout k [] l e = ap (λ v. cond v (in_piece layout l ∷ []) []) (eq-eqb (pair_at layout l.word).0 k e)
loads_more layout k (m ∷ ms) l e =
    let v = nat_eq (pair_at layout m.word).0 k in
    ap (λ xs. cond v (in_piece layout m ∷ xs) xs) (loads_more layout k ms l e) ∙ behind v (in_piece layout m) (loads_in layout k ms) (in_piece layout l ∷ [])

loads_same : (layout : List Stretch) (k : ℕ) (loads : List Load) (l : Load) → ((pair_at layout l.word).0 ≡ k → ⊥)
    → loads_in layout k (loads ++ l ∷ []) ≡ loads_in layout k loads
loads_same layout k [] l e = ap (λ v. cond v (in_piece layout l ∷ []) []) (ne_eqb (pair_at layout l.word).0 k e)
loads_same layout k (m ∷ ms) l e = ap (λ xs. cond (nat_eq (pair_at layout m.word).0 k) (in_piece layout m ∷ xs) xs) (loads_same layout k ms l e)

pub loaded_more : (a b : List TdPiece) (loads : List Load) (l : Load) → IsLoad a b (pair_at (layout_of a) l.word).0 (pair_at (layout_of a) l.word).1 l.value
    → AreLoaded a loads → AreLoaded b (loads ++ l ∷ [])
loaded_more a b loads l h were = λ k lt.
    let layout = layout_of a in
    let at = (pair_at layout l.word).0 in
    let size = same_length a b h.shapes in
    let were_k : made_at a k ≡ loads_in layout k loads = were k (omega (arith, lt, size)) in
    let now : made_at b k ≡ loads_in layout k (loads ++ l ∷ []) =
    elim (cases_eq at k) [
      | inl e ↦
          ap (made_at b) (sym e) ∙ h.made ∙ ap (λ j. made_at a j ++ in_piece layout l ∷ []) e ∙ ap (λ xs. xs ++ in_piece layout l ∷ []) were_k
          ∙ sym (loads_more layout k loads l e)
      | inr ne ↦ h.others k (λ e. ne (sym e)) ∙ were_k ∙ sym (loads_same layout k loads l ne)
    ] in
    now ∙ ap (λ x. loads_in x k (loads ++ l ∷ [])) (sym (same_layout a b h.shapes))

-- one piece put in another's place
pub made_set : (pieces : List TdPiece) (k : ℕ) (q : TdPiece) → k < length pieces → made_at (slice_set pieces k q) k ≡ q.words.made
made_set [] k q h = absurd (omega (arith, h))
made_set (p ∷ ps) zero q h = refl
made_set (p ∷ ps) (suc k) q h = made_set ps k q (omega (arith, h))

pub made_set_other : (pieces : List TdPiece) (k j : ℕ) (q : TdPiece) → (j ≡ k → ⊥) → made_at (slice_set pieces k q) j ≡ made_at pieces j
made_set_other [] k j q h = refl
made_set_other (p ∷ ps) zero zero q h = absurd (h refl)
made_set_other (p ∷ ps) zero (suc j) q h = refl
made_set_other (p ∷ ps) (suc k) zero q h = refl
made_set_other (p ∷ ps) (suc k) (suc j) q h = made_set_other ps k j q (λ e. h (ap suc e))

-- what stands at a place, by the piece that is there
pub count_of : (pieces : List TdPiece) (k : ℕ) (d : TdPiece) → k < length pieces → count_at pieces k ≡ (get_or pieces k d).words.count
count_of [] k d h = absurd (omega (arith, h))
count_of (p ∷ ps) zero d h = refl
count_of (p ∷ ps) (suc k) d h = count_of ps k d (omega (arith, h))

pub made_of : (pieces : List TdPiece) (k : ℕ) (d : TdPiece) → k < length pieces → made_at pieces k ≡ (get_or pieces k d).words.made
made_of [] k d h = absurd (omega (arith, h))
made_of (p ∷ ps) zero d h = refl
made_of (p ∷ ps) (suc k) d h = made_of ps k d (omega (arith, h))

pub shapes_set : (pieces : List TdPiece) (k : ℕ) (q d : TdPiece) → shape_of q ≡ shape_of (get_or pieces k d) → SameShapes pieces (slice_set pieces k q)
shapes_set [] k q d h = refl
shapes_set (p ∷ ps) zero q d h = ap (λ (x : (ℕ × ℕ) × (ℕ × ℕ)). x ∷ map shape_of ps) h
shapes_set (p ∷ ps) (suc k) q d h = ap (λ (xs : List ((ℕ × ℕ) × (ℕ × ℕ))). shape_of p ∷ xs) (shapes_set ps k q d h)

get_set : (pieces : List TdPiece) (k : ℕ) (q d : TdPiece) → k < length pieces → get_or (slice_set pieces k q) k d ≡ q
get_set [] k q d h = absurd (omega (arith, h))
get_set (p ∷ ps) zero q d h = refl
get_set (p ∷ ps) (suc k) q d h = get_set ps k q d (omega (arith, h))

set_twice : (pieces : List TdPiece) (k : ℕ) (q r : TdPiece) → slice_set (slice_set pieces k q) k r ≡ slice_set pieces k r
set_twice [] k q r = refl
set_twice (p ∷ ps) zero q r = refl
set_twice (p ∷ ps) (suc k) q r = ap (λ (xs : List TdPiece). p ∷ xs) (set_twice ps k q r)

-- a piece whose words were taken out and put back with a load more
pub is_load : (a : List TdPiece) (k : ℕ) (d : TdPiece) (out back : TdWords) (e : TdPiece) (i v : ℕ) → k < length a
    → back.count ≡ (get_or a k d).words.count → back.made ≡ (get_or a k d).words.made ++ (record { word = i; value = v }) ∷ []
    → (let p = get_or a k d in
    let b = slice_set a k (record { words = out; count = p.count; place = p.place; size = p.size }) in
    let q = get_or b k e in
    IsLoad a (slice_set b k (record { words = back; count = q.count; place = q.place; size = q.size })) k i v)
is_load a k d out back e i v lt count made =
    let p : TdPiece = get_or a k d in
    let o : TdPiece = record { words = out; count = p.count; place = p.place; size = p.size } in
    let q : TdPiece = get_or (slice_set a k o) k e in
    let r : TdPiece = record { words = back; count = q.count; place = q.place; size = q.size } in
    let same : q ≡ o = get_set a k o e lt in
    let shape : shape_of r ≡ shape_of p = λ j. ((count j, (same j).count), ((same j).place, (same j).size)) in
    subst (λ (b : List TdPiece). IsLoad a b k i v) (sym (set_twice a k o r)) (record {
      shapes = shapes_set a k r d shape;
      made = made_set a k r lt ∙ made ∙ ap (λ (xs : List Load). xs ++ (record { word = i; value = v }) ∷ []) (sym (made_of a k d lt));
      others = λ j ne. made_set_other a k j r ne;
    })

-- pieces of the same shapes are within their words, too
shape_at : (a b : List TdPiece) (k : ℕ) (d : TdPiece) → SameShapes a b → k < length b → shape_of (get_or b k d) ≡ shape_of (get_or a k d)
shape_at a b k d h lt =
    let size = same_length a b h in
    sym (get_or-map shape_of b k d (shape_of d) lt) ∙ ap (λ (l : List ((ℕ × ℕ) × (ℕ × ℕ))). get_or l k (shape_of d)) h ∙ get_or-map shape_of a k d (shape_of d) (omega (arith, lt, size))

pub same_whole : (a b : List TdPiece) → SameShapes a b → AreWhole a → AreWhole b
same_whole a b h whole = λ k d lt.
    let size = same_length a b h in
    subst (λ (x : (ℕ × ℕ) × (ℕ × ℕ)). x.1.0 + x.1.1 ≤ 8 * x.0.0) (sym (shape_at a b k d h lt)) (whole k d (omega (arith, lt, size)))
