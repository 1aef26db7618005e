-- The depth of a routine, and those of the routines that it calls.
use Rattle.std.proofs.Common.{◌≡◌, ℕ, zero, suc, ◌+◌, ◌-◌, ◌<◌, ◌≤◌, inl, inr, max, List, [], ◌∷◌, ◌++◌, length, refl, sym, ap, ◌∙◌, subst, arith}
use Rattle.std.specs.Prelude.{slice_index}
use Rattle.std.proofs.lemmas.Bool.{cases_lt}
use Rattle.td_ir.specs.declared.tables.Parts.{Parts}
use Rattle.td_ir.specs.Tables.{lengths_of, begin}
use Rattle.td_verify.specs.declared.shape.Shape.{Shape}
use Rattle.td_verify.specs.declared.shape.Shape.TheVariants.{Call}
use Rattle.td_verify.specs.declared.rule.Rule.TheVariants.{Depth}
use Rattle.td_verify.specs.Shape.{shapes_of}
use Rattle.td_verify.specs.Brackets.{shape_at}
use Rattle.td_verify.specs.Rules.{CallsWell, calls_deep, deepest}
use Rattle.td_verify.specs.Verify.{IsIn, IsSound, depths}
use Rattle.td_verify.proofs.Sums.{calls_shallow}

-- an element of the first list, and the one behind it
index_front : (xs ys : List ℕ) (k : ℕ) → k < length xs → slice_index (xs ++ ys) k ≡ slice_index xs k
index_front [] ys k h = absurd (omega (arith, h))
index_front (x ∷ xs) ys zero h = refl
index_front (x ∷ xs) ys (suc k) h = index_front xs ys k (omega (arith, h))

index_last : (xs : List ℕ) (y : ℕ) → slice_index (xs ++ y ∷ []) (length xs) ≡ y
index_last [] y = refl
index_last (x ∷ xs) y = index_last xs y

length_more : (xs : List ℕ) (y : ℕ) → length (xs ++ y ∷ []) ≡ suc (length xs)
length_more [] y = refl
length_more (x ∷ xs) y = ap suc (length_more xs y)

deepest_of : (s : List Shape) (ds : List ℕ) (from k i : ℕ) → i < k → calls_deep ds (shape_at s (from + i)) ≤ deepest s ds from k
deepest_of s ds from zero i h = absurd (omega (arith, h))
deepest_of s ds from (suc k) i h = elim (cases_lt i k) [
  | inl lt ↦ let l = deepest_of s ds from k i lt in omega (arith, l)
  | inr le ↦ let same : k ≡ i = omega (arith, h, le) in
      let l : calls_deep ds (shape_at s (from + k)) ≤ max (deepest s ds from k) (calls_deep ds (shape_at s (from + k))) = omega arith in
      subst (λ j. calls_deep ds (shape_at s (from + j)) ≤ max (deepest s ds from k) (calls_deep ds (shape_at s (from + k)))) same l
]

deepest_small : (s : List Shape) (ds : List ℕ) (from k : ℕ) → ((i : ℕ) → i < k → calls_deep ds (shape_at s (from + i)) ≤ 31) → deepest s ds from k ≤ 31
deepest_small s ds from zero f = omega arith
deepest_small s ds from (suc k) f =
    let a = deepest_small s ds from k (λ i l. f i (omega (arith, l))) in
    let b = f k (omega arith) in
    omega (arith, a, b)

module _ (c : Parts) where
  abbrev Shapes : List Shape
  Shapes = shapes_of c

  -- those of the first n routines
  abbrev depths_of : ℕ → List ℕ
  depths_of n = depths Shapes (lengths_of c) n

  abbrev pub depth : ℕ → ℕ
  depth n = deepest Shapes (depths_of n) (begin (lengths_of c) n) (slice_index (lengths_of c) n) + 1

  count : (n : ℕ) → length (depths_of n) ≡ n
  count zero = refl
  count (suc n) = length_more (depths_of n) (depth n) ∙ ap suc (count n)

  depth_there : (n m : ℕ) → m < n → slice_index (depths_of n) m ≡ depth m
  depth_there zero m h = absurd (omega (arith, h))
  depth_there (suc n) m h = elim (cases_lt m n) [
    | inl lt ↦ index_front (depths_of n) (depth n ∷ []) m (let e = count n in omega (arith, lt, e)) ∙ depth_there n m lt
    | inr le ↦ let same : n ≡ m = omega (arith, h, le) in
        subst (λ k. slice_index (depths_of (suc n)) k ≡ depth k) same (ap (slice_index (depths_of (suc n))) (sym (count n)) ∙ index_last (depths_of n) (depth n))
  ]

  -- a routine that is called is less deep than its caller
  pub depth_lower : IsSound c → (n m p : ℕ) → IsIn c n p → (let z : Shape = Call m in shape_at Shapes p ≡ z) → (m < n) × (depth m + 1 ≤ depth n)
  depth_lower sound n m p i e =
      let well : (m < n) × (slice_index (depths_of n) m + 1 ≤ 32) = subst (CallsWell (depths_of n) n) e (sound n p i Depth) in
      let from = begin (lengths_of c) n in
      let f = i.from in
      let t = i.to in
      let there : from + (p - from) ≡ p = omega (arith, f) in
      let l = deepest_of Shapes (depths_of n) from (slice_index (lengths_of c) n) (p - from) (omega (arith, f, t)) in
      let same : calls_deep (depths_of n) (shape_at Shapes (from + (p - from))) ≡ depth m = ap (λ q. calls_deep (depths_of n) (shape_at Shapes q)) there ∙ ap (calls_deep (depths_of n)) e ∙ depth_there n m well.0 in
      (well.0, omega (arith, l, same))

  pub depth_few : IsSound c → (n : ℕ) → n < length c.routines → depth n ≤ 32
  depth_few sound n h =
      let from = begin (lengths_of c) n in
      let d = deepest_small Shapes (depths_of n) from (slice_index (lengths_of c) n) (λ i l.
      calls_shallow (depths_of n) n (shape_at Shapes (from + i)) (sound n (from + i) (record { routine = h; from = omega arith; to = omega (arith, l) }) Depth)) in
      omega (arith, d)
