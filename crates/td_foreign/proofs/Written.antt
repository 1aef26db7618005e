-- One more load, and its row.
use Rattle.std.proofs.Common.{◌≡◌, ℕ, ◌+◌, ◌%◌, ◌^◌, ◌<◌, List, [], ◌∷◌, ◌++◌, length, map, take, drop, slice_set, refl, sym, ap, subst, arith}
use Rattle.std.proofs.lemmas.List.{length-append}
use Rattle.td_stream.specs.declared.load.Load.{Load}
use Rattle.td_stream.specs.declared.stretch.Stretch.{Stretch}
use Rattle.td_foreign.specs.declared.noted.TdLoad.{TdLoad}
use Rattle.td_foreign.specs.Noted.{row_of, AreRows, IsNoted}

-- one load more, written behind those before, where there is room
one_more : (f : Load → TdLoad) (was : List TdLoad) (loads : List Load) (l : Load)
    → slice_set (take (length was) (map f loads ++ drop (length loads) was)) (length loads) (f l)
    ≡ take (length was) (map f (loads ++ l ∷ []) ++ drop (length (loads ++ l ∷ [])) was)
one_more f [] [] l = refl
one_more f [] (m ∷ loads) l = refl
one_more f (w ∷ was) [] l = refl
one_more f (w ∷ was) (m ∷ loads) l = ap (λ (xs : List TdLoad). f m ∷ xs) (one_more f was loads l)

listed : (layout : List Stretch) (loads : List Load) (was rows : List TdLoad) (n : ℕ) (l : Load) → AreRows layout loads was rows → n ≡ length loads
    → AreRows layout (loads ++ l ∷ []) was (slice_set rows n (row_of layout l))
listed layout loads was rows n l h count =
    subst (λ (x : List TdLoad × ℕ). AreRows layout (loads ++ l ∷ []) was (slice_set x.0 x.1 (row_of layout l))) (λ i. (sym h i, sym count i)) (one_more (row_of layout) was loads l)

counted : (loads : List Load) (n : ℕ) (l : Load) → n ≡ length loads → length loads < 2 ^ 32 → (n + 1) % 2 ^ 64 ≡ length (loads ++ l ∷ [])
counted loads n l count few = omega (arith, count, few, length-append loads (l ∷ []))

-- a load that was made, and its row, written at the place that the count names
pub noted : (layout : List Stretch) (loads : List Load) (was rows : List TdLoad) (n : ℕ) (l : Load) → IsNoted layout loads was n rows → length loads < 2 ^ 32
    → IsNoted layout (loads ++ l ∷ []) was ((n + 1) % 2 ^ 64) (slice_set rows n (row_of layout l))
noted layout loads was rows n l h few = record {
  counted = counted loads n l h.counted few;
  listed = listed layout loads was rows n l h.listed h.counted;
}
