-- Cited by other crates.
-- Numbers within bounds.
use Rattle.std.proofs.Common.{◌≡◌, ℕ, zero, suc, ◌≤◌, List, [], ◌∷◌, ◌++◌, length, refl, sym, ap, ◌∙◌, subst, Some, slice_get, slice_index, slice_set}
use Rattle.std.proofs.lemmas.Option.{none-some, same_Some}
use Rattle.td_core.specs.Formed.{Bound, AllFit}

pub get_fits : (bs : List Bound) (vs : List ℕ) (i : ℕ) (b : Bound) → slice_get bs i ≡ Some b → AllFit bs vs → slice_index vs i ≤ b.most
get_fits [] vs i b e h = absurd (none-some b e)
get_fits (x ∷ bs) [] i b e h = absurd h
get_fits (x ∷ bs) (v ∷ vs) zero b e h = subst (λ o. v ≤ o.most) (same_Some x b e) h.0
get_fits (x ∷ bs) (v ∷ vs) (suc i) b e h = get_fits bs vs i b e h.1

pub fit_length : (bs : List Bound) (vs : List ℕ) → AllFit bs vs → length bs ≡ length vs
fit_length [] [] h = refl
fit_length [] (v ∷ vs) h = absurd h
fit_length (b ∷ bs) [] h = absurd h
fit_length (b ∷ bs) (v ∷ vs) h = ap suc (fit_length bs vs h.1)

pub fit_push : (bs : List Bound) (vs : List ℕ) (b : Bound) (v : ℕ) → AllFit bs vs → v ≤ b.most → AllFit (bs ++ b ∷ []) (vs ++ v ∷ [])
fit_push [] [] b v h le = (le, tt)
fit_push [] (w ∷ vs) b v h le = absurd h
fit_push (x ∷ bs) [] b v h le = absurd h
fit_push (x ∷ bs) (w ∷ vs) b v h le = (h.0, fit_push bs vs b v h.1 le)

pub fit_set : (bs : List Bound) (vs : List ℕ) (i : ℕ) (b : Bound) (v : ℕ) → slice_get bs i ≡ Some b → AllFit bs vs → v ≤ b.most → AllFit bs (slice_set vs i v)
fit_set [] vs i b v e h le = absurd (none-some b e)
fit_set (x ∷ bs) [] i b v e h le = absurd h
fit_set (x ∷ bs) (w ∷ vs) zero b v e h le = (subst (λ o. v ≤ o.most) (sym (same_Some x b e)) le, h.1)
fit_set (x ∷ bs) (w ∷ vs) (suc i) b v e h le = (h.0, fit_set bs vs i b v e h.1 le)

-- the bounds of a definition's own cells are those of the cells that they stand for
abbrev pub Stand : List Bound → List Bound → List ℕ → Type 0
Stand all [] places = Unit {0}
Stand all (b ∷ bs) [] = ⊥
Stand all (b ∷ bs) (k ∷ ks) = (slice_get all k ≡ Some b) × Stand all bs ks

pub stand_at : (all bs : List Bound) (places : List ℕ) (i : ℕ) (b : Bound) → slice_get bs i ≡ Some b → Stand all bs places → slice_get all (slice_index places i) ≡ Some b
stand_at all [] places i b e h = absurd (none-some b e)
stand_at all (x ∷ bs) [] i b e h = absurd h
stand_at all (x ∷ bs) (k ∷ ks) zero b e h = h.0 ∙ e
stand_at all (x ∷ bs) (k ∷ ks) (suc i) b e h = stand_at all bs ks i b e h.1
