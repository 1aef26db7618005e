-- What a word holds is the last store to it.
use Rattle.std.proofs.Common.{◌≡◌, ◌≢◌, ℕ, zero, suc, ◌<◌, eqb, cond, eq-eqb, ne_eqb, List, [], ◌∷◌, length, set, take, refl, sym, ap, ◌∙◌, subst, arith}
use Rattle.std.specs.Prelude.{slice_index}
use mathlib.Core.Option.{some, some-injective, some-ne-none}
use mathlib.Core.Logic.{dite}
use native.Mathlib.Decide.{ℕ_discrete}
use lib.ListN.{get_elem?}
use Rattle.td_words.specs.declared.view.Access.{Access}
use Rattle.td_words.specs.declared.view.Access.TheVariants.{Load, Store}
use Rattle.td_words.specs.History.{Entry, after, Gives, memory_after, IsHistory, value_after, last_stored}

set_here : (l : List ℕ) (j i v : ℕ) → j ≡ i → i < length l → slice_index (set l j v) i ≡ v
set_here [] j i v e lt = absurd (omega arith)
set_here (x ∷ xs) zero zero v e lt = refl
set_here (x ∷ xs) zero (suc i) v e lt = absurd (omega arith)
set_here (x ∷ xs) (suc j) zero v e lt = absurd (omega arith)
set_here (x ∷ xs) (suc j) (suc i) v e lt = set_here xs j i v (omega arith) (omega arith)

set_there : (l : List ℕ) (j i v : ℕ) → j ≢ i → slice_index (set l j v) i ≡ slice_index l i
set_there [] j i v ne = refl
set_there (x ∷ xs) zero zero v ne = absurd (ne refl)
set_there (x ∷ xs) zero (suc i) v ne = refl
set_there (x ∷ xs) (suc j) zero v ne = refl
set_there (x ∷ xs) (suc j) (suc i) v ne = set_there xs j i v (λ e. ne (ap suc e))

index_set : (l : List ℕ) (j v i : ℕ) → i < length l → slice_index (set l j v) i ≡ cond (eqb j i) v (slice_index l i)
index_set l j v i lt = dite (ℕ_discrete j i)
    (λ e. set_here l j i v e lt ∙ sym (ap (λ b. cond b v (slice_index l i)) (eq-eqb j i e)))
    (λ ne. set_there l j i v ne ∙ sym (ap (λ b. cond b v (slice_index l i)) (ne_eqb j i ne)))

length_set : (l : List ℕ) (j v : ℕ) → length (set l j v) ≡ length l
length_set [] j v = refl
length_set (x ∷ xs) zero v = refl
length_set (x ∷ xs) (suc j) v = ap suc (length_set xs j v)

index_after : (words : List ℕ) (a : Access) (i : ℕ) → i < length words → slice_index (after words a) i ≡ value_after i (slice_index words i) a
index_after words (Load j w) i lt = refl
index_after words (Store j v) i lt = index_set words j v i lt

length_after : (words : List ℕ) (a : Access) → length (after words a) ≡ length words
length_after words (Load j w) = refl
length_after words (Store j v) = length_set words j v

still : (words : List ℕ) (a : Access) (i : ℕ) → i < length words → i < length (after words a)
still words a i lt = subst (λ n. i < n) (sym (length_after words a)) lt

pub word_is : (words : List ℕ) (log : List Entry) (i : ℕ) → i < length words → slice_index (memory_after words log) i ≡ last_stored i (slice_index words i) log
word_is words [] i lt = refl
word_is words (e ∷ h) i lt = word_is (after words e.1) h i (still words e.1 i lt) ∙ ap (λ x. last_stored i x h) (index_after words e.1 i lt)

pub load_is : (words : List ℕ) (log : List Entry) (k n i w : ℕ) → IsHistory words log → i < length words
    → get_elem? log k ≡ some (n, Load i w) → w ≡ last_stored i (slice_index words i) (take k log)
load_is words [] k n i w legal lt at = absurd (some-ne-none (n, Load i w) (sym at))
load_is words (e ∷ h) zero n i w legal lt at = subst (λ (x : Entry). Gives words x.1) (some-injective e (n, Load i w) at) legal.0
load_is words (e ∷ h) (suc k) n i w legal lt at =
    load_is (after words e.1) h k n i w legal.1 (still words e.1 i lt) at ∙ ap (λ x. last_stored i x (take k h)) (index_after words e.1 i lt)
