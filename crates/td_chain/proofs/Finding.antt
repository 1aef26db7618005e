-- What a list of loads is searched for.
use Rattle.std.proofs.Common.{◌≡◌, ◌≢◌, ℕ, Bool, true, false, cond, List, [], ◌∷◌, Some, None, nat_eq, ap, sym, refl, ◌∙◌}
use Rattle.std.specs.List.{All}
use Rattle.std.proofs.lemmas.Bool.{eq-eqb, eqb-true, true≢false}
use Rattle.std.proofs.lemmas.Option.{none-some, same_Some}
use Rattle.std.proofs.lemmas.List.Elements.{All-nil, All-cons, All-head, All-tail}
use Rattle.td_stream.specs.declared.load.Load.{Load}
use Rattle.td_chain.specs.Loaded.{Holds, IsFresh, value_in}

-- what is found is what the memory holds
pub value_holds : (i v : ℕ) (loads : List Load) (m : ℕ → ℕ) → Some v ≡ value_in i loads → Holds m loads → v ≡ m i
value_holds i v [] m e h = absurd (none-some v (sym e))
value_holds i v (l ∷ loads) m e h =
    by (nat_eq l.word i) refl e (λ k. value_holds i v loads m k (All-tail (λ (x : Load). m x.word ≡ x.value) l loads h))
  where
    by : (b : Bool) → nat_eq l.word i ≡ b → Some v ≡ cond b (Some l.value) (value_in i loads) → (Some v ≡ value_in i loads → v ≡ m i) → v ≡ m i
    by true t k rest = same_Some v l.value k ∙ sym (All-head (λ (x : Load). m x.word ≡ x.value) l loads h) ∙ ap m (eqb-true l.word i t)
    by false t k rest = rest k

-- where nothing is found, it wasn't loaded
pub none_fresh : (i : ℕ) (loads : List Load) → None ≡ value_in i loads → IsFresh i loads
none_fresh i [] e = All-nil (λ (x : Load). x.word ≢ i)
none_fresh i (l ∷ loads) e = by (nat_eq l.word i) refl e (λ k. none_fresh i loads k)
  where
    by : (b : Bool) → nat_eq l.word i ≡ b → None ≡ cond b (Some l.value) (value_in i loads) → (None ≡ value_in i loads → IsFresh i loads) → IsFresh i (l ∷ loads)
    by true t k rest = absurd (none-some l.value k)
    by false t k rest = All-cons (λ (x : Load). x.word ≢ i) l loads (λ w. true≢false (sym (eq-eqb l.word i w) ∙ t)) (rest k)
