-- Places one after the other.
use Rattle.std.proofs.Common.{◌≡◌, ℕ, zero, suc, ◌+◌, [], ◌∷◌, ◌++◌, sym, ap, ◌∙◌, arith}
use Rattle.td_num.specs.Numbers.{places_from}

-- one more at the end
pub places-push : (p n : ℕ) → places_from p n ++ (p + n) ∷ [] ≡ places_from p (n + 1)
places-push p zero = let e : p + 0 ≡ p = omega arith in ap (λ x. x ∷ []) e
places-push p (suc n) =
    let e : p + suc n ≡ (p + 1) + n = omega arith in
    let k : suc n + 1 ≡ suc (n + 1) = omega arith in
    ap (λ x. p ∷ (places_from (p + 1) n ++ x ∷ [])) e
    ∙ ap (λ t. p ∷ t) (places-push (p + 1) n)
    ∙ ap (λ m. places_from p m) (sym k)
