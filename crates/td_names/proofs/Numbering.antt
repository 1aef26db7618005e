-- One number more in a set.
use Rattle.std.proofs.Common.{◌≡◌, ℕ, Bool, true, false, cond, List, [], ◌∷◌, ◌++◌, ◌||◌, nat_eq, refl, sym, ap, ◌∙◌}
use Rattle.std.specs.List.{list_any}
use Rattle.std.specs.Ordering.{is_eq, nat_cmp}
use Rattle.std.proofs.lemmas.List.Folds.{list_any-append}
use Rattle.td_num.proofs.Equals.{same_test}
use Rattle.td_names.specs.Numbers.{is_among, AreAlike}

either : (a b : Bool) → cond a true b ≡ (b || (a || false))
either true true = refl
either true false = refl
either false true = refl
either false false = refl

pub added_alike : (ns old new : List ℕ) (number : ℕ) → AreAlike ns old
    → ((q : ℕ) → list_any (λ k. is_eq (nat_cmp q k)) new ≡ cond (is_eq (nat_cmp number q)) true (list_any (λ k. is_eq (nat_cmp q k)) old))
    → AreAlike (ns ++ number ∷ []) new
added_alike ns old new number alike more n =
    more n ∙ ap (λ b. cond b true (list_any (λ k. is_eq (nat_cmp n k)) old)) (same_test n number) ∙ ap (λ b. cond (nat_eq n number) true b) (alike n)
    ∙ either (nat_eq n number) (is_among ns n) ∙ sym (list_any-append (nat_eq n) ns (number ∷ []))
