-- Lists of those that wait: one more in a list, one list taken out.
use Rattle.std.proofs.Common.{◌≡◌, ℕ, zero, suc, ◌<◌, Bool, true, false, List, [], ◌∷◌, ◌++◌, length, set, nat_eq, refl, sym, ap, subst, ◌∙◌, arith}
use Rattle.std.proofs.lemmas.Bool.Decides.{nat_tests}
use Rattle.td_num.specs.Lists.{is_among}
use Rattle.td_num.proofs.Equals.{equal_itself}
use Rattle.td_num.proofs.Truths.{or_left, or_right}
use Rattle.td_front_order.specs.Order.{used_by}
use Rattle.td_front_order.proofs.Ready.{among_append}

pub set_here : (lists : List (List ℕ)) (i : ℕ) (row : List ℕ) → i < length lists → used_by (set lists i row) i ≡ row
set_here [] i row lt = absurd (omega arith)
set_here (x ∷ lists) zero row lt = refl
set_here (x ∷ lists) (suc i) row lt = set_here lists i row (omega arith)

pub set_else : (lists : List (List ℕ)) (i j : ℕ) (row : List ℕ) → nat_eq j i ≡ false → used_by (set lists i row) j ≡ used_by lists j
set_else [] i j row e = refl
set_else (x ∷ lists) zero zero row e = absurd (grind (arith, nat_tests))
set_else (x ∷ lists) zero (suc j) row e = refl
set_else (x ∷ lists) (suc i) zero row e = refl
set_else (x ∷ lists) (suc i) (suc j) row e = set_else lists i j row (grind (arith, nat_tests))

module _ (lists : List (List ℕ)) (other number : ℕ) (lt : other < length lists) where
  -- the one that was added
  pub added_there : is_among (used_by (set lists other (used_by lists other ++ number ∷ [])) other) number ≡ true
  added_there =
      ap (λ row. is_among row number) (set_here lists other (used_by lists other ++ number ∷ []) lt) ∙ among_append (used_by lists other) number number
      ∙ or_right (is_among (used_by lists other) number) (nat_eq number number) (equal_itself number)

  -- and those that were there
  pub kept_there : (j k : ℕ) → is_among (used_by lists j) k ≡ true → is_among (used_by (set lists other (used_by lists other ++ number ∷ [])) j) k ≡ true
  kept_there j k h = by (nat_eq j other) refl
    where
      by : (b : Bool) → nat_eq j other ≡ b → is_among (used_by (set lists other (used_by lists other ++ number ∷ [])) j) k ≡ true
      by true e =
          let same : j ≡ other = grind (arith, nat_tests) in
          let old : is_among (used_by lists other) k ≡ true = subst (λ n. is_among (used_by lists n) k ≡ true) same h in
          ap (λ n. is_among (used_by (set lists other (used_by lists other ++ number ∷ [])) n) k) same
          ∙ ap (λ row. is_among row k) (set_here lists other (used_by lists other ++ number ∷ []) lt) ∙ among_append (used_by lists other) number k
          ∙ or_left (is_among (used_by lists other) k) (nat_eq k number) old
      by false e = ap (λ row. is_among row k) (set_else lists other j (used_by lists other ++ number ∷ []) e) ∙ h
