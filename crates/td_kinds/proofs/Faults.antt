-- The first of faults in one list and then another.
use Rattle.std.proofs.Common.{◌≡◌, ℕ, zero, suc, ◌+◌, ◌<◌, false, nat_eq, List, [], ◌∷◌, ◌++◌, length, get_or, drop, drop-cons, add-one, refl, sym, ap, ◌∙◌, arith, Some}
use Rattle.std.proofs.lemmas.Option.{none-some}
use Rattle.std.proofs.lemmas.Bool.Decides.{nat_tests}
use Rattle.td_core.specs.declared.kind.Kind.{Kind}
use Rattle.td_core.specs.declared.module.Field.{Field}
use Rattle.td_kinds.specs.declared.error.KindFault.{KindFault}
use Rattle.td_kinds.specs.KindRules.{field_faults, fields_faults, is_empty, first_fault}

pub found : (a b : List KindFault) (f : KindFault) → Some f ≡ first_fault a → Some f ≡ first_fault (a ++ b)
found [] b f h = absurd (none-some f (sym h))
found (x ∷ a) b f h = h

pub passed : (a b : List KindFault) → ((f : KindFault) → first_fault a ≡ Some f → ⊥) → first_fault (a ++ b) ≡ first_fault b
passed [] b h = refl
passed (x ∷ a) b h = absurd (h x refl)

unequal : (m n : ℕ) → m < n → false ≡ nat_eq m n
unequal m n h = grind (arith, nat_tests)

one_more : (m n : ℕ) → nat_eq (m + 1) n ≡ nat_eq (suc m + 1) (suc n)
one_more m n = grind (arith, nat_tests)

-- the last field is the one after which none is left
is_last : {A : Type 0} (xs : List A) (i : ℕ) → i < length xs → is_empty (drop (suc i) xs) ≡ nat_eq (i + 1) (length xs)
is_last [] i h = absurd (omega (arith, h))
is_last (x ∷ []) zero h = refl
is_last (x ∷ y ∷ xs) zero h = unequal (0 + 1) (suc (suc (length xs))) (omega arith)
is_last (x ∷ []) (suc i) h = absurd (omega (arith, h))
is_last (x ∷ y ∷ xs) (suc i) h = is_last (y ∷ xs) i (omega (arith, h)) ∙ one_more i (length (y ∷ xs))

-- at place i of fields
pub fields_next : (kinds : ℕ → Kind) (fs : List Field) (i : ℕ) (f : Field) → i < length fs → f ≡ get_or fs i f
    → fields_faults kinds (drop i fs) ≡ field_faults kinds f (nat_eq (i + 1) (length fs)) ++ fields_faults kinds (drop (i + 1) fs)
fields_next kinds fs i f low is =
    ap (fields_faults kinds) (drop-cons fs i f low ∙ ap (λ x. x ∷ drop (suc i) fs) (sym is))
    ∙ ap (λ b. field_faults kinds f b ++ fields_faults kinds (drop (suc i) fs)) (is_last fs i low)
    ∙ ap (λ j. field_faults kinds f (nat_eq (i + 1) (length fs)) ++ fields_faults kinds (drop j fs)) (sym (add-one i))
