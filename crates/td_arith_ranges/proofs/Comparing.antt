-- Comparing two expressions in one walk: of those without a value the parts decide, and of others the value.
use Rattle.std.proofs.Common.{◌≡◌, ℕ, ℤ, pos, Bool, true, false, refl, sym, ap, ◌∙◌, inl, inr, Option, Some, None}
use Rattle.std.specs.Prelude.{◌⊎◌, ◌&&◌}
use Rattle.std.proofs.lemmas.Option.{none-some}
use Rattle.td_core.specs.declared.expressions.Scalar.{Scalar}
use Rattle.td_core.specs.Term.{Term, name, complement, negation, compute, compare, both, either, choice, range_okay}
use Rattle.td_core.specs.Types.{type_of}
use Rattle.td_expr.specs.Same.{of_one, of_two, of_three, constant_of, type_eq, binary_eq, relation_eq, settled, alike, same}

pub one_free : (w : Scalar) (f : ℤ → ℤ) (o : Option ℕ) → o ≡ None → of_one w f o ≡ None
one_free w f None h = refl
one_free w f (Some x) h = absurd (none-some x (sym h))

pub two_free : (w : Scalar) (f : ℤ → ℤ → ℤ) (o p : Option ℕ) → (o ≡ None) ⊎ (p ≡ None) → of_two w f o p ≡ None
two_free w f None p h = refl
two_free w f (Some x) None h = refl
two_free w f (Some x) (Some y) (inl h) = absurd (none-some x (sym h))
two_free w f (Some x) (Some y) (inr h) = absurd (none-some y (sym h))

pub three_free : (w : Scalar) (f : ℤ → ℤ → ℤ → ℤ) (o p q : Option ℕ) → (o ≡ None) ⊎ ((p ≡ None) ⊎ (q ≡ None)) → of_three w f o p q ≡ None
three_free w f None p q h = refl
three_free w f (Some x) p q (inl h) = absurd (none-some x (sym h))
three_free w f (Some x) p q (inr h) = two_free w (f (pos x)) p q h

-- what isn't constant is the same as what has other parts in no case
pub settled_apart : (o : Option ℕ) (types : Bool) → settled None o types false ≡ false
settled_apart None types = refl
settled_apart (Some n) types = refl

-- where the first has no value, and neither has the second if their parts are the same, the parts decide
pub settled_free : (o p : Option ℕ) (types parts : Bool) → o ≡ None → (parts ≡ true → p ≡ None) → parts ≡ settled o p types parts
settled_free (Some m) p types parts h k = absurd (none-some m (sym h))
settled_free None None types parts h k = refl
settled_free None (Some n) types false h k = refl
settled_free None (Some n) types true h k = absurd (none-some n (sym (k refl)))

-- of two values, whatever the parts
whatever : (m : ℕ) (p : Option ℕ) (types parts : Bool) → settled (Some m) p types false ≡ settled (Some m) p types parts
whatever m (Some n) types parts = refl
whatever m None types parts = refl

alike_by_value : (a b : Term) (m : ℕ) (parts : Bool) → constant_of a ≡ Some m
    → settled (Some m) (constant_of b) (type_eq (type_of a) (type_of b)) false ≡ alike a b parts
alike_by_value a b m parts h =
    whatever m (constant_of b) (type_eq (type_of a) (type_of b)) parts
    ∙ ap (λ o. settled o (constant_of b) (type_eq (type_of a) (type_of b)) parts) (sym h)

pub value_decides : (a b : Term) (m : ℕ) → constant_of a ≡ Some m
    → settled (Some m) (constant_of b) (type_eq (type_of a) (type_of b)) false ≡ same a b
value_decides (name i v most) (name j w other) m h = absurd (none-some m h)
value_decides (complement a) (complement c) m h = alike_by_value (complement a) (complement c) m (same a c) h
value_decides (negation a) (negation c) m h = alike_by_value (negation a) (negation c) m (same a c) h
value_decides (compute op sb a b) (compute og sd c d) m h =
    alike_by_value (compute op sb a b) (compute og sd c d) m (binary_eq op og && (same a c && same b d)) h
value_decides (compare r a b) (compare q c d) m h = alike_by_value (compare r a b) (compare q c d) m (relation_eq r q && (same a c && same b d)) h
value_decides (both a b) (both c d) m h = alike_by_value (both a b) (both c d) m (same a c && same b d) h
value_decides (either a b) (either c d) m h = alike_by_value (either a b) (either c d) m (same a c && same b d) h
value_decides (choice t a b) (choice u c d) m h = alike_by_value (choice t a b) (choice u c d) m (same t u && (same a c && same b d)) h
value_decides (range_okay s o a) (range_okay t u c) m h = alike_by_value (range_okay s o a) (range_okay t u c) m (same s t && (same o u && same a c)) h
value_decides a b m h = alike_by_value a b m false h
