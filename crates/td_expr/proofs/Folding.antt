-- Constant parts have their values in each environment, and expressions that are the same have one type and one value. Cited by other crates.
use Rattle.std.proofs.Common.{◌≡◌, ℕ, Bool, true, false, cond, refl, sym, ap, subst, ◌∙◌, List, ℤ, pos, negsuc, Option, Some, None}
use Rattle.std.specs.Prelude.{◌&&◌, nat_eq, nat_lt}
use Rattle.std.specs.Prelude.{slice_index}
use Rattle.std.proofs.lemmas.Option.{none-some, same_Some}
use Rattle.std.proofs.lemmas.Bool.{eqb-true, and_parts, false≢true}
use Rattle.td_num.proofs.Equals.{three_same, two_same}
use Rattle.td_expr.specs.Imports.{Span, Scalar, Truth, Eight, Sixteen, ThirtyTwo, SixtyFour, Binary, Add, Subtract, Multiply, Divide, Remainder, BitAnd, BitOr, BitXor, ShiftLeft, ShiftRight, Relation, Equal, NotEqual, Less, LessEqual, Greater, GreaterEqual}
use Rattle.td_core.specs.Term.{Term, number, name, complement, negation, compute, compare, both, either, choice, range_okay}
use Rattle.td_core.specs.Types.{limit, wider, computed_type, type_of}
use Rattle.td_expr.specs.Value.{value_of, complemented, negated, computed, compared, both_of, either_of, choice_of, range_okay_of}
use Rattle.td_expr.specs.Same.{fitting, of_one, of_two, of_three, constant_of, type_eq, binary_eq, relation_eq, settled, alike, same}

picked_is : (b : Bool) (m n : ℕ) → cond b (Some m) None ≡ Some n → m ≡ n
picked_is true m n h = same_Some m n h
picked_is false m n h = absurd (none-some n h)

fitting_is : (w : Scalar) (v : ℤ) (n : ℕ) → fitting w v ≡ Some n → v ≡ pos n
fitting_is w (pos m) n h = ap pos (picked_is (nat_lt m (limit w)) m n h)
fitting_is w (negsuc m) n h = absurd (none-some n h)

one_is : (w : Scalar) (f : ℤ → ℤ) (o : Option ℕ) (a : ℤ) (n : ℕ) → ((x : ℕ) → o ≡ Some x → a ≡ pos x) → of_one w f o ≡ Some n → f a ≡ pos n
one_is w f (Some x) a n g h = ap f (g x refl) ∙ fitting_is w (f (pos x)) n h
one_is w f None a n g h = absurd (none-some n h)

two_is : (w : Scalar) (f : ℤ → ℤ → ℤ) (o p : Option ℕ) (a b : ℤ) (n : ℕ) → ((x : ℕ) → o ≡ Some x → a ≡ pos x) → ((x : ℕ) → p ≡ Some x → b ≡ pos x) → of_two w f o p ≡ Some n → f a b ≡ pos n
two_is w f (Some x) (Some y) a b n g h k = ap (λ v. f v b) (g x refl) ∙ ap (f (pos x)) (h y refl) ∙ fitting_is w (f (pos x) (pos y)) n k
two_is w f (Some x) None a b n g h k = absurd (none-some n k)
two_is w f None p a b n g h k = absurd (none-some n k)

three_is : (w : Scalar) (f : ℤ → ℤ → ℤ → ℤ) (o p q : Option ℕ) (a b c : ℤ) (n : ℕ)
    → ((x : ℕ) → o ≡ Some x → a ≡ pos x) → ((x : ℕ) → p ≡ Some x → b ≡ pos x) → ((x : ℕ) → q ≡ Some x → c ≡ pos x) → of_three w f o p q ≡ Some n → f a b c ≡ pos n
three_is w f (Some x) p q a b c n g h i k = ap (λ v. f v b c) (g x refl) ∙ two_is w (f (pos x)) p q b c n h i k
three_is w f None p q a b c n g h i k = absurd (none-some n k)

pub constant_is : (t : Term) (n : ℕ) (env : List ℕ) → constant_of t ≡ Some n → value_of t env ≡ pos n
constant_is (number m w) n env h = ap pos (same_Some m n h)
constant_is (name i w most) n env h = absurd (none-some n h)
constant_is (complement a) n env h = one_is (type_of a) (complemented (type_of a)) (constant_of a) (value_of a env) n (λ x. constant_is a x env) h
constant_is (negation a) n env h = one_is Truth negated (constant_of a) (value_of a env) n (λ x. constant_is a x env) h
constant_is (compute op sb a b) n env h =
    two_is (computed_type op (type_of a) (type_of b)) (computed op (type_of a) (type_of b)) (constant_of a) (constant_of b) (value_of a env) (value_of b env) n (λ x. constant_is a x env) (λ x. constant_is b x env) h
constant_is (compare r a b) n env h = two_is Truth (compared r) (constant_of a) (constant_of b) (value_of a env) (value_of b env) n (λ x. constant_is a x env) (λ x. constant_is b x env) h
constant_is (both a b) n env h = two_is Truth both_of (constant_of a) (constant_of b) (value_of a env) (value_of b env) n (λ x. constant_is a x env) (λ x. constant_is b x env) h
constant_is (either a b) n env h = two_is Truth either_of (constant_of a) (constant_of b) (value_of a env) (value_of b env) n (λ x. constant_is a x env) (λ x. constant_is b x env) h
constant_is (choice c a b) n env h =
    three_is (wider (type_of a) (type_of b)) choice_of (constant_of c) (constant_of a) (constant_of b) (value_of c env) (value_of a env) (value_of b env) n
    (λ x. constant_is c x env) (λ x. constant_is a x env) (λ x. constant_is b x env) h
constant_is (range_okay s o a) n env h =
    three_is Truth range_okay_of (constant_of s) (constant_of o) (constant_of a) (value_of s env) (value_of o env) (value_of a env) n
    (λ x. constant_is s x env) (λ x. constant_is o x env) (λ x. constant_is a x env) h

pub type_same : (v w : Scalar) → type_eq v w ≡ true → v ≡ w
type_same Truth Truth h = refl
type_same Eight Eight h = refl
type_same Sixteen Sixteen h = refl
type_same ThirtyTwo ThirtyTwo h = refl
type_same SixtyFour SixtyFour h = refl
type_same v w h = absurd (false≢true h)

binary_same : (a b : Binary) → binary_eq a b ≡ true → a ≡ b
binary_same Add Add h = refl
binary_same Subtract Subtract h = refl
binary_same Multiply Multiply h = refl
binary_same Divide Divide h = refl
binary_same Remainder Remainder h = refl
binary_same BitAnd BitAnd h = refl
binary_same BitOr BitOr h = refl
binary_same BitXor BitXor h = refl
binary_same ShiftLeft ShiftLeft h = refl
binary_same ShiftRight ShiftRight h = refl
binary_same a b h = absurd (false≢true h)

relation_same : (a b : Relation) → relation_eq a b ≡ true → a ≡ b
relation_same Equal Equal h = refl
relation_same NotEqual NotEqual h = refl
relation_same Less Less h = refl
relation_same LessEqual LessEqual h = refl
relation_same Greater Greater h = refl
relation_same GreaterEqual GreaterEqual h = refl
relation_same a b h = absurd (false≢true h)

-- of one type, and of one value in an environment
pub record Alike (a b : Term) (env : List ℕ) : Type 0 where
  pub type : type_of a ≡ type_of b
  pub value : value_of a env ≡ value_of b env

settled_value : (o p : Option ℕ) (v w : Scalar) (x y : ℤ) (parts : Bool) → settled o p (type_eq v w) parts ≡ true
    → ((n : ℕ) → o ≡ Some n → x ≡ pos n) → ((n : ℕ) → p ≡ Some n → y ≡ pos n) → (parts ≡ true → (v ≡ w) × (x ≡ y)) → (v ≡ w) × (x ≡ y)
settled_value (Some m) (Some n) v w x y parts h f g k =
    let q = and_parts (nat_eq m n) (type_eq v w) h in (type_same v w q.1, f m refl ∙ ap pos (eqb-true m n q.0) ∙ sym (g n refl))
settled_value (Some m) None v w x y parts h f g k = absurd (false≢true h)
settled_value None (Some n) v w x y parts h f g k = absurd (false≢true h)
settled_value None None v w x y parts h f g k = k h

by_parts : (a b : Term) (env : List ℕ) (parts : Bool) → alike a b parts ≡ true → (parts ≡ true → Alike a b env) → Alike a b env
by_parts a b env parts h k =
    let q = settled_value (constant_of a) (constant_of b) (type_of a) (type_of b) (value_of a env) (value_of b env) parts h
    (λ n. constant_is a n env) (λ n. constant_is b n env) (λ t. let e = k t in (e.type, e.value)) in
    record { type = q.0; value = q.1 }

two_types : (f : Scalar → Scalar → Scalar) (v v' w w' : Scalar) → v ≡ v' → w ≡ w' → f v w ≡ f v' w'
two_types f v v' w w' g h = ap (λ x. f x w) g ∙ ap (f v') h

computed_same : (op : Binary) (v v' w w' : Scalar) (a a' b b' : ℤ) → v ≡ v' → w ≡ w' → a ≡ a' → b ≡ b' → computed op v w a b ≡ computed op v' w' a' b'
computed_same op v v' w w' a a' b b' g h i j =
    ap (λ x. computed op x w a b) g ∙ ap (λ x. computed op v' x a b) h ∙ two_same (computed op v' w') a a' b b' i j

of_binary : (op : Binary) (sb sd : Span) (a b c d : Term) (env : List ℕ) → Alike a c env → Alike b d env → Alike (compute op sb a b) (compute op sd c d) env
of_binary op sb sd a b c d env e f = record {
  type = two_types (computed_type op) (type_of a) (type_of c) (type_of b) (type_of d) e.type f.type;
  value = computed_same op (type_of a) (type_of c) (type_of b) (type_of d) (value_of a env) (value_of c env) (value_of b env) (value_of d env) e.type f.type e.value f.value;
}

pub equal : (a b : Term) (env : List ℕ) → same a b ≡ true → Alike a b env
equal (name i v most) (name j w other) env h =
    let p = and_parts (nat_eq i j) (type_eq v w && nat_eq most other) h in
    let q = and_parts (type_eq v w) (nat_eq most other) p.1 in
    record { type = type_same v w q.0; value = ap (λ k. pos (slice_index env k)) (eqb-true i j p.0) }
equal (complement a) (complement c) env h =
    by_parts (complement a) (complement c) env (same a c) h (λ t.
    let e = equal a c env t in
    record { type = e.type; value = ap (λ w. complemented w (value_of a env)) e.type ∙ ap (complemented (type_of c)) e.value })
equal (negation a) (negation c) env h =
    by_parts (negation a) (negation c) env (same a c) h (λ t. record { type = refl; value = ap negated (equal a c env t).value })
equal (compute op sb a b) (compute og sd c d) env h =
    by_parts (compute op sb a b) (compute og sd c d) env (binary_eq op og && (same a c && same b d)) h (λ t.
    let p = and_parts (binary_eq op og) (same a c && same b d) t in
    let q = and_parts (same a c) (same b d) p.1 in
    subst (λ o. Alike (compute op sb a b) (compute o sd c d) env) (binary_same op og p.0) (of_binary op sb sd a b c d env (equal a c env q.0) (equal b d env q.1)))
equal (compare r a b) (compare s c d) env h =
    by_parts (compare r a b) (compare s c d) env (relation_eq r s && (same a c && same b d)) h (λ t.
    let p = and_parts (relation_eq r s) (same a c && same b d) t in
    let q = and_parts (same a c) (same b d) p.1 in
    record {
      type = refl;
      value = ap (λ o. compared o (value_of a env) (value_of b env)) (relation_same r s p.0)
          ∙ two_same (compared s) (value_of a env) (value_of c env) (value_of b env) (value_of d env) (equal a c env q.0).value (equal b d env q.1).value;
    })
equal (both a b) (both c d) env h =
    by_parts (both a b) (both c d) env (same a c && same b d) h (λ t.
    let q = and_parts (same a c) (same b d) t in
    record { type = refl; value = two_same both_of (value_of a env) (value_of c env) (value_of b env) (value_of d env) (equal a c env q.0).value (equal b d env q.1).value })
equal (either a b) (either c d) env h =
    by_parts (either a b) (either c d) env (same a c && same b d) h (λ t.
    let q = and_parts (same a c) (same b d) t in
    record { type = refl; value = two_same either_of (value_of a env) (value_of c env) (value_of b env) (value_of d env) (equal a c env q.0).value (equal b d env q.1).value })
equal (choice t a b) (choice u c d) env h =
    by_parts (choice t a b) (choice u c d) env (same t u && (same a c && same b d)) h (λ z.
    let p = and_parts (same t u) (same a c && same b d) z in
    let q = and_parts (same a c) (same b d) p.1 in
    record {
      type = two_types wider (type_of a) (type_of c) (type_of b) (type_of d) (equal a c env q.0).type (equal b d env q.1).type;
      value = three_same choice_of (value_of t env) (value_of u env) (value_of a env) (value_of c env) (value_of b env) (value_of d env) (equal t u env p.0).value (equal a c env q.0).value (equal b d env q.1).value;
    })
equal (range_okay s o a) (range_okay t u c) env h =
    by_parts (range_okay s o a) (range_okay t u c) env (same s t && (same o u && same a c)) h (λ z.
    let p = and_parts (same s t) (same o u && same a c) z in
    let q = and_parts (same o u) (same a c) p.1 in
    record {
      type = refl;
      value = three_same range_okay_of (value_of s env) (value_of t env) (value_of o env) (value_of u env) (value_of a env) (value_of c env) (equal s t env p.0).value (equal o u env q.0).value (equal a c env q.1).value;
    })
equal a b env h = by_parts a b env false h (λ t. absurd (false≢true t))

pub same_value : (a b : Term) (env : List ℕ) → same a b ≡ true → value_of a env ≡ value_of b env
same_value a b env h = (equal a b env h).value
