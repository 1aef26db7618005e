-- What the code of a sound expression gives is its value.
use Rattle.std.proofs.Common.{◌≡◌, ℕ, zero, suc, ◌+◌, ◌-◌, ◌*◌, ◌/◌, ◌%◌, ◌^◌, ◌<◌, ◌≤◌, Bool, true, false, cond, ◌||◌, List, refl, sym, ap, ◌∙◌, subst, arith, nat_eq, nat_lt, nat_le, slice_index, bit_and, bit_or, bit_xor, ℤ, pos}
use Rattle.std.specs.Prelude.{◌-ℤ◌, int_lt}
use Rattle.std.specs.Int.Bits.{or_self}
use Rattle.std.proofs.lemmas.Nat.{and_mask, xor_block, pow-add}
use Rattle.std.proofs.lemmas.Bool.{ltb-true, ltb-false, leb-true, leb-false}
use Rattle.std.proofs.Math.Nat.{mod-eq_of_lt}
use Rattle.td_lower_means.specs.Imports.{Relation, Equal, NotEqual, Less, LessEqual, Greater, GreaterEqual, Binary as Operator, Add, Subtract, Multiply, Divide, Remainder, BitAnd, BitOr, BitXor, ShiftLeft as ShiftLeftOp, ShiftRight}
use Rattle.td_core.specs.declared.expressions.Scalar.{Scalar}
use Rattle.td_core.specs.declared.expressions.Scalar.TheVariants.{Truth, Eight, Sixteen, ThirtyTwo, SixtyFour}
use Rattle.td_core.specs.Term.{Term, number, name, complement, negation, compute, compare, both, either, choice, range_okay}
use Rattle.td_core.specs.Types.{bits, limit, wider, type_of, computed_type}
use Rattle.td_expr.specs.Value.{value_of, truth_of, number_of, flip, chosen, computed, related, natural, complemented, negated, compared, both_of, either_of, choice_of, range_okay_of}
use Rattle.td_expr.specs.Sound.{FitsScalar, Sound}
use Rattle.td_expr.proofs.Widths.{limit_small, wider_left, wider_right}
use Rattle.td_expr.proofs.Holding.{in_type, as_number, below_limit}
use Rattle.td_expr.proofs.Reaching.{minus_is}
use Rattle.td_expr.proofs.Applying.{shifted_out, gone}
use Rattle.td_expr.specs.Naming.{names}
use Rattle.td_lower_blocks.specs.Constructs.{Expr}
use Rattle.td_lower_blocks.specs.Placed.{Truths}
use Rattle.td_ir.specs.Values.{operated, bit}
use Rattle.td_lower_blocks.specs.Lowered.{expr_of, computed_of, compared_of, mask_of}
use Rattle.td_lower_means.proofs.Puts.{valued}
use Rattle.td_num.proofs.Equals.{equal_itself as itself, minus_under}
use Rattle.td_num.proofs.Truths.{or_right, or_left}

pub nonzero : (n : ℕ) → nat_eq (suc n) 0 ≡ false
nonzero n = grind arith

xor_one : (r : ℕ) → r < 2 → bit_xor r 1 ≡ 1 - r
xor_one zero h = refl
xor_one (suc zero) h = refl
xor_one (suc (suc r)) h = absurd (omega (arith, h))

next_power : (k : ℕ) → 2 ^ suc k ≡ 2 ^ k * 2
next_power k = ap (λ z. 2 ^ z) (omega arith) ∙ pow-add 2 k 1

power_some : (k : ℕ) → 1 ≤ 2 ^ k
power_some zero = omega arith
power_some (suc k) = omega (arith, next_power k, power_some k)

pub xor_ones : (k n : ℕ) → n < 2 ^ k → bit_xor n (2 ^ k - 1) ≡ 2 ^ k - 1 - n
xor_ones zero n h = let z : n ≡ 0 = omega (arith, h) in ap (λ x. bit_xor x 0) z ∙ omega (arith, z)
xor_ones (suc k) n h =
    let pow = next_power k in
    let some = power_some k in
    let low : n / 2 < 2 ^ k = omega (arith, h, pow) in
    let small : n % 2 < 2 = omega arith in
    let split : n ≡ n / 2 * 2 + n % 2 = omega arith in
    let mask : 2 ^ suc k - 1 ≡ (2 ^ k - 1) * 2 + 1 = omega (arith, pow, some) in
    let step : bit_xor (n / 2 * 2 + n % 2) ((2 ^ k - 1) * 2 + 1) ≡ bit_xor (n / 2) (2 ^ k - 1) * 2 + bit_xor (n % 2) 1 = xor_block 1 (n / 2) (2 ^ k - 1) (n % 2) 1 small (omega arith) in
    let high = xor_ones k (n / 2) low in
    let one = xor_one (n % 2) small in
    ap (λ x. bit_xor x (2 ^ suc k - 1)) split ∙ ap (bit_xor (n / 2 * 2 + n % 2)) mask ∙ step ∙ ap (λ x. x * 2 + bit_xor (n % 2) 1) high ∙ ap (λ x. (2 ^ k - 1 - n / 2) * 2 + x) one
    ∙ omega (arith, pow, some, low, small, split)

-- bits past the width are dropped
masked_shift : (v : Scalar) (x y : ℕ) → bit_and (operated 8 x y) (limit v - 1) ≡ x * 2 ^ y % limit v
masked_shift v x y = by (nat_le 64 y) refl
  where
    twice : (v : Scalar) (z : ℕ) → z % 2 ^ 64 % limit v ≡ z % limit v
    twice Truth z = omega arith
    twice Eight z = omega arith
    twice Sixteen z = omega arith
    twice ThirtyTwo z = omega arith
    twice SixtyFour z = omega arith

    by : (b : Bool) → nat_le 64 y ≡ b → bit_and (cond b 0 (x * 2 ^ y % 2 ^ 64)) (limit v - 1) ≡ x * 2 ^ y % limit v
    by true e = shifted_out v x y (leb-true 64 y e)
    by false e = and_mask (x * 2 ^ y % 2 ^ 64) (bits v) ∙ twice v (x * 2 ^ y)

wrapped : (x y : ℕ) → y ≤ x → x < 2 ^ 64 → operated 1 x y ≡ x - y
wrapped x y h l = omega (arith, h, l)

shifted_right : (v : Scalar) (x y : ℕ) → x < limit v → operated 9 x y ≡ x / 2 ^ y
shifted_right v x y h = by (nat_le 64 y) refl
  where
    by : (b : Bool) → nat_le 64 y ≡ b → cond b 0 (x / 2 ^ y) ≡ x / 2 ^ y
    by true e = gone v x y h (leb-true 64 y e)
    by false e = refl

op_value : (op : Operator) (v w : Scalar) (x y : ℕ) (a b : Expr) (r : List ℕ) → valued a r ≡ x → valued b r ≡ y → x < limit v → y < limit w → FitsScalar (computed_type op v w) (computed op v w (pos x) (pos y))
    → valued (computed_of op (limit v - 1) a b) r ≡ natural (computed op v w (pos x) (pos y))
op_value Add v w x y a b r p q h k f = ap (λ z. operated 0 z (valued b r)) p ∙ ap (operated 0 x) q ∙ mod-eq_of_lt (omega (arith, f, limit_small (wider v w)))
op_value Subtract v w x y a b r p q h k f = ap (λ z. operated 1 z (valued b r)) p ∙ ap (operated 1 x) q ∙ by (nat_lt x y) refl
  where
    by : (c : Bool) → nat_lt x y ≡ c → operated 1 x y ≡ natural (pos x -ℤ pos y)
    by true e = absurd (subst (FitsScalar (wider v w)) (minus_under x y (ltb-true x y e)) f)
    by false e = let le = ltb-false x y e in wrapped x y le (omega (arith, h, limit_small v)) ∙ ap natural (sym (minus_is x y le))
op_value Multiply v w x y a b r p q h k f = ap (λ z. operated 2 z (valued b r)) p ∙ ap (operated 2 x) q ∙ mod-eq_of_lt (omega (arith, f, limit_small (wider v w)))
op_value Divide v w x zero a b r p q h k f = ap (λ z. operated 3 z (valued b r)) p ∙ ap (operated 3 x) q
op_value Divide v w x (suc y) a b r p q h k f = ap (λ z. operated 3 z (valued b r)) p ∙ ap (operated 3 x) q ∙ ap (λ z. cond z 0 (x / suc y)) (nonzero y)
op_value Remainder v w x zero a b r p q h k f = ap (λ z. operated 4 z (valued b r)) p ∙ ap (operated 4 x) q
op_value Remainder v w x (suc y) a b r p q h k f = ap (λ z. operated 4 z (valued b r)) p ∙ ap (operated 4 x) q ∙ ap (λ z. cond z 0 (x % suc y)) (nonzero y)
op_value BitAnd v w x y a b r p q h k f = ap (λ z. operated 5 z (valued b r)) p ∙ ap (operated 5 x) q ∙ ap (λ z. bit_and z y) (sym (mod-eq_of_lt (omega (arith, h, wider_left v w)))) ∙ ap (bit_and (x % limit (wider v w))) (sym (mod-eq_of_lt (omega (arith, k, wider_right v w))))
op_value BitOr v w x y a b r p q h k f = ap (λ z. operated 6 z (valued b r)) p ∙ ap (operated 6 x) q ∙ ap (λ z. bit_or z y) (sym (mod-eq_of_lt (omega (arith, h, wider_left v w)))) ∙ ap (bit_or (x % limit (wider v w))) (sym (mod-eq_of_lt (omega (arith, k, wider_right v w))))
op_value BitXor v w x y a b r p q h k f = ap (λ z. operated 7 z (valued b r)) p ∙ ap (operated 7 x) q ∙ ap (λ z. bit_xor z y) (sym (mod-eq_of_lt (omega (arith, h, wider_left v w)))) ∙ ap (bit_xor (x % limit (wider v w))) (sym (mod-eq_of_lt (omega (arith, k, wider_right v w))))
op_value ShiftLeftOp v w x y a b r p q h k f =
    ap (λ z. operated 5 (operated 8 z (valued b r)) (limit v - 1)) p ∙ ap (λ z. operated 5 (operated 8 x z) (limit v - 1)) q ∙ masked_shift v x y
    ∙ ap (λ z. z * 2 ^ y % limit v) (sym (mod-eq_of_lt h)) ∙ ap (λ z. x % limit v * 2 ^ z % limit v) (sym (mod-eq_of_lt k))
op_value ShiftRight v w x y a b r p q h k f = ap (λ z. operated 9 z (valued b r)) p ∙ ap (operated 9 x) q ∙ shifted_right v x y h ∙ ap (λ z. z / 2 ^ y) (sym (mod-eq_of_lt h)) ∙ ap (λ z. x % limit v / 2 ^ z) (sym (mod-eq_of_lt k))

same_bit : (b : Bool) → bit b ≡ natural (number_of b)
same_bit true = refl
same_bit false = refl

flipped_bit : (b : Bool) → cond b 0 1 ≡ natural (number_of (flip b))
flipped_bit true = refl
flipped_bit false = refl

not_over : (x y : ℕ) → bit (nat_le x y) ≡ natural (number_of (flip (int_lt (pos y) (pos x))))
not_over x y = by (nat_le x y) (nat_lt y x) refl refl
  where
    by : (b c : Bool) → nat_le x y ≡ b → nat_lt y x ≡ c → bit b ≡ natural (number_of (flip c))
    by true true e f = absurd (omega (arith, leb-true x y e, ltb-true y x f))
    by true false e f = refl
    by false true e f = refl
    by false false e f = absurd (omega (arith, leb-false x y e, ltb-false y x f))

related_value : (k : Relation) (x y : ℕ) (a b : Expr) (r : List ℕ) → valued a r ≡ x → valued b r ≡ y → valued (compared_of k a b) r ≡ natural (compared k (pos x) (pos y))
related_value Equal x y a b r p q = ap (λ z. operated 10 z (valued b r)) p ∙ ap (operated 10 x) q ∙ same_bit (nat_eq x y)
related_value NotEqual x y a b r p q = ap (λ z. operated 11 z (valued b r)) p ∙ ap (operated 11 x) q ∙ flipped_bit (nat_eq x y)
related_value Less x y a b r p q = ap (λ z. operated 12 z (valued b r)) p ∙ ap (operated 12 x) q ∙ same_bit (nat_lt x y)
related_value LessEqual x y a b r p q = ap (λ z. operated 13 z (valued b r)) p ∙ ap (operated 13 x) q ∙ not_over x y
related_value Greater x y a b r p q = ap (λ z. operated 12 z (valued a r)) q ∙ ap (operated 12 y) p ∙ same_bit (nat_lt y x)
related_value GreaterEqual x y a b r p q = ap (λ z. operated 13 z (valued a r)) q ∙ ap (operated 13 y) p ∙ not_over y x

-- registers agree with the values in scope that an expression names
abbrev pub Agrees : (ℕ → Bool) → List ℕ → List ℕ → Type 0
Agrees test env r = (j : ℕ) → test j ≡ true → slice_index r j ≡ slice_index env j

-- Values

not_value : (n : ℕ) → bit (nat_eq n 0) ≡ natural (negated (pos n))
not_value zero = refl
not_value (suc n) = ap bit (nonzero n)

truth_small : (m : ℕ) → m < 2 → m ≡ natural (number_of (truth_of (pos m)))
truth_small zero h = refl
truth_small (suc zero) h = refl
truth_small (suc (suc m)) h = absurd (omega (arith, h))

both_value : (n v : ℕ) (B : ℤ) → (truth_of (pos n) ≡ true → v ≡ natural (number_of (truth_of B))) → cond (nat_eq n 0) n v ≡ natural (both_of (pos n) B)
both_value zero v B h = refl
both_value (suc n) v B h = ap (λ z. cond z (suc n) v) (nonzero n) ∙ h refl

either_value : (n v : ℕ) (B : ℤ) → n < 2 → (truth_of (pos n) ≡ false → v ≡ natural (number_of (truth_of B))) → cond (nat_eq n 0) v n ≡ natural (either_of (pos n) B)
either_value zero v B l h = h refl
either_value (suc zero) v B l h = refl
either_value (suc (suc n)) v B l h = absurd (omega (arith, l))

choice_value : (n v u : ℕ) (A B : ℤ) → (truth_of (pos n) ≡ true → v ≡ natural A) → (truth_of (pos n) ≡ false → u ≡ natural B) → cond (nat_eq n 0) u v ≡ natural (choice_of (pos n) A B)
choice_value zero v u A B h k = k refl
choice_value (suc n) v u A B h k = ap (λ z. cond z u v) (nonzero n) ∙ h refl

at_most : (x y : ℕ) → related LessEqual (pos x) (pos y) ≡ nat_le x y
at_most x y = by (nat_le x y) (nat_lt y x) refl refl
  where
    by : (b c : Bool) → nat_le x y ≡ b → nat_lt y x ≡ c → flip c ≡ b
    by true true e f = absurd (omega (arith, leb-true x y e, ltb-true y x f))
    by true false e f = refl
    by false true e f = refl
    by false false e f = absurd (omega (arith, leb-false x y e, ltb-false y x f))

and_one : (b : Bool) → bit_and (bit b) 1 ≡ natural (number_of b)
and_one true = refl
and_one false = refl

and_none : (b : Bool) → bit_and (bit b) 0 ≡ 0
and_none true = refl
and_none false = refl

range_value : (s o a : ℕ) → s < 2 ^ 64 → operated 5 (operated 13 o (operated 1 s a)) (operated 13 a s) ≡ natural (range_okay_of (pos s) (pos o) (pos a))
range_value s o a l = by (nat_le a s) refl
  where
    by : (b : Bool) → nat_le a s ≡ b → bit_and (bit (nat_le o (operated 1 s a))) (bit (nat_le a s)) ≡ natural (number_of (chosen (related LessEqual (pos a) (pos s)) (related LessEqual (pos o) (pos s -ℤ pos a)) false))
    by true e =
        let le = leb-true a s e in
        ap (λ z. bit_and (bit (nat_le o (operated 1 s a))) (bit z)) e
        ∙ ap (λ z. bit_and (bit (nat_le o z)) 1) (wrapped s a le l)
        ∙ and_one (nat_le o (s - a))
        ∙ ap (λ z. natural (number_of z)) (sym (at_most o (s - a)) ∙ ap (related LessEqual (pos o)) (sym (minus_is s a le)))
        ∙ ap (λ z. natural (number_of (chosen z (related LessEqual (pos o) (pos s -ℤ pos a)) false))) (sym (at_most a s ∙ e))
    by false e =
        ap (λ z. bit_and (bit (nat_le o (operated 1 s a))) (bit z)) e ∙ and_none (nat_le o (operated 1 s a))
        ∙ ap (λ z. natural (number_of (chosen z (related LessEqual (pos o) (pos s -ℤ pos a)) false))) (sym (at_most a s ∙ e))

pub record Number (a : Term) (env : List ℕ) : Type 0 where
  pub is : value_of a env ≡ pos (natural (value_of a env))
  pub small : natural (value_of a env) < limit (type_of a)

pub number_of_sound : (a : Term) (env : List ℕ) → Sound a env → Number a env
number_of_sound a env s = record { is = as_number (type_of a) (value_of a env) (in_type a env s); small = below_limit (type_of a) (value_of a env) (in_type a env s) }

truth_below : (a : Term) (env : List ℕ) → type_of a ≡ Truth → Sound a env → natural (value_of a env) < 2
truth_below a env t s = subst (λ w. natural (value_of a env) < limit w) t (number_of_sound a env s).small

truth_value : (a : Term) (env : List ℕ) → type_of a ≡ Truth → Sound a env → natural (value_of a env) ≡ natural (number_of (truth_of (value_of a env)))
truth_value a env t s =
    let n = number_of_sound a env s in
    truth_small (natural (value_of a env)) (truth_below a env t s) ∙ ap (λ v. natural (number_of (truth_of v))) (sym n.is)

pub value_is : (e : Term) (env r : List ℕ) → Truths e → Sound e env → Agrees (λ j. names j e) env r → valued (expr_of e) r ≡ natural (value_of e env)
value_is (number n w) env r t s g = refl
value_is (name i w most) env r t s g = or_self (slice_index r i) ∙ g i (itself i)
value_is (complement a) env r t s g =
    let n = number_of_sound a env s.1 in
    let x = natural (value_of a env) in
    ap (λ v. bit_xor v (mask_of a)) (value_is a env r t s.1 g) ∙ xor_ones (bits (type_of a)) x n.small
    ∙ ap (λ v. limit (type_of a) - 1 - v) (sym (mod-eq_of_lt n.small)) ∙ ap (λ v. natural (complemented (type_of a) v)) (sym n.is)
value_is (negation a) env r t s g =
    let n = number_of_sound a env s.1 in
    ap (λ v. operated 10 v 0) (value_is a env r t s.1 g) ∙ not_value (natural (value_of a env)) ∙ ap (λ v. natural (negated v)) (sym n.is)
value_is (compute op span a b) env r t s g =
    let n = number_of_sound a env s.1.0 in
    let m = number_of_sound b env s.1.1 in
    let va = value_is a env r t.0 s.1.0 (λ j h. g j (or_left (names j a) (names j b) h)) in
    let vb = value_is b env r t.1 s.1.1 (λ j h. g j (or_right (names j a) (names j b) h)) in
    let x = natural (value_of a env) in
    let y = natural (value_of b env) in
    let f = subst (λ v. FitsScalar (computed_type op (type_of a) (type_of b)) (computed op (type_of a) (type_of b) (pos x) v)) m.is
    (subst (λ v. FitsScalar (computed_type op (type_of a) (type_of b)) (computed op (type_of a) (type_of b) v (value_of b env))) n.is s.0) in
    op_value op (type_of a) (type_of b) x y (expr_of a) (expr_of b) r va vb n.small m.small f
    ∙ ap (λ v. natural (computed op (type_of a) (type_of b) v (pos y))) (sym n.is) ∙ ap (λ v. natural (computed op (type_of a) (type_of b) (value_of a env) v)) (sym m.is)
value_is (compare k a b) env r t s g =
    let n = number_of_sound a env s.1.0 in
    let m = number_of_sound b env s.1.1 in
    let va = value_is a env r t.0 s.1.0 (λ j h. g j (or_left (names j a) (names j b) h)) in
    let vb = value_is b env r t.1 s.1.1 (λ j h. g j (or_right (names j a) (names j b) h)) in
    let x = natural (value_of a env) in
    let y = natural (value_of b env) in
    related_value k x y (expr_of a) (expr_of b) r va vb
    ∙ ap (λ v. natural (compared k v (pos y))) (sym n.is) ∙ ap (λ v. natural (compared k (value_of a env) v)) (sym m.is)
value_is (both a b) env r t s g =
    let n = number_of_sound a env s.1.0 in
    let va = value_is a env r t.1.1.0 s.1.0 (λ j h. g j (or_left (names j a) (names j b) h)) in
    let x = natural (value_of a env) in
    ap (λ v. cond (nat_eq v 0) v (valued (expr_of b) r)) va
    ∙ both_value x (valued (expr_of b) r) (value_of b env)
    (λ h. let sb = s.1.1 (ap truth_of n.is ∙ h) in
    value_is b env r t.1.1.1 sb (λ j h. g j (or_right (names j a) (names j b) h)) ∙ truth_value b env t.1.0 sb)
    ∙ ap (λ v. natural (both_of v (value_of b env))) (sym n.is)
value_is (either a b) env r t s g =
    let n = number_of_sound a env s.1.0 in
    let va = value_is a env r t.1.1.0 s.1.0 (λ j h. g j (or_left (names j a) (names j b) h)) in
    let x = natural (value_of a env) in
    ap (λ v. cond (nat_eq v 0) (valued (expr_of b) r) v) va
    ∙ either_value x (valued (expr_of b) r) (value_of b env) (truth_below a env t.0 s.1.0)
    (λ h. let sb = s.1.1 (ap truth_of n.is ∙ h) in
    value_is b env r t.1.1.1 sb (λ j h. g j (or_right (names j a) (names j b) h)) ∙ truth_value b env t.1.0 sb)
    ∙ ap (λ v. natural (either_of v (value_of b env))) (sym n.is)
value_is (choice c a b) env r t s g =
    let n = number_of_sound c env s.1.0 in
    let vc = value_is c env r t.0 s.1.0 (λ j h. g j (or_left (names j c) (names j a || names j b) h)) in
    let x = natural (value_of c env) in
    ap (λ v. cond (nat_eq v 0) (valued (expr_of b) r) (valued (expr_of a) r)) vc
    ∙ choice_value x (valued (expr_of a) r) (valued (expr_of b) r) (value_of a env) (value_of b env)
    (λ h. value_is a env r t.1.0 (s.1.1.0 (ap truth_of n.is ∙ h)) (λ j h. g j (or_right (names j c) (names j a || names j b) (or_left (names j a) (names j b) h))))
    (λ h. value_is b env r t.1.1 (s.1.1.1 (ap truth_of n.is ∙ h)) (λ j h. g j (or_right (names j c) (names j a || names j b) (or_right (names j a) (names j b) h))))
    ∙ ap (λ v. natural (choice_of v (value_of a env) (value_of b env))) (sym n.is)
value_is (range_okay s o a) env r t h g =
    let ns = number_of_sound s env h.1.0 in
    let no = number_of_sound o env h.1.1.0 in
    let na = number_of_sound a env h.1.1.1 in
    let vs = value_is s env r t.0 h.1.0 (λ j k. g j (or_left (names j s) (names j o || names j a) k)) in
    let vo = value_is o env r t.1.0 h.1.1.0 (λ j k. g j (or_right (names j s) (names j o || names j a) (or_left (names j o) (names j a) k))) in
    let va = value_is a env r t.1.1 h.1.1.1 (λ j k. g j (or_right (names j s) (names j o || names j a) (or_right (names j o) (names j a) k))) in
    let x = natural (value_of s env) in
    let y = natural (value_of o env) in
    let z = natural (value_of a env) in
    ap (λ v. operated 5 (operated 13 (valued (expr_of o) r) (operated 1 v (valued (expr_of a) r))) (operated 13 (valued (expr_of a) r) v)) vs
    ∙ ap (λ v. operated 5 (operated 13 v (operated 1 x (valued (expr_of a) r))) (operated 13 (valued (expr_of a) r) x)) vo
    ∙ ap (λ v. operated 5 (operated 13 y (operated 1 x v)) (operated 13 v x)) va
    ∙ range_value x y z (omega (arith, ns.small, limit_small (type_of s)))
    ∙ ap (λ v. natural (range_okay_of v (pos y) (pos z))) (sym ns.is)
    ∙ ap (λ v. natural (range_okay_of (value_of s env) v (pos z))) (sym no.is)
    ∙ ap (λ v. natural (range_okay_of (value_of s env) (value_of o env) v)) (sym na.is)
