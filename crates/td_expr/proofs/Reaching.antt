-- What a range contains, and what an operator makes of it. Cited by other crates.
use Rattle.std.proofs.Common.{◌≡◌, ℕ, zero, suc, ◌<◌, ◌≤◌, ◌+◌, ◌-◌, ◌*◌, ◌/◌, ◌%◌, ◌^◌, Bool, true, false, cond, ltb, eqb, refl, sym, ap, subst, ◌∙◌, inl, inr, arith, List, [], ◌∷◌, ◌++◌, ℤ, pos, negsuc, Option, Some, None}
use Rattle.std.specs.Prelude.{◌+ℤ◌, ◌-ℤ◌, ◌*ℤ◌, int_lt, bit_and, bit_or, bit_xor}
use Rattle.std.proofs.lemmas.Bool.{ltb-true, ltb-false, le-ltb, eqb-true, eq-eqb, cases_lt, cases_eq, ne_eqb, false≢true, true≢false}
use Rattle.std.proofs.lemmas.Nat.{mul-le, and_le_l, and_le_r, or_lt, xor_lt, mod_below, shr_le}
use Rattle.std.proofs.Math.IntN.{pos-ne-negsuc}
use Rattle.std.proofs.Math.Nat.{div-le_self, mod-le}
use Rattle.td_num.proofs.Equals.{minus_under}
use Rattle.td_expr.specs.Imports.{Scalar, Binary, Add, Subtract, Multiply, Divide, Remainder, BitAnd, BitOr, BitXor, ShiftLeft, ShiftRight, Relation, Equal, NotEqual, Less, LessEqual, Greater, GreaterEqual}
use Rattle.td_core.specs.Term.{Term, number, name, complement, negation, compute, compare, both, either, choice, range_okay}
use Rattle.td_core.specs.Types.{bits, limit, wider, computed_type, type_of}
use Rattle.td_expr.specs.Same.{same, constant_of}
use Rattle.td_expr.specs.Value.{flip, int_eq, computed, related, natural}
use Rattle.td_expr.specs.Facts.{Fact, facts_of, mirrored, turned}
use Rattle.td_expr.specs.Range.{Range}
use Rattle.td_expr.specs.Range.{least, greatest, cut, cut_where, cut_by, cut_by_all, constant_or, narrowed, whole, computed_range, range_of}
use Rattle.td_expr.specs.Safe.{is_below}
use Rattle.td_expr.specs.Sound.{FitsScalar}
use Rattle.td_expr.proofs.Widths.{limit_pos, wider_left}

abbrev pub Reaches : ℤ → ℕ → Type 0
Reaches (pos h) n = n ≤ h
Reaches (negsuc h) n = ⊥

abbrev pub Starts : ℤ → ℕ → Type 0
Starts (pos l) n = l ≤ n
Starts (negsuc l) n = ⊥

abbrev pub IsNatural : ℤ → Type 0
IsNatural (pos n) = Unit {0}
IsNatural (negsuc n) = ⊥

pub record Contains (r : Range) (n : ℕ) : Type 0 where
  pub from : Starts r.low n
  pub to : Reaches r.high n

pub flip_true : (b : Bool) → flip b ≡ true → b ≡ false
flip_true true h = sym h
flip_true false h = refl

pub minus_is : (a b : ℕ) → b ≤ a → pos a -ℤ pos b ≡ pos (a - b)
minus_is a zero h = ap pos (omega arith)
minus_is a (suc b) h = ap (λ t. cond t (negsuc (suc b - suc a)) (pos (a - suc b))) (le-ltb a (suc b) h)

pub reaches_less : (h : ℤ) (m n : ℕ) → n ≤ m → Reaches h m → Reaches h n
reaches_less (pos h) m n less r = omega arith
reaches_less (negsuc h) m n less r = r

picked_reaches : (b : Bool) (h k : ℤ) (n : ℕ) → Reaches h n → Reaches k n → Reaches (cond b k h) n
picked_reaches true h k n r q = q
picked_reaches false h k n r q = r

pub least_reaches : (h k : ℤ) (n : ℕ) → Reaches h n → Reaches k n → Reaches (least h k) n
least_reaches h k n r q = picked_reaches (int_lt k h) h k n r q

picked_left : (b : Bool) (h k : ℤ) (n : ℕ) → int_lt k h ≡ b → Reaches h n → Reaches (cond b h k) n
picked_left true h k n e r = r
picked_left false (pos h) (pos k) n e r = let le : h ≤ k = ltb-false k h e in omega (arith, le)
picked_left false (pos h) (negsuc k) n e r = absurd (true≢false e)
picked_left false (negsuc h) k n e r = absurd r

picked_right : (b : Bool) (h k : ℤ) (n : ℕ) → int_lt k h ≡ b → Reaches k n → Reaches (cond b h k) n
picked_right false h k n e r = r
picked_right true (pos h) (pos k) n e r = let lt : k < h = ltb-true k h e in omega (arith, lt)
picked_right true (negsuc h) (pos k) n e r = absurd (false≢true e)
picked_right true h (negsuc k) n e r = absurd r

pub greatest_left : (h k : ℤ) (n : ℕ) → Reaches h n → Reaches (greatest h k) n
greatest_left h k n r = picked_left (int_lt k h) h k n refl r

pub greatest_right : (h k : ℤ) (n : ℕ) → Reaches k n → Reaches (greatest h k) n
greatest_right h k n r = picked_right (int_lt k h) h k n refl r

-- lower ends
picked_starts : (b : Bool) (h k : ℤ) (n : ℕ) → Starts h n → Starts k n → Starts (cond b h k) n
picked_starts true h k n r q = r
picked_starts false h k n r q = q

pub greatest_starts : (h k : ℤ) (n : ℕ) → Starts h n → Starts k n → Starts (greatest h k) n
greatest_starts h k n r q = picked_starts (int_lt k h) h k n r q

least_left : (b : Bool) (h k : ℤ) (n : ℕ) → int_lt k h ≡ b → IsNatural k → Starts h n → Starts (cond b k h) n
least_left false h k n e i r = r
least_left true (pos h) (pos k) n e i r = let lt : k < h = ltb-true k h e in omega (arith, lt)
least_left true (negsuc h) k n e i r = absurd r
least_left true h (negsuc k) n e i r = absurd i

least_right : (b : Bool) (h k : ℤ) (n : ℕ) → int_lt k h ≡ b → IsNatural h → Starts k n → Starts (cond b k h) n
least_right true h k n e i r = r
least_right false (pos h) (pos k) n e i r = let le : h ≤ k = ltb-false k h e in omega (arith, le)
least_right false (negsuc h) k n e i r = absurd i
least_right false h (negsuc k) n e i r = absurd r

pub least_starts_left : (h k : ℤ) (n : ℕ) → IsNatural k → Starts h n → Starts (least h k) n
least_starts_left h k n i r = least_left (int_lt k h) h k n refl i r

pub least_starts_right : (h k : ℤ) (n : ℕ) → IsNatural h → Starts k n → Starts (least h k) n
least_starts_right h k n i r = least_right (int_lt k h) h k n refl i r

pub less_one : (c n : ℕ) → n < c → Reaches (pos c -ℤ pos 1) n
less_one c n h = subst (λ k. Reaches k n) (sym (minus_is c 1 (omega arith))) (omega arith)

pub cut_holds : (r : Relation) (c n : ℕ) (range : Range) → related r (pos n) (pos c) ≡ true → Contains range n → Contains (cut r c range) n
cut_holds Equal c n range h i =
    let e : n ≡ c = eqb-true n c h in
    record { from = greatest_starts range.low (pos c) n i.from (omega (arith, e)); to = least_reaches range.high (pos c) n i.to (omega (arith, e)) }
cut_holds NotEqual c n range h i = i
cut_holds Less c n range h i =
    let lt : n < c = ltb-true n c h in
    record { from = i.from; to = least_reaches range.high (pos c -ℤ pos 1) n i.to (less_one c n lt) }
cut_holds LessEqual c n range h i =
    let le : n ≤ c = ltb-false c n (flip_true (ltb c n) h) in
    record { from = i.from; to = least_reaches range.high (pos c) n i.to le }
cut_holds Greater c n range h i =
    let lt : c < n = ltb-true c n h in record { from = greatest_starts range.low (pos (c + 1)) n i.from (omega (arith, lt)); to = i.to }
cut_holds GreaterEqual c n range h i =
    let le : c ≤ n = ltb-false n c (flip_true (ltb n c) h) in record { from = greatest_starts range.low (pos c) n i.from le; to = i.to }

pub cut_where_holds : (test : Bool) (r : Relation) (o : Option ℕ) (range : Range) (n : ℕ)
    → (test ≡ true → (c : ℕ) → o ≡ Some c → related r (pos n) (pos c) ≡ true) → Contains range n → Contains (cut_where test r o range) n
cut_where_holds true r (Some c) range n h i = cut_holds r c n range (h refl c refl) i
cut_where_holds true r None range n h i = i
cut_where_holds false r o range n h i = i

pub constant_or_holds : (o : Option ℕ) (range : Range) (n : ℕ) → ((c : ℕ) → o ≡ Some c → c ≡ n) → Contains range n → Contains (constant_or o range) n
constant_or_holds (Some c) range n h i = let e = h c refl in record { from = omega (arith, e); to = omega (arith, e) }
constant_or_holds None range n h i = i

pub whole_contains : (w : Scalar) (n : ℕ) → n < limit w → Contains (whole w) n
whole_contains w n h = record { from = omega arith; to = omega arith }

-- what an operator needs of its operands for its result to lie in its type
abbrev pub Admitted : Binary → Scalar → Scalar → ℕ → ℕ → Type 0
Admitted Add v w x y = x + y < limit (wider v w)
Admitted Subtract v w x y = y ≤ x
Admitted Multiply v w x y = x * y < limit (wider v w)
Admitted Divide v w x y = 0 < y
Admitted Remainder v w x y = 0 < y
Admitted BitAnd v w x y = Unit {0}
Admitted BitOr v w x y = Unit {0}
Admitted BitXor v w x y = Unit {0}
Admitted ShiftLeft v w x y = Unit {0}
Admitted ShiftRight v w x y = Unit {0}

reduced_below : (w : Scalar) (x : ℕ) → x % limit w < limit w
reduced_below w x = mod_below x (limit w) (limit_pos w)

pub computed_fits : (op : Binary) (v w : Scalar) (x y : ℕ) → x < limit v → y < limit w → Admitted op v w x y → FitsScalar (computed_type op v w) (computed op v w (pos x) (pos y))
computed_fits Add v w x y p q h = h
computed_fits Subtract v w x y p q h = subst (FitsScalar (wider v w)) (sym (minus_is x y h)) (omega (arith, wider_left v w))
computed_fits Multiply v w x y p q h = h
computed_fits Divide v w x zero p q h = limit_pos (wider v w)
computed_fits Divide v w x (suc y) p q h = omega (arith, div-le_self x (suc y), wider_left v w)
computed_fits Remainder v w x zero p q h = limit_pos (wider v w)
computed_fits Remainder v w x (suc y) p q h = omega (arith, mod-le x (suc y), wider_left v w)
computed_fits BitAnd v w x y p q h = omega (arith, and_le_l (x % limit (wider v w)) (y % limit (wider v w)), reduced_below (wider v w) x)
computed_fits BitOr v w x y p q h = or_lt (bits (wider v w)) (x % limit (wider v w)) (y % limit (wider v w)) (reduced_below (wider v w) x) (reduced_below (wider v w) y)
computed_fits BitXor v w x y p q h = xor_lt (bits (wider v w)) (x % limit (wider v w)) (y % limit (wider v w)) (reduced_below (wider v w) x) (reduced_below (wider v w) y)
computed_fits ShiftLeft v w x y p q h = reduced_below v (x % limit v * 2 ^ (y % limit w))
computed_fits ShiftRight v w x y p q h = omega (arith, shr_le (x % limit v) (y % limit w), reduced_below v x)

sum_reaches : (h k : ℤ) (x y : ℕ) → Reaches h x → Reaches k y → Reaches (h +ℤ k) (x + y)
sum_reaches (pos h) (pos k) x y r q = omega arith
sum_reaches (pos h) (negsuc k) x y r q = absurd q
sum_reaches (negsuc h) k x y r q = absurd r

product_reaches : (h k : ℤ) (x y : ℕ) → Reaches h x → Reaches k y → Reaches (h *ℤ k) (x * y)
product_reaches (pos h) (pos k) x y r q = mul-le x y h k r q
product_reaches (pos h) (negsuc k) x y r q = absurd q
product_reaches (negsuc h) k x y r q = absurd r

difference_reaches : (h m : ℤ) (x y : ℕ) → Reaches h x → Starts m y → y ≤ x → Reaches (h -ℤ m) (x - y)
difference_reaches (pos h) (pos m) x y r low le = subst (λ k. Reaches k (x - y)) (sym (minus_is h m (omega arith))) (omega arith)
difference_reaches (pos h) (negsuc m) x y r low le = absurd low
difference_reaches (negsuc h) m x y r low le = absurd r

sum_starts : (h k : ℤ) (x y : ℕ) → Starts h x → Starts k y → Starts ((h +ℤ k)) (x + y)
sum_starts (pos h) (pos k) x y r q = omega arith
sum_starts (pos h) (negsuc k) x y r q = absurd q
sum_starts (negsuc h) k x y r q = absurd r

product_starts : (h k : ℤ) (x y : ℕ) → Starts h x → Starts k y → Starts ((h *ℤ k)) (x * y)
product_starts (pos h) (pos k) x y r q = omega (arith, mul-le h k x y r q)
product_starts (pos h) (negsuc k) x y r q = absurd q
product_starts (negsuc h) k x y r q = absurd r

-- 0, or the difference
least_of_difference : (d : ℤ) (n : ℕ) → ((z : ℕ) → d ≡ pos z → z ≤ n) → Starts (greatest (pos 0) d) n
least_of_difference (pos z) n h = greatest_starts (pos 0) (pos z) n (omega arith) (omega (arith, h z refl))
least_of_difference (negsuc z) n h = omega arith

number_is : (m n : ℕ) → pos m ≡ pos n → m ≡ n
number_is m n h = ap natural h

difference_starts : (l h : ℤ) (x y : ℕ) → Starts l x → Reaches h y → Starts (greatest (pos 0) ((l -ℤ h))) (x - y)
difference_starts (pos l) (pos k) x y r q = elim (cases_lt l k) [
  | inl under ↦ least_of_difference (pos l -ℤ pos k) (x - y) (λ z e. absurd (pos-ne-negsuc z (k - suc l) (sym e ∙ minus_under l k under)))
  | inr over ↦ least_of_difference (pos l -ℤ pos k) (x - y) (λ z e. let d = number_is z (l - k) (sym e ∙ minus_is l k over) in omega (arith, d))
]
difference_starts (pos l) (negsuc k) x y r q = absurd q
difference_starts (negsuc l) h x y r q = absurd r

remainder_reaches : (k : ℤ) (x y : ℕ) → Reaches k (suc y) → Reaches (k -ℤ pos 1) (x % suc y)
remainder_reaches (pos k) x y r = less_one k (x % suc y) (omega (arith, mod_below x (suc y) (omega arith)))
remainder_reaches (negsuc k) x y r = absurd r

pub computed_contains : (op : Binary) (v w : Scalar) (x y : ℕ) (a b : Range) → x < limit v → y < limit w → Admitted op v w x y → Contains a x → Contains b y
    → Contains (computed_range op (computed_type op v w) a b) (natural (computed op v w (pos x) (pos y)))
computed_contains Add v w x y a b p q h i j = record {
  from = sum_starts a.low b.low x y i.from j.from;
  to = sum_reaches a.high b.high x y i.to j.to;
}
computed_contains Subtract v w x y a b p q h i j =
    subst (λ z. Contains (computed_range Subtract (wider v w) a b) (natural z)) (sym (minus_is x y h))
    (record {
      from = difference_starts a.low b.high x y i.from j.to;
      to = difference_reaches a.high b.low x y i.to j.from h;
    })
computed_contains Multiply v w x y a b p q h i j = record {
  from = product_starts a.low b.low x y i.from j.from;
  to = product_reaches a.high b.high x y i.to j.to;
}
computed_contains Divide v w x zero a b p q h i j = absurd (omega arith)
computed_contains Divide v w x (suc y) a b p q h i j = record { from = omega arith; to = reaches_less a.high x (x / suc y) (div-le_self x (suc y)) i.to }
computed_contains Remainder v w x zero a b p q h i j = absurd (omega arith)
computed_contains Remainder v w x (suc y) a b p q h i j = record {
  from = omega arith;
  to = least_reaches a.high ((b.high -ℤ pos 1)) (x % suc y) (reaches_less a.high x (x % suc y) (mod-le x (suc y)) i.to)
      (remainder_reaches b.high x y j.to);
}
computed_contains BitAnd v w x y a b p q h i j =
    let l = limit (wider v w) in
    record {
      from = omega arith;
      to = least_reaches a.high b.high (bit_and (x % l) (y % l))
          (reaches_less a.high x (bit_and (x % l) (y % l)) (omega (arith, and_le_l (x % l) (y % l), mod-le x l)) i.to)
          (reaches_less b.high y (bit_and (x % l) (y % l)) (omega (arith, and_le_r (x % l) (y % l), mod-le y l)) j.to);
    }
computed_contains BitOr v w x y a b p q h i j = whole_contains (wider v w) (bit_or (x % limit (wider v w)) (y % limit (wider v w))) (computed_fits BitOr v w x y p q h)
computed_contains BitXor v w x y a b p q h i j = whole_contains (wider v w) (bit_xor (x % limit (wider v w)) (y % limit (wider v w))) (computed_fits BitXor v w x y p q h)
computed_contains ShiftLeft v w x y a b p q h i j = whole_contains v ((x % limit v * 2 ^ (y % limit w)) % limit v) (computed_fits ShiftLeft v w x y p q h)
computed_contains ShiftRight v w x y a b p q h i j =
    record { from = omega arith; to = reaches_less a.high x (x % limit v / 2 ^ (y % limit w)) (omega (arith, shr_le (x % limit v) (y % limit w), mod-le x (limit v))) i.to }

-- the tests on ranges
below_is : (n most : ℕ) → is_below (pos n) most ≡ true → n < most
below_is n most e = ltb-true n most e

pub sum_fits : (h k : ℤ) (x y most : ℕ) → most ≤ 2 ^ 64 → Reaches h x → Reaches k y → is_below ((h +ℤ k)) most ≡ true → x + y < most
sum_fits (pos h) (pos k) x y most small r q e = let lt = below_is (h + k) most e in omega (arith, lt)
sum_fits (pos h) (negsuc k) x y most small r q e = absurd q
sum_fits (negsuc h) k x y most small r q e = absurd r

pub product_fits : (h k : ℤ) (x y most : ℕ) → most ≤ 2 ^ 64 → Reaches h x → Reaches k y → is_below ((h *ℤ k)) most ≡ true → x * y < most
product_fits (pos h) (pos k) x y most small r q e = let lt = below_is (h * k) most e in omega (arith, lt, mul-le x y h k r q)
product_fits (pos h) (negsuc k) x y most small r q e = absurd q
product_fits (negsuc h) k x y most small r q e = absurd r

pub apart_ranges : (l k : ℤ) (x y : ℕ) → Starts l x → Reaches k y → int_lt l k ≡ false → y ≤ x
apart_ranges (pos l) (pos k) x y p q e = let le : k ≤ l = ltb-false l k e in omega (arith, le)
apart_ranges (pos l) (negsuc k) x y p q e = absurd q
apart_ranges (negsuc l) k x y p q e = absurd p

pub starts_above : (l : ℤ) (y : ℕ) → Starts l y → int_lt (pos 0) l ≡ true → 0 < y
starts_above (pos l) y p e = let lt : 0 < l = ltb-true 0 l e in omega (arith, lt)
starts_above (negsuc l) y p e = absurd p

-- lower ends are natural numbers
natural_picked : (b : Bool) (h k : ℤ) → IsNatural h → IsNatural k → IsNatural (cond b h k)
natural_picked true h k p q = p
natural_picked false h k p q = q

natural_sum : (h k : ℤ) → IsNatural h → IsNatural k → IsNatural (h +ℤ k)
natural_sum (pos h) (pos k) p q = tt
natural_sum (pos h) (negsuc k) p q = absurd q
natural_sum (negsuc h) k p q = absurd p

natural_product : (h k : ℤ) → IsNatural h → IsNatural k → IsNatural (h *ℤ k)
natural_product (pos h) (pos k) p q = tt
natural_product (pos h) (negsuc k) p q = absurd q
natural_product (negsuc h) k p q = absurd p

natural_greatest : (h : ℤ) → IsNatural (greatest (pos 0) h)
natural_greatest (pos h) = natural_picked (int_lt (pos h) (pos 0)) (pos 0) (pos h) tt tt
natural_greatest (negsuc h) = tt

natural_cut : (r : Relation) (c : ℕ) (range : Range) → IsNatural range.low → IsNatural (cut r c range).low
natural_cut Equal c range i = natural_picked (int_lt (pos c) range.low) range.low (pos c) i tt
natural_cut NotEqual c range i = i
natural_cut Less c range i = i
natural_cut LessEqual c range i = i
natural_cut Greater c range i = natural_picked (int_lt (pos (c + 1)) range.low) range.low (pos (c + 1)) i tt
natural_cut GreaterEqual c range i = natural_picked (int_lt (pos c) range.low) range.low (pos c) i tt

natural_cut_where : (test : Bool) (r : Relation) (o : Option ℕ) (range : Range) → IsNatural range.low → IsNatural (cut_where test r o range).low
natural_cut_where true r (Some c) range i = natural_cut r c range i
natural_cut_where true r None range i = i
natural_cut_where false r o range i = i

natural_cuts : (fs : List Fact) (t : Term) (range : Range) → IsNatural range.low → IsNatural (cut_by_all fs t range).low
natural_cuts [] t range i = i
natural_cuts (f ∷ fs) t range i =
    natural_cuts fs t (cut_by f t range)
    (natural_cut_where (same f.right t) (mirrored f.relation) (constant_of f.left) (cut_where (same f.left t) f.relation (constant_of f.right) range)
    (natural_cut_where (same f.left t) f.relation (constant_of f.right) range i))

natural_constant : (o : Option ℕ) (range : Range) → IsNatural range.low → IsNatural (constant_or o range).low
natural_constant (Some n) range i = tt
natural_constant None range i = i

natural_narrowed : (fs : List Fact) (t : Term) (range : Range) → IsNatural range.low → IsNatural (narrowed fs t range).low
natural_narrowed fs t range i = natural_cuts fs t (constant_or (constant_of t) range) (natural_constant (constant_of t) range i)

natural_computed : (op : Binary) (w : Scalar) (a b : Range) → IsNatural a.low → IsNatural b.low → IsNatural (computed_range op w a b).low
natural_computed Add w a b p q = natural_sum a.low b.low p q
natural_computed Subtract w a b p q = natural_greatest ((a.low -ℤ b.high))
natural_computed Multiply w a b p q = natural_product a.low b.low p q
natural_computed Divide w a b p q = tt
natural_computed Remainder w a b p q = tt
natural_computed BitAnd w a b p q = tt
natural_computed BitOr w a b p q = tt
natural_computed BitXor w a b p q = tt
natural_computed ShiftLeft w a b p q = tt
natural_computed ShiftRight w a b p q = tt

pub natural_low : (t : Term) (fs : List Fact) → IsNatural (range_of fs t).low
natural_low (number n w) fs = natural_narrowed fs (number n w) (whole w) tt
natural_low (name i w most) fs = natural_narrowed fs (name i w most) (record { low = pos 0; high = pos most }) tt
natural_low (complement a) fs = natural_narrowed fs (complement a) (whole (type_of a)) tt
natural_low (negation a) fs = natural_narrowed fs (negation a) (whole (type_of (negation a))) tt
natural_low (compute op span a b) fs =
    natural_narrowed fs (compute op span a b) (computed_range op (computed_type op (type_of a) (type_of b)) (range_of fs a) (range_of fs b))
    (natural_computed op (computed_type op (type_of a) (type_of b)) (range_of fs a) (range_of fs b) (natural_low a fs) (natural_low b fs))
natural_low (compare r a b) fs = natural_narrowed fs (compare r a b) (whole (type_of (compare r a b))) tt
natural_low (both a b) fs = natural_narrowed fs (both a b) (whole (type_of (both a b))) tt
natural_low (either a b) fs = natural_narrowed fs (either a b) (whole (type_of (either a b))) tt
natural_low (choice c a b) fs =
    let one = range_of (fs ++ facts_of true c) a in
    let other = range_of (fs ++ facts_of false c) b in
    natural_narrowed fs (choice c a b) (record { low = least one.low other.low; high = greatest one.high other.high })
    (natural_picked (int_lt other.low one.low) other.low one.low (natural_low b (fs ++ facts_of false c)) (natural_low a (fs ++ facts_of true c)))
natural_low (range_okay s o a) fs = natural_narrowed fs (range_okay s o a) (whole (type_of (range_okay s o a))) tt

-- a is at most the difference
pub sum_below : (x y z : ℕ) → flip (int_lt (pos z -ℤ pos y) (pos x)) ≡ true → x + y ≤ z
sum_below x y z h = elim (cases_lt z y) [
  | inl under ↦ absurd (false≢true (subst (λ d. flip (int_lt d (pos x)) ≡ true) (minus_under z y under) h))
  | inr over ↦
      let e = subst (λ d. flip (int_lt d (pos x)) ≡ true) (minus_is z y over) h in
      let le : x ≤ z - y = ltb-false (z - y) x (flip_true (ltb (z - y) x) e) in
      omega (arith, le)
]

eq_mirrored : (a b : ℕ) → eqb a b ≡ eqb b a
eq_mirrored a b = elim (cases_eq a b) [
  | inl e ↦ eq-eqb a b e ∙ sym (eq-eqb b a (sym e))
  | inr apart ↦ ne_eqb a b apart ∙ sym (ne_eqb b a (λ e. apart (sym e)))
]

int_eq_mirrored : (x y : ℤ) → int_eq x y ≡ int_eq y x
int_eq_mirrored (pos a) (pos b) = eq_mirrored a b
int_eq_mirrored (pos a) (negsuc b) = refl
int_eq_mirrored (negsuc a) (pos b) = refl
int_eq_mirrored (negsuc a) (negsuc b) = eq_mirrored a b

pub related_mirrored : (r : Relation) (x y : ℤ) → related r x y ≡ true → related (mirrored r) y x ≡ true
related_mirrored Equal x y h = sym (int_eq_mirrored x y) ∙ h
related_mirrored NotEqual x y h = sym (ap flip (int_eq_mirrored x y)) ∙ h
related_mirrored Less x y h = h
related_mirrored LessEqual x y h = h
related_mirrored Greater x y h = h
related_mirrored GreaterEqual x y h = h

flip_flip : (b : Bool) → flip (flip b) ≡ b
flip_flip true = refl
flip_flip false = refl

pub related_turned : (r : Relation) (x y : ℤ) → related r x y ≡ false → related (turned r) x y ≡ true
related_turned Equal x y h = ap flip h
related_turned NotEqual x y h = sym (flip_flip (int_eq x y)) ∙ ap flip h
related_turned Less x y h = ap flip h
related_turned LessEqual x y h = sym (flip_flip (int_lt y x)) ∙ ap flip h
related_turned Greater x y h = ap flip h
related_turned GreaterEqual x y h = sym (flip_flip (int_lt x y)) ∙ ap flip h
