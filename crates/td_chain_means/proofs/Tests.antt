-- What the tests of DESCRIPTOR say, where they are met and where they aren't.
use Rattle.std.proofs.Common.{◌≡◌, ◌⊎◌, inl, inr, ℕ, zero, suc, ◌+◌, ◌-◌, ◌%◌, ◌<◌, ◌≤◌, Bool, true, false, nat_eq, refl, sym, ap, ◌∙◌, subst, arith}
use Rattle.std.specs.Prelude.{pos, ◌-ℤ◌, int_lt}
use Rattle.std.proofs.lemmas.Bool.{true≢false, false≢true, ltb-true, ltb-false, eqb-true, eqb-false, le-ltb, eq-eqb, ne_eqb}
use Rattle.td_expr.specs.Value.{truth_of, number_of, flip, chosen}
use Rattle.td_expr.proofs.Holding.{truth_number}
use Rattle.td_expr.proofs.Reaching.{flip_true, minus_is}

-- the truth of a test that was turned into a number
abbrev pub truly : Bool → Bool
truly b = truth_of (number_of b)

pub flip_false : (b : Bool) → flip b ≡ false → b ≡ true
flip_false true h = refl
flip_false false h = sym h

-- a bit is 0 or 1
pub bit_cases : (n : ℕ) → n < 2 → (n ≡ 0) ⊎ (n ≡ 1)
bit_cases zero lt = inl refl
bit_cases (suc zero) lt = inr refl
bit_cases (suc (suc n)) lt = absurd (omega (arith, lt))

-- ---- one test
pub up_to_met : (x y : ℕ) → truly (flip (int_lt (pos y) (pos x))) ≡ true → x ≤ y
up_to_met x y h = ltb-false y x (flip_true (int_lt (pos y) (pos x)) (sym (truth_number (flip (int_lt (pos y) (pos x)))) ∙ h))

pub up_to_unmet : (x y : ℕ) → truly (flip (int_lt (pos y) (pos x))) ≡ false → y < x
up_to_unmet x y h = ltb-true y x (flip_false (int_lt (pos y) (pos x)) (sym (truth_number (flip (int_lt (pos y) (pos x)))) ∙ h))

pub less_met : (x y : ℕ) → truly (int_lt (pos x) (pos y)) ≡ true → x < y
less_met x y h = ltb-true x y (sym (truth_number (int_lt (pos x) (pos y))) ∙ h)

pub less_unmet : (x y : ℕ) → truly (int_lt (pos x) (pos y)) ≡ false → y ≤ x
less_unmet x y h = ltb-false x y (sym (truth_number (int_lt (pos x) (pos y))) ∙ h)

pub is_met : (x y : ℕ) → truly (nat_eq x y) ≡ true → x ≡ y
is_met x y h = eqb-true x y (sym (truth_number (nat_eq x y)) ∙ h)

pub is_unmet : (x y : ℕ) → truly (nat_eq x y) ≡ false → x ≡ y → ⊥
is_unmet x y h = eqb-false x y (sym (truth_number (nat_eq x y)) ∙ h)

-- ---- two of them
pub both_met : (x y : Bool) → truly (chosen x y false) ≡ true → (x ≡ true) × (y ≡ true)
both_met true true h = (refl, refl)
both_met true false h = (refl, h)
both_met false y h = (h, absurd (false≢true h))

pub both_unmet : (x y : Bool) → truly (chosen x y false) ≡ false → x ≡ true → y ≡ false
both_unmet true true h e = h
both_unmet true false h e = refl
both_unmet false y h e = absurd (false≢true e)

pub either_met : (x y : Bool) → truly (chosen x true y) ≡ true → x ≡ false → y ≡ true
either_met true y h e = absurd (true≢false e)
either_met false true h e = refl
either_met false false h e = h

pub either_unmet : (x y : Bool) → truly (chosen x true y) ≡ false → (x ≡ false) × (y ≡ false)
either_unmet true y h = (h, absurd (true≢false h))
either_unmet false true h = (refl, h)
either_unmet false false h = (refl, refl)

-- ---- the buffer lies in the memory
abbrev pub lies : ℕ → ℕ → ℕ → Bool
lies address size memory = truly (chosen (truly (flip (int_lt (pos memory) (pos size)))) (truly (flip (int_lt (pos memory -ℤ pos size) (pos address)))) false)

pub lies_met : (address size memory : ℕ) → lies address size memory ≡ true → address + size ≤ memory
lies_met address size memory h =
    let two = both_met (truly (flip (int_lt (pos memory) (pos size)))) (truly (flip (int_lt (pos memory -ℤ pos size) (pos address)))) h in
    let in_memory : size ≤ memory = up_to_met size memory two.0 in
    let rest : address ≤ memory - size =
    up_to_met address (memory - size) (subst (λ z. truly (flip (int_lt z (pos address))) ≡ true) (minus_is memory size in_memory) two.1) in
    omega (arith, in_memory, rest)

pub lies_unmet : (address size memory : ℕ) → lies address size memory ≡ false → address + size ≤ memory → ⊥
lies_unmet address size memory h fits =
    let x = truly (flip (int_lt (pos memory) (pos size))) in
    let in_memory : size ≤ memory = omega (arith, fits) in
    let first : x ≡ true = truth_number (flip (int_lt (pos memory) (pos size))) ∙ ap flip (le-ltb memory size in_memory) in
    let second = both_unmet x (truly (flip (int_lt (pos memory -ℤ pos size) (pos address)))) h first in
    let beyond : memory - size < address =
    up_to_unmet address (memory - size) (subst (λ z. truly (flip (int_lt z (pos address))) ≡ false) (minus_is memory size in_memory) second) in
    omega (arith, fits, beyond)

-- ---- tests that hold are met
pub is_make : (x y : ℕ) → x ≡ y → truly (nat_eq x y) ≡ true
is_make x y e = truth_number (nat_eq x y) ∙ eq-eqb x y e

pub isnt_make : (x y : ℕ) → (x ≡ y → ⊥) → truly (nat_eq x y) ≡ false
isnt_make x y e = truth_number (nat_eq x y) ∙ ne_eqb x y e

pub up_to_make : (x y : ℕ) → x ≤ y → truly (flip (int_lt (pos y) (pos x))) ≡ true
up_to_make x y h = truth_number (flip (int_lt (pos y) (pos x))) ∙ ap flip (le-ltb y x h)

pub both_make : (x y : Bool) → x ≡ true → y ≡ true → truly (chosen x y false) ≡ true
both_make true true e h = refl
both_make true false e h = h
both_make false y e h = e

-- ---- a reference to a table
abbrev pub table_by : ℕ → ℕ → ℕ → Bool
table_by indirect has size =
    truly (chosen (truly (chosen (truly (chosen (truly (nat_eq indirect 1)) (truly (nat_eq has 0)) false)) (truly (flip (int_lt (pos size) (pos 16)))) false)) (truly (nat_eq (size % 16) 0)) false)

abbrev pub refers : ℕ → ℕ → ℕ → ℕ → Bool
refers indirect has is size = truly (chosen (truly (nat_eq is 0)) true (table_by indirect has size))

pub table_met : (indirect has is size : ℕ) → refers indirect has is size ≡ true → nat_eq is 1 ≡ true
    → (indirect ≡ 1) × (nat_eq has 1 ≡ false) × (16 ≤ size) × (size % 16 ≡ 0)
table_met indirect has is size h e =
    let one : is ≡ 1 = eqb-true is 1 e in
    let y = either_met (truly (nat_eq is 0)) (table_by indirect has size) h (isnt_make is 0 (λ none. omega (arith, none, one))) in
    let a = both_met _ (truly (nat_eq (size % 16) 0)) y in
    let b = both_met _ (truly (flip (int_lt (pos size) (pos 16)))) a.0 in
    let c = both_met (truly (nat_eq indirect 1)) (truly (nat_eq has 0)) b.0 in
    let none : has ≡ 0 = is_met has 0 c.1 in
    (is_met indirect 1 c.0, ne_eqb has 1 (λ some. omega (arith, none, some)), up_to_met 16 size b.1, is_met (size % 16) 0 a.1)

pub table_unmet : (indirect has is size : ℕ) → has < 2 → is < 2 → refers indirect has is size ≡ false
    → (nat_eq is 1 ≡ true → (indirect ≡ 1) × (nat_eq has 1 ≡ false) × (16 ≤ size) × (size % 16 ≡ 0)) → ⊥
table_unmet indirect has is size few bit h k =
    let two = either_unmet (truly (nat_eq is 0)) (table_by indirect has size) h in
    let some = is_unmet is 0 two.0 in
    let one : is ≡ 1 = (elim (bit_cases is bit) [ inl none ↦ absurd (some none) | inr one ↦ one ]) in
    let t = k (eq-eqb is 1 one) in
    let none : has ≡ 0 = (elim (bit_cases has few) [ inl none ↦ none | inr one ↦ absurd (eqb-false has 1 t.1 one) ]) in
    let whole : table_by indirect has size ≡ true =
    both_make _ _ (both_make _ _ (both_make _ _ (is_make indirect 1 t.0) (is_make has 0 none)) (up_to_make 16 size t.2)) (is_make (size % 16) 0 t.3) in
    true≢false (sym whole ∙ two.1)

-- ---- a next
abbrev pub goes_on : ℕ → ℕ → ℕ → Bool
goes_on has next entries = truly (chosen (truly (nat_eq has 0)) true (truly (int_lt (pos next) (pos entries))))

pub next_met : (has next entries : ℕ) → goes_on has next entries ≡ true → nat_eq has 1 ≡ true → next < entries
next_met has next entries h e =
    let one : has ≡ 1 = eqb-true has 1 e in
    less_met next entries (either_met (truly (nat_eq has 0)) (truly (int_lt (pos next) (pos entries))) h (isnt_make has 0 (λ none. omega (arith, none, one))))

pub next_unmet : (has next entries : ℕ) → has < 2 → goes_on has next entries ≡ false → (nat_eq has 1 ≡ true → next < entries) → ⊥
next_unmet has next entries few h k =
    let two = either_unmet (truly (nat_eq has 0)) (truly (int_lt (pos next) (pos entries))) h in
    let some = is_unmet has 0 two.0 in
    let one : has ≡ 1 = (elim (bit_cases has few) [ inl none ↦ absurd (some none) | inr one ↦ one ]) in
    let below = k (eq-eqb has 1 one) in
    let least = less_unmet next entries two.1 in
    omega (arith, below, least)
