-- Zeros, and numbers up to a zero, turn by turn. Cited by other crates.
use Rattle.std.proofs.Common.{◌≡◌, ℕ, zero, suc, ◌+◌, ◌-◌, ◌*◌, ◌/◌, min, Bool, true, false, cond, Option, Some, None, List, [], ◌∷◌, ◌++◌, refl, sym, ap, ◌∙◌, arith, append_assoc}
use Rattle.std.specs.Prelude.{nat_eq, nat_le, slice_index}
use Rattle.std.proofs.lemmas.Bool.{false≢true}
use Rattle.td_num.specs.Numbers.{bytes_in, number_at, places_from}
use Rattle.td_meaning.specs.Imports.{NumberType, Reason, Constraint, NotEnough, Padding}
use Rattle.td_num.specs.Lists.{one_more, first_where, looked_at}
use Rattle.td_core.specs.Outcome.{Behavior, accepted, rejected, after_reading}
use Rattle.td_meaning.specs.Meaning.{numbers_at, run_of, is_nonzero, byte_type, zeros_end, zeros_meaning, zero_end, up_to_zero}

-- `all_zeros`

abbrev zeros_from : List ℕ → ℕ → ℕ → ℕ → List ℕ → Behavior
zeros_from b end n p cells = after_reading (run_of byte_type p (looked_at (first_where is_nonzero (numbers_at byte_type b p n)) n)) (zeros_end (first_where is_nonzero (numbers_at byte_type b p n)) end p cells)

byte_is : (b : List ℕ) (p : ℕ) → number_at byte_type b p ≡ slice_index b p
byte_is b p = omega arith

nonzero_by : (v : ℕ) → nat_eq v 0 ≡ false → is_nonzero v ≡ true
nonzero_by zero h = absurd (false≢true (sym h))
nonzero_by (suc v) h = refl

pub zeros_none : (b : List ℕ) (end p : ℕ) (cells : List ℕ) → p ≡ end → zeros_meaning b end p cells ≡ accepted p cells
zeros_none b end p cells e =
    let none : end - p ≡ 0 = omega (arith, e) in
    ap (λ n. zeros_from b end n p cells) none ∙ (λ i. accepted (sym e i) cells)

more_zeros : (first : Option ℕ) (end p m : ℕ) (cells : List ℕ) → after_reading (run_of byte_type p (looked_at (one_more first) (suc m))) (zeros_end (one_more first) end p cells) ≡ after_reading (p ∷ []) (after_reading (run_of byte_type (p + 1) (looked_at first m)) (zeros_end first end (p + 1) cells))
more_zeros None end p m cells = let e : suc m * 1 ≡ suc (m * 1) = omega arith in λ i. after_reading (places_from p (e i)) (accepted end cells)
more_zeros (Some k) end p m cells =
    let e : suc (suc k) * 1 ≡ suc (suc k * 1) = omega arith in
    let at : p + suc k ≡ p + 1 + k = omega arith in
    λ i. after_reading (places_from p (e i)) (rejected Padding (at i) cells)

pub zeros_on : (b : List ℕ) (end p m : ℕ) (cells : List ℕ) → end - p ≡ suc m → slice_index b p ≡ 0 → zeros_meaning b end p cells ≡ after_reading (p ∷ []) (zeros_meaning b end (p + 1) cells)
zeros_on b end p m cells e z =
    let left : m ≡ end - (p + 1) = omega (arith, e) in
    let rest = first_where is_nonzero (numbers_at byte_type b (p + 1) m) in
    ap (λ n. zeros_from b end n p cells) e
    ∙ ap (λ v. after_reading (run_of byte_type p (looked_at (cond (is_nonzero v) (Some 0) (one_more rest)) (suc m))) (zeros_end (cond (is_nonzero v) (Some 0) (one_more rest)) end p cells)) (byte_is b p ∙ z)
    ∙ more_zeros rest end p m cells
    ∙ ap (λ n. after_reading (p ∷ []) (zeros_from b end n (p + 1) cells)) left

pub zeros_stop : (b : List ℕ) (end p m : ℕ) (cells : List ℕ) → end - p ≡ suc m → nat_eq (slice_index b p) 0 ≡ false → zeros_meaning b end p cells ≡ after_reading (p ∷ []) (rejected Padding p cells)
zeros_stop b end p m cells e z =
    let rest = first_where is_nonzero (numbers_at byte_type b (p + 1) m) in
    let some : is_nonzero (number_at byte_type b p) ≡ true = ap is_nonzero (byte_is b p) ∙ nonzero_by (slice_index b p) z in
    let at : p + 0 ≡ p = omega arith in
    ap (λ n. zeros_from b end n p cells) e
    ∙ ap (λ v. after_reading (run_of byte_type p (looked_at (cond v (Some 0) (one_more rest)) (suc m))) (zeros_end (cond v (Some 0) (one_more rest)) end p cells)) some
    ∙ (λ i. after_reading (p ∷ []) (rejected Padding (at i) cells))

-- Numbers up to a zero

-- numbers from q on up to and with the first 0, n of them at most, of a field that began at start
unfoldable pub zero_turns : NumberType → List ℕ → Reason → ℕ → ℕ → ℕ → List ℕ → Behavior
zero_turns type message reason start zero q cells = rejected reason start cells
zero_turns type message reason start (suc n) q cells =
    after_reading (places_from q (bytes_in type.width))
    (cond (nat_eq (number_at type message q) 0) (accepted (q + bytes_in type.width) cells) (zero_turns type message reason start n (q + bytes_in type.width) cells))

places_append : (p m n : ℕ) → places_from p (m + n) ≡ places_from p m ++ places_from (p + m) n
places_append p zero n = let e : 0 + n ≡ n = omega arith in let at : p ≡ p + 0 = omega arith in λ i. places_from (at i) (e i)
places_append p (suc m) n =
    let e : suc m + n ≡ suc (m + n) = omega arith in
    let at : p + 1 + m ≡ p + suc m = omega arith in
    ap (places_from p) e ∙ ap (λ ps. p ∷ ps) (places_append (p + 1) m n ∙ ap (λ q. places_from (p + 1) m ++ places_from q n) at)

abbrev turns_end : Option ℕ → ℕ → Reason → ℕ → ℕ → List ℕ → Behavior
turns_end None w reason start q cells = rejected reason start cells
turns_end (Some k) w reason start q cells = accepted (q + suc k * w) cells

abbrev turns_by : NumberType → Option ℕ → ℕ → Reason → ℕ → ℕ → List ℕ → Behavior
turns_by type first n reason start q cells = after_reading (run_of type q (looked_at first n)) (turns_end first (bytes_in type.width) reason start q cells)

more_turns : (type : NumberType) (first : Option ℕ) (m : ℕ) (reason : Reason) (start q : ℕ) (cells : List ℕ) → turns_by type (one_more first) (suc m) reason start q cells ≡ after_reading (places_from q (bytes_in type.width)) (turns_by type first m reason start (q + bytes_in type.width) cells)
more_turns type None m reason start q cells =
    let w = bytes_in type.width in
    let e : suc m * w ≡ w + m * w = omega arith in
    (λ i. after_reading ((ap (places_from q) e ∙ places_append q w (m * w)) i) (rejected reason start cells))
    ∙ (λ i. record { ending = (rejected reason start cells).ending; reads = append_assoc (places_from q w) (places_from (q + w) (m * w)) [] i })
more_turns type (Some k) m reason start q cells =
    let w = bytes_in type.width in
    let e : suc (suc k) * w ≡ w + suc k * w = omega arith in
    let at : q + suc (suc k) * w ≡ q + w + suc k * w = omega arith in
    (λ i. after_reading ((ap (places_from q) e ∙ places_append q w (suc k * w)) i) (accepted (at i) cells))
    ∙ (λ i. record { ending = (accepted (q + w + suc k * w) cells).ending; reads = append_assoc (places_from q w) (places_from (q + w) (suc k * w)) [] i })

turns_are : (type : NumberType) (b : List ℕ) (reason : Reason) (start n q : ℕ) (cells : List ℕ) → turns_by type (first_where (λ n. nat_eq n 0) (numbers_at type b q n)) n reason start q cells ≡ zero_turns type b reason start n q cells
unfolding zero_turns
turns_are type b reason start zero q cells = let e : 0 * bytes_in type.width ≡ 0 = omega arith in λ i. after_reading (places_from q (e i)) (rejected reason start cells)
turns_are type b reason start (suc m) q cells = by (nat_eq (number_at type b q) 0) (turns_are type b reason start m (q + bytes_in type.width) cells)
  where
    by : (v : Bool) → turns_by type (first_where (λ n. nat_eq n 0) (numbers_at type b (q + bytes_in type.width) m)) m reason start (q + bytes_in type.width) cells ≡ zero_turns type b reason start m (q + bytes_in type.width) cells
        → turns_by type (cond v (Some 0) (one_more (first_where (λ n. nat_eq n 0) (numbers_at type b (q + bytes_in type.width) m)))) (suc m) reason start q cells
        ≡ after_reading (places_from q (bytes_in type.width)) (cond v (accepted (q + bytes_in type.width) cells) (zero_turns type b reason start m (q + bytes_in type.width) cells))
    by true later = let e : 1 * bytes_in type.width ≡ bytes_in type.width = omega arith in λ i. after_reading (places_from q (e i)) (accepted (q + e i) cells)
    by false later = more_turns type (first_where (λ n. nat_eq n 0) (numbers_at type b (q + bytes_in type.width) m)) m reason start q cells ∙ ap (after_reading (places_from q (bytes_in type.width))) later

pub turns_of : (type : NumberType) (size : ℕ) (b : List ℕ) (end p : ℕ) (cells : List ℕ) → up_to_zero type size b end p cells ≡ zero_turns type b (cond (nat_le (size / bytes_in type.width) ((end - p) / bytes_in type.width)) Constraint NotEnough) p (min (size / bytes_in type.width) ((end - p) / bytes_in type.width)) p cells
turns_of type size b end p cells =
    let w = bytes_in type.width in
    let bound = size / w in
    let room = (end - p) / w in
    let first = first_where (λ n. nat_eq n 0) (numbers_at type b p (min bound room)) in
    ap (after_reading (run_of type p (looked_at first (min bound room)))) (ends first w bound room p cells)
    ∙ turns_are type b (cond (nat_le bound room) Constraint NotEnough) p (min bound room) p cells
  where
    ends : (first : Option ℕ) (w bound room p : ℕ) (cells : List ℕ) → zero_end first w bound room p cells ≡ turns_end first w (cond (nat_le bound room) Constraint NotEnough) p p cells
    ends None w bound room p cells = refl
    ends (Some k) w bound room p cells = refl

pub turns_none : (type : NumberType) (b : List ℕ) (reason : Reason) (start n q : ℕ) (cells : List ℕ) → n ≡ 0 → zero_turns type b reason start n q cells ≡ rejected reason start cells
unfolding zero_turns
turns_none type b reason start n q cells e = ap (λ k. zero_turns type b reason start k q cells) e

pub turns_on : (type : NumberType) (b : List ℕ) (reason : Reason) (start n m q : ℕ) (cells : List ℕ) (v : Bool) → n ≡ suc m → nat_eq (number_at type b q) 0 ≡ v → zero_turns type b reason start n q cells ≡ after_reading (places_from q (bytes_in type.width)) (cond v (accepted (q + bytes_in type.width) cells) (zero_turns type b reason start m (q + bytes_in type.width) cells))
unfolding zero_turns
turns_on type b reason start n m q cells v e z =
    ap (λ k. zero_turns type b reason start k q cells) e
    ∙ ap (λ v. after_reading (places_from q (bytes_in type.width)) (cond v (accepted (q + bytes_in type.width) cells) (zero_turns type b reason start m (q + bytes_in type.width) cells))) z
