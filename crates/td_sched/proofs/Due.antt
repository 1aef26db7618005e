-- What a word holds at a load, where the stores stand by rising word.
use Rattle.std.proofs.Common.{◌≡◌, ℕ, zero, suc, ◌<◌, ◌≤◌, Bool, true, false, nat_eq, List, [], ◌∷◌, ◌++◌, length, take, drop, refl, sym, ap, ◌∙◌, subst, arith, get_or}
use Rattle.std.specs.Prelude.{leb}
use Rattle.std.specs.List.{All, filter}
use Rattle.std.proofs.lemmas.Bool.{false≢true}
use Rattle.std.proofs.lemmas.List.Elements.{All-head, All-tail, All-nil, All-cons, All-weaker}
use Rattle.td_sched.specs.declared.store.PlannedStore.{PlannedStore}
use Rattle.td_sched.specs.Plan.{to_word, last_value}
use Rattle.td_sched.specs.Invariant.{due, NeverFalls}
use Rattle.td_sched.proofs.Memory.{keeps, drops}
use Rattle.td_sched.proofs.Turns.{none, le_true, le_false}
use Rattle.td_num.proofs.Truths.{eq_is as is_word, is_eq as eq_true}
use Rattle.td_num.proofs.Equals.{unequal_below}

-- a store to this word comes in time for load k, or doesn't
abbrev pub InTime : ℕ → ℕ → PlannedStore → Type 0
InTime k i s = s.word ≡ i → s.before ≤ k

abbrev pub TooLate : ℕ → ℕ → PlannedStore → Type 0
TooLate k i s = s.word ≡ i → k < s.before

-- where all that pass a test have a property, each has it that passes
from_filter : (p : PlannedStore → Bool) (Q : PlannedStore → Type 0) (xs : List PlannedStore) → All Q (filter p xs) → All (λ (s : PlannedStore). p s ≡ true → Q s) xs
from_filter p Q [] h = All-nil (λ (s : PlannedStore). p s ≡ true → Q s)
from_filter p Q (x ∷ xs) h = step (p x) refl (from_filter p Q xs)
  where
    step : (b : Bool) → p x ≡ b → (All Q (filter p xs) → All (λ (s : PlannedStore). p s ≡ true → Q s) xs) → All (λ (s : PlannedStore). p s ≡ true → Q s) (x ∷ xs)
    step true e rest =
        let kept = subst (All Q) (keeps p x xs e) h in
        All-cons (λ (s : PlannedStore). p s ≡ true → Q s) x xs (λ t. All-head Q x (filter p xs) kept) (rest (All-tail Q x (filter p xs) kept))
    step false e rest = All-cons (λ (s : PlannedStore). p s ≡ true → Q s) x xs (λ t. absurd (false≢true (sym e ∙ t))) (rest (subst (All Q) (drops p x xs e) h))

-- of stores that all come too late none is due
late_none : (k i : ℕ) (xs : List PlannedStore) → All (TooLate k i) xs → due k (to_word i xs) ≡ []
late_none k i [] h = refl
late_none k i (x ∷ xs) h = step (nat_eq x.word i) refl (late_none k i xs (All-tail (TooLate k i) x xs h))
  where
    step : (b : Bool) → nat_eq x.word i ≡ b → due k (to_word i xs) ≡ [] → due k (to_word i (x ∷ xs)) ≡ []
    step true e r =
        ap (due k) (keeps (λ s. nat_eq s.word i) x xs e)
        ∙ (drops (λ s. leb s.before k) x (to_word i xs) (le_false x.before k (All-head (TooLate k i) x xs h (is_word x.word i e))) ∙ r)
    step false e r = ap (due k) (drops (λ s. nat_eq s.word i) x xs e) ∙ r

-- the stores that are due are those up to the first that comes too late
pub due_front : (k i c : ℕ) (xs : List PlannedStore) → All (InTime k i) (take c xs) → All (TooLate k i) (drop c xs) → due k (to_word i xs) ≡ to_word i (take c xs)
due_front k i zero xs h l = late_none k i xs l
due_front k i (suc c) [] h l = refl
due_front k i (suc c) (x ∷ xs) h l = step (nat_eq x.word i) refl (due_front k i c xs (All-tail (InTime k i) x (take c xs) h) l)
  where
    step : (b : Bool) → nat_eq x.word i ≡ b → due k (to_word i xs) ≡ to_word i (take c xs) → due k (to_word i (x ∷ xs)) ≡ to_word i (x ∷ take c xs)
    step true e r =
        ap (due k) (keeps (λ s. nat_eq s.word i) x xs e)
        ∙ (keeps (λ s. leb s.before k) x (to_word i xs) (le_true x.before k (All-head (InTime k i) x (take c xs) h (is_word x.word i e)))
        ∙ (ap (λ ys. x ∷ ys) r ∙ sym (keeps (λ s. nat_eq s.word i) x (take c xs) e)))
    step false e r = ap (due k) (drops (λ s. nat_eq s.word i) x xs e) ∙ (r ∙ sym (drops (λ s. nat_eq s.word i) x (take c xs) e))

-- from a store on that comes too late all do
late_after : (k i : ℕ) (x : PlannedStore) (xs : List PlannedStore) → All (λ (s : PlannedStore). x.word ≤ s.word) xs → NeverFalls (λ (s : PlannedStore). s.before) (to_word i (x ∷ xs)) → i ≤ x.word → TooLate k i x → All (TooLate k i) (x ∷ xs)
late_after k i x xs rise turns above late = All-cons (TooLate k i) x xs late (step (nat_eq x.word i) refl)
  where
    beyond : (a b : ℕ) → b ≤ a → nat_eq a b ≡ false → b < a
    beyond a b h e = grind arith

    step : (b : Bool) → nat_eq x.word i ≡ b → All (TooLate k i) xs
    step true e =
        let here = subst (NeverFalls (λ (s : PlannedStore). s.before)) (keeps (λ s. nat_eq s.word i) x xs e) turns in
        let first : k < x.before = late (is_word x.word i e) in
        All-weaker (λ (s : PlannedStore). nat_eq s.word i ≡ true → x.before ≤ s.before) (TooLate k i)
        (λ s h w. let after : x.before ≤ s.before = h (eq_true s.word i w) in omega (arith, first, after)) xs
        (from_filter (λ s. nat_eq s.word i) (λ (s : PlannedStore). x.before ≤ s.before) xs here.0)
    step false e =
        let apart : i < x.word = beyond x.word i above e in
        All-weaker (λ (s : PlannedStore). x.word ≤ s.word) (TooLate k i) (λ s h w. omega (arith, apart, h, w)) xs rise

turns_after : (i : ℕ) (x : PlannedStore) (xs : List PlannedStore) → NeverFalls (λ (s : PlannedStore). s.before) (to_word i (x ∷ xs)) → NeverFalls (λ (s : PlannedStore). s.before) (to_word i xs)
turns_after i x xs h = step (nat_eq x.word i) refl
  where
    step : (b : Bool) → nat_eq x.word i ≡ b → NeverFalls (λ (s : PlannedStore). s.before) (to_word i xs)
    step true e = (subst (NeverFalls (λ (s : PlannedStore). s.before)) (keeps (λ s. nat_eq s.word i) x xs e) h).1
    step false e = subst (NeverFalls (λ (s : PlannedStore). s.before)) (drops (λ s. nat_eq s.word i) x xs e) h

pub late_from : (k i c : ℕ) (xs : List PlannedStore) → NeverFalls (λ (s : PlannedStore). s.word) xs → NeverFalls (λ (s : PlannedStore). s.before) (to_word i xs) → (c < length xs → i ≤ (get_or xs c none).word) → (c < length xs → TooLate k i (get_or xs c none)) → All (TooLate k i) (drop c xs)
late_from k i zero [] rise turns above late = All-nil (TooLate k i)
late_from k i (suc c) [] rise turns above late = All-nil (TooLate k i)
late_from k i zero (x ∷ xs) rise turns above late = late_after k i x xs rise.0 turns (above (omega arith)) (late (omega arith))
late_from k i (suc c) (x ∷ xs) rise turns above late = late_from k i c xs rise.1 (turns_after i x xs turns) (λ l. above (omega (arith, l))) (λ l. late (omega (arith, l)))

-- words that never fall, from one place to a later one
pub word_falls_never : (c d : ℕ) (xs : List PlannedStore) → NeverFalls (λ (s : PlannedStore). s.word) xs → c ≤ d → d < length xs → (get_or xs c none).word ≤ (get_or xs d none).word
word_falls_never c d [] h le l = omega (arith, l)
word_falls_never zero zero (x ∷ xs) h le l = omega arith
word_falls_never zero (suc d) (x ∷ xs) h le l = h.0 d none (omega (arith, l))
word_falls_never (suc c) zero (x ∷ xs) h le l = omega (arith, le)
word_falls_never (suc c) (suc d) (x ∷ xs) h le l = word_falls_never c d xs h.1 (omega (arith, le)) (omega (arith, l))

-- stores to earlier words aren't to this one
pub none_to : (i : ℕ) (xs : List PlannedStore) → All (λ (s : PlannedStore). s.word < i) xs → to_word i xs ≡ []
none_to i [] h = refl
none_to i (x ∷ xs) h =
    drops (λ s. nat_eq s.word i) x xs (unequal_below x.word i (All-head (λ (s : PlannedStore). s.word < i) x xs h)) ∙ none_to i xs (All-tail (λ (s : PlannedStore). s.word < i) x xs h)

-- the value of the last store
pub last_pushed : (o : ℕ) (xs : List PlannedStore) (x : PlannedStore) → last_value o (xs ++ x ∷ []) ≡ x.value
last_pushed o [] x = refl
last_pushed o (y ∷ ys) x = last_pushed y.value ys x
