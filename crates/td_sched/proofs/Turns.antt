-- Stores in turn: sorting keeps what a plan has, and which stores are due.
use Rattle.std.proofs.Common.{◌≡◌, ℕ, zero, suc, ◌+◌, ◌<◌, ◌≤◌, Bool, true, false, cond, nat_eq, nat_lt, List, [], ◌∷◌, ◌++◌, length, refl, sym, ap, ◌∙◌, subst, arith, ⊎_elim, Bor}
use Rattle.std.specs.Prelude.{leb, not, ◌&&◌}
use Rattle.std.specs.List.{All, filter}
use Rattle.std.specs.List.Sorted.{IsNonDecreasingBy, IsStableByKey}
use Rattle.std.specs.Ordering.{is_lt, nat_cmp}
use Rattle.std.specs.declared.cmp.Ordering.TheVariants.{Less, Equal, Greater}
use Rattle.std.specs.Fn.{Called, ComputesKey}
use Rattle.std.proofs.lemmas.List.Elements.{All-head, All-tail, All-filter, All-from_get_or, All-weaker}
use Rattle.std.proofs.lemmas.Bool.{cases_lt}
use Rattle.std.proofs.lemmas.Fn.{always_returns_same}
use denote.Param.Members.{Mut}
use lib.Dec.{ltb}
use Rattle.td_stream.specs.declared.load.Load.{Load}
use Rattle.td_sched.specs.declared.store.PlannedStore.{PlannedStore}
use Rattle.td_sched.specs.Plan.{numbered, up_to, to_word, at, ArePlanned}
use Rattle.td_sched.specs.Invariant.{due, NeverFalls, AreOfPlan}
use Rattle.td_sched.proofs.Memory.{keeps, drops}
use Rattle.td_num.proofs.Equals.{unequal_below as eq_false_lt}
use Rattle.td_num.proofs.Truths.{is_eq as eq_true}

abbrev pub none : PlannedStore
none = record { before = 0; word = 0; value = 0 }

-- ---- numbers that never fall

pub falls_never : (n : PlannedStore → ℕ) (xs : List PlannedStore) → IsNonDecreasingBy n xs → NeverFalls n xs
falls_never n [] h = tt
falls_never n (x ∷ xs) h = (
  All-from_get_or (λ (s : PlannedStore). n x ≤ n s) xs none (λ i l. h 0 (suc i) none (omega arith) (omega arith)),
  falls_never n xs (λ i j d l m. h (suc i) (suc j) d (omega arith) (omega arith)),
)

pub falls_never_filtered : (n : PlannedStore → ℕ) (p : PlannedStore → Bool) (xs : List PlannedStore) → NeverFalls n xs → NeverFalls n (filter p xs)
falls_never_filtered n p [] h = tt
falls_never_filtered n p (x ∷ xs) h = step (p x) refl (falls_never_filtered n p xs h.1)
  where
    step : (b : Bool) → p x ≡ b → NeverFalls n (filter p xs) → NeverFalls n (filter p (x ∷ xs))
    step true e rest = subst (NeverFalls n) (sym (keeps p x xs e)) (All-filter p (λ (s : PlannedStore). n x ≤ n s) xs h.0, rest)
    step false e rest = subst (NeverFalls n) (sym (drops p x xs e)) rest

-- ---- stores that are due

pub le_true : (a b : ℕ) → a ≤ b → leb a b ≡ true
le_true a b h = grind arith

pub le_false : (a b : ℕ) → b < a → leb a b ≡ false
le_false a b h = grind arith

eq_false_gt : (a b : ℕ) → b < a → nat_eq a b ≡ false
eq_false_gt a b h = grind arith

due_none : (k : ℕ) (xs : List PlannedStore) → All (λ (s : PlannedStore). k < s.before) xs → due k xs ≡ []
due_none k [] h = refl
due_none k (x ∷ xs) h =
    drops (λ s. leb s.before k) x xs (le_false x.before k (All-head (λ (s : PlannedStore). k < s.before) x xs h))
    ∙ due_none k xs (All-tail (λ (s : PlannedStore). k < s.before) x xs h)

numbered_none : (k : ℕ) (xs : List PlannedStore) → All (λ (s : PlannedStore). k < s.before) xs → numbered k xs ≡ []
numbered_none k [] h = refl
numbered_none k (x ∷ xs) h =
    drops (λ s. nat_eq s.before k) x xs (eq_false_gt x.before k (All-head (λ (s : PlannedStore). k < s.before) x xs h))
    ∙ numbered_none k xs (All-tail (λ (s : PlannedStore). k < s.before) x xs h)

-- those up to the next number
more_step : (k : ℕ) (x : PlannedStore) (xs : List PlannedStore) → All (λ (s : PlannedStore). x.before ≤ s.before) xs → due (suc k) xs ≡ due k xs ++ numbered (suc k) xs → due (suc k) (x ∷ xs) ≡ due k (x ∷ xs) ++ numbered (suc k) (x ∷ xs)
more_step k x xs up rest = ⊎_elim low high (cases_lt k x.before)
  where
    high : x.before ≤ k → due (suc k) (x ∷ xs) ≡ due k (x ∷ xs) ++ numbered (suc k) (x ∷ xs)
    high l =
        keeps (λ s. leb s.before (suc k)) x xs (le_true x.before (suc k) (omega arith))
        ∙ ap (λ ys. x ∷ ys) rest
        ∙ sym (ap (λ ys. ys ++ numbered (suc k) (x ∷ xs)) (keeps (λ s. leb s.before k) x xs (le_true x.before k l)) ∙ ap (λ ys. (x ∷ due k xs) ++ ys) (drops (λ s. nat_eq s.before (suc k)) x xs (eq_false_lt x.before (suc k) (omega arith))))

    front : k < x.before → due k (x ∷ xs) ≡ due k xs
    front l = drops (λ s. leb s.before k) x xs (le_false x.before k l)

    past : k < x.before → suc k < x.before → due (suc k) (x ∷ xs) ≡ due k (x ∷ xs) ++ numbered (suc k) (x ∷ xs)
    past l m =
        drops (λ s. leb s.before (suc k)) x xs (le_false x.before (suc k) m)
        ∙ rest
        ∙ sym (ap (λ ys. ys ++ numbered (suc k) (x ∷ xs)) (front l) ∙ ap (λ ys. due k xs ++ ys) (drops (λ s. nat_eq s.before (suc k)) x xs (eq_false_gt x.before (suc k) m)))

    same : k < x.before → x.before ≤ suc k → due (suc k) (x ∷ xs) ≡ due k (x ∷ xs) ++ numbered (suc k) (x ∷ xs)
    same l m =
        let after : All (λ (s : PlannedStore). k < s.before) xs = All-weaker (λ (s : PlannedStore). x.before ≤ s.before) (λ (s : PlannedStore). k < s.before) (λ s n. omega (arith, n, l)) xs up in
        let empty : due k xs ≡ [] = due_none k xs after in
        keeps (λ s. leb s.before (suc k)) x xs (le_true x.before (suc k) m)
        ∙ ap (λ ys. x ∷ ys) (rest ∙ ap (λ ys. ys ++ numbered (suc k) xs) empty)
        ∙ sym (ap (λ ys. ys ++ numbered (suc k) (x ∷ xs)) (front l ∙ empty) ∙ keeps (λ s. nat_eq s.before (suc k)) x xs (eq_true x.before (suc k) (omega arith)))

    low : k < x.before → due (suc k) (x ∷ xs) ≡ due k (x ∷ xs) ++ numbered (suc k) (x ∷ xs)
    low l = ⊎_elim (past l) (same l) (cases_lt (suc k) x.before)

more_due : (k : ℕ) (xs : List PlannedStore) → NeverFalls (λ (s : PlannedStore). s.before) xs → due (suc k) xs ≡ due k xs ++ numbered (suc k) xs
more_due k [] h = refl
more_due k (x ∷ xs) h = more_step k x xs h.0 (more_due k xs h.1)

zero_same : (n : ℕ) → nat_eq n 0 ≡ leb n 0
zero_same n = grind arith

up_to_due : (k : ℕ) (xs : List PlannedStore) → NeverFalls (λ (s : PlannedStore). s.before) xs → up_to k xs ≡ due k xs
up_to_due zero xs h = λ i. filter (λ s. zero_same s.before i) xs
up_to_due (suc k) xs h = ap (λ ys. ys ++ numbered (suc k) xs) (up_to_due k xs h) ∙ sym (more_due k xs h)

up_to_same : (k : ℕ) (xs ys : List PlannedStore) → ((n : ℕ) → numbered n ys ≡ numbered n xs) → up_to k ys ≡ up_to k xs
up_to_same zero xs ys h = h 0
up_to_same (suc k) xs ys h = λ i. up_to_same k xs ys h i ++ h (suc k) i

-- the order of two tests doesn't matter
filter_both : (p q : PlannedStore → Bool) (xs : List PlannedStore) → filter p (filter q xs) ≡ filter q (filter p xs)
filter_both p q [] = refl
filter_both p q (x ∷ xs) = step (p x) (q x) refl refl (filter_both p q xs)
  where
    step : (a b : Bool) → p x ≡ a → q x ≡ b → filter p (filter q xs) ≡ filter q (filter p xs) → filter p (filter q (x ∷ xs)) ≡ filter q (filter p (x ∷ xs))
    step true true e f r = ap (filter p) (keeps q x xs f) ∙ (keeps p x (filter q xs) e ∙ (ap (λ ys. x ∷ ys) r ∙ sym (ap (filter q) (keeps p x xs e) ∙ keeps q x (filter p xs) f)))
    step true false e f r = ap (filter p) (drops q x xs f) ∙ (r ∙ sym (ap (filter q) (keeps p x xs e) ∙ drops q x (filter p xs) f))
    step false true e f r = ap (filter p) (keeps q x xs f) ∙ (drops p x (filter q xs) e ∙ (r ∙ sym (ap (filter q) (drops p x xs e))))
    step false false e f r = ap (filter p) (drops q x xs f) ∙ (r ∙ sym (ap (filter q) (drops p x xs e)))

-- stores that were sorted by number, and then by word
pub of_plan : (given by_number sorted : List PlannedStore) → NeverFalls (λ (s : PlannedStore). s.before) by_number → ((n : ℕ) → numbered n by_number ≡ numbered n given) → ((i : ℕ) → to_word i sorted ≡ to_word i by_number) → AreOfPlan given sorted
of_plan given by_number sorted rise same_numbers same_words = λ k i.
    ap (to_word i) (sym (up_to_same k given by_number same_numbers) ∙ up_to_due k by_number rise)
    ∙ (filter_both (λ s. nat_eq s.word i) (λ s. leb s.before k) by_number ∙ ap (due k) (sym (same_words i)))

pub in_turn : (by_number sorted : List PlannedStore) → NeverFalls (λ (s : PlannedStore). s.before) by_number → ((i : ℕ) → to_word i sorted ≡ to_word i by_number) → (i : ℕ) → NeverFalls (λ (s : PlannedStore). s.before) (to_word i sorted)
in_turn by_number sorted rise same_words i =
    subst (NeverFalls (λ (s : PlannedStore). s.before)) (sym (same_words i)) (falls_never_filtered (λ (s : PlannedStore). s.before) (λ s. nat_eq s.word i) by_number rise)

-- ---- loads

pub planned_push : (o : List ℕ) (s : List PlannedStore) (k : ℕ) (xs : List Load) (l : Load) → ArePlanned o s k xs → l.value ≡ at o s (k + length xs) l.word → ArePlanned o s k (xs ++ l ∷ [])
planned_push o s k [] l h e = (e ∙ ap (λ n. at o s n l.word) (let z : k + 0 ≡ k = omega arith in z), tt)
planned_push o s k (x ∷ xs) l h e =
    let z : k + suc (length xs) ≡ suc k + length xs = omega arith in
    (h.0, planned_push o s (suc k) xs l h.1 (e ∙ ap (λ n. at o s n l.word) z))

nat_cmp-ltb : (x y : ℕ) → is_lt (nat_cmp x y) ≡ ltb x y
nat_cmp-ltb x y = both (nat_lt x y) (nat_eq x y)
  where
    both : (a b : Bool) → is_lt (cond a Less (cond b Equal Greater)) ≡ a
    both true b = refl
    both false true = refl
    both false false = refl

ties_eq : (n m : ℕ) → (not (is_lt (nat_cmp n m)) && not (is_lt (nat_cmp m n))) ≡ nat_eq m n
ties_eq n m = (λ i. not (nat_cmp-ltb n m i) && not (nat_cmp-ltb m n i)) ∙ tests n m
  where
    tests : (n m : ℕ) → (not (ltb n m) && not (ltb m n)) ≡ nat_eq m n
    tests n m = grind arith

-- those that tie by a number are those of one value of it
same_each : (key : PlannedStore → ℕ) (x : PlannedStore) (xs ys : List PlannedStore) → IsStableByKey key nat_cmp xs ys → filter (λ s. nat_eq (key s) (key x)) ys ≡ filter (λ s. nat_eq (key s) (key x)) xs
same_each key x xs ys h =
    sym (λ i. filter (λ s. ties_eq (key x) (key s) i) ys) ∙ (h x ∙ (λ i. filter (λ s. ties_eq (key x) (key s) i) xs))

-- what a stable sort by this number keeps
pub stable_from_sort : {F : Type 0} {g : Mut F (Bor PlannedStore × Unit {0}) ℕ} {f : F} (number : PlannedStore → ℕ) (xs ys : List PlannedStore) → ((key : PlannedStore → ℕ) → ComputesKey g key f → IsStableByKey key nat_cmp xs ys) → ((a : Bor PlannedStore × Unit {0}) (r : ℕ) (f' : F) → Called g f a r f' → (r ≡ number a.0.now) × (f' ≡ f)) → (x : PlannedStore) → filter (λ s. nat_eq (number s) (number x)) ys ≡ filter (λ s. nat_eq (number s) (number x)) xs
stable_from_sort {g = g} {f = f} number xs ys h calls x = same_each number x xs ys (h number (always_returns_same g (λ a r. r ≡ number a.0.now) f calls))
