-- Lists of arguments and cells, element by element. Cited by other crates.
use Rattle.std.proofs.Common.{◌≡◌, ℕ, zero, suc, ◌+◌, ◌<◌, ◌≤◌, List, [], ◌∷◌, ◌++◌, length, drop, Bool, true, false, not, nat_eq, nat_lt, option_map, slice_get, get_or, Option, Some, None, Result, Ok, Err, refl, ap, ◌∙◌, arith}
use Rattle.std.specs.Prelude.{replicate, OnErr}
use Rattle.std.proofs.lemmas.List.{length-replicate}
use Rattle.std.proofs.lemmas.Bool.Decides.{nat_tests}
use Rattle.std.proofs.lemmas.List.{at_drop_more, drop-drop}
use Rattle.serde_json.specs.Data.{Data, Items, no_items, item}
use Rattle.serde_json.specs.Events.{items_len}
use Rattle.serde_json.specs.Find.{as_array}
use Rattle.serde_json.specs.View.{view, items_view}
use Rattle.serde_json.specs.declared.value.Value.{Value}
use Rattle.td_core.specs.Formed.{Bound, AllFit}
use Rattle.td_job.specs.declared.error.Key.{Key}
use Rattle.td_job.specs.declared.error.Key.TheVariants as key
use Rattle.td_job.specs.declared.error.JobRule.TheVariants as rule
use Rattle.td_job.specs.declared.error.Path.{Path}
use Rattle.td_job.specs.declared.error.Path.TheVariants as path
use Rattle.td_job.specs.declared.error.JobError.{JobError}
use Rattle.td_job.specs.declared.error.JobError.TheVariants.{Fault}
use Rattle.td_job.specs.Fields.{whole, fault_if, IsFirst}
use Rattle.td_job.proofs.Elements.{same_count}
use Rattle.td_job.specs.Values.{or_zero, value_faults, each_value_faults, list_faults, args_faults, cells_faults, each_number, listed_numbers, given_values}

-- no elements are left
pub none_left : (k : Key) (i : ℕ) (bounds : List Bound) → each_value_faults k i bounds no_items ≡ []
none_left k i [] = refl
none_left k i (bound ∷ bounds) = refl

-- one more element, of a slot that is there
pub one_more : (k : Key) (i most : ℕ) (bounds : List Bound) (value : Data) (values : Items) → option_map (λ bound. bound.most) (slice_get bounds 0) ≡ Some most
    → each_value_faults k i bounds (item value values) ≡ value_faults (path.Element k i) most (whole value) ++ each_value_faults k (i + 1) (drop 1 bounds) values
one_more k i most [] value values h = absurd (cc)
one_more k i most (bound ∷ bounds) value values h =
    let same : bound.most ≡ most = cc in
    ap (λ n. value_faults (path.Element k i) n (whole value) ++ each_value_faults k (i + 1) bounds values) same

-- no slot is left
pub past_slots : (k : Key) (i : ℕ) (bounds : List Bound) (values : Items) → option_map (λ bound. bound.most) (slice_get bounds 0) ≡ None → each_value_faults k i bounds values ≡ []
past_slots k i [] values h = refl
past_slots k i (bound ∷ bounds) values h = absurd (cc)

pub drop_get : (i : ℕ) (bounds : List Bound) → slice_get (drop i bounds) 0 ≡ slice_get bounds i
drop_get zero bounds = refl
drop_get (suc i) [] = refl
drop_get (suc i) (bound ∷ bounds) = drop_get i bounds

pub drop_next : (i : ℕ) (bounds : List Bound) → drop 1 (drop i bounds) ≡ drop (i + 1) bounds
drop_next i bounds = drop-drop 1 i bounds

-- nothing is left past the end
pub past_end : (values : List Value) (i : ℕ) → length values ≤ i → drop i values ≡ []
past_end [] zero h = refl
past_end [] (suc i) h = refl
past_end (value ∷ values) zero h = absurd (omega (arith, h))
past_end (value ∷ values) (suc i) h = past_end values i (omega (arith, h))

pub both_empty : (a b : List JobError) → a ++ b ≡ [] → (a ≡ []) × (b ≡ [])
both_empty [] b h = (refl, h)
both_empty (e ∷ a) b h = absurd (cc)

pub not_over : (over : Bool) (e : JobError) → fault_if over e ≡ [] → over ≡ false
not_over true e h = absurd (cc)
not_over false e h = refl

pub value_fits : (place : Path) (most : ℕ) (number : Option ℕ) → value_faults place most number ≡ [] → (n : ℕ) × (number ≡ Some n) × (n ≤ most)
value_fits place most None h = absurd (cc)
value_fits place most (Some n) h =
    let within = not_over (nat_lt most n) (Fault rule.Values place) h in
    (n, refl, grind (arith, nat_tests, within))

pub numbers_fit : (k : Key) (i : ℕ) (bounds : List Bound) (values : Items) → items_len values ≡ length bounds → each_value_faults k i bounds values ≡ [] → AllFit bounds (each_number values)
numbers_fit k i [] no_items same h = tt
numbers_fit k i [] (item value values) same h = absurd (omega (arith, same))
numbers_fit k i (bound ∷ bounds) no_items same h = absurd (omega (arith, same))
numbers_fit k i (bound ∷ bounds) (item value values) same h =
    let both = both_empty _ _ h in
    let fits = value_fits (path.Element k i) bound.most (whole value) both.0 in
    let number : or_zero (whole value) ≡ fits.0 = ap or_zero fits.1 in
    (rw number fits.2, numbers_fit k (i + 1) bounds values (omega (arith, same)) both.1)

-- as many numbers as elements
pub as_many_numbers : (values : List Value) → length (each_number (items_view values)) ≡ length values
as_many_numbers [] = refl
as_many_numbers (value ∷ values) = ap suc (as_many_numbers values)

-- there are values where there are slots for zeros
pub zeros_counted : (bounds : List Bound) (value : Option Data) (n : ℕ) → None ≡ value → n ≡ length bounds → 0 < n → 0 < length (given_values bounds value)
zeros_counted bounds None n none same h =
    let many : length (replicate {A = ℕ} (length bounds) 0) ≡ length bounds = length-replicate {A = ℕ} (length bounds) 0 in
    omega (arith, many, same, h)
zeros_counted bounds (Some value) n none same h = absurd (cc)

-- and where the list has elements
pub numbers_counted : (bounds : List Bound) (value : Option Data) (given : Data) (values : List Value) → Some given ≡ value → Some (items_view values) ≡ as_array given
    → 0 < length values → 0 < length (given_values bounds value)
numbers_counted bounds None given values some listed h = absurd (cc)
numbers_counted bounds (Some value) given values some listed h =
    let is : given ≡ value = cc in
    let numbers : each_number (items_view values) ≡ listed_numbers (as_array value) = ap listed_numbers (listed ∙ ap as_array is) in
    let many = as_many_numbers values in
    rw (← numbers) (omega (arith, many, h))

-- what an error says says more
pub on_err : {T E : Type 0} (r : Result T E) (P Q : Type 0) → (P → Q) → OnErr r P → OnErr r Q
on_err (Ok t) P Q f h = tt
on_err (Err e) P Q f h = f h

zeros_fit : (bounds : List Bound) → AllFit bounds (replicate (length bounds) 0)
zeros_fit [] = tt
zeros_fit (bound ∷ bounds) = (omega arith, zeros_fit bounds)

list_fits : (k : Key) (bounds : List Bound) (values : Option Items) → list_faults k bounds values ≡ [] → AllFit bounds (listed_numbers values)
list_fits k bounds None h = absurd (cc)
list_fits k bounds (Some values) h =
    let both = both_empty _ _ h in
    let counted = not_over (not (nat_eq (items_len values) (length bounds))) (Fault rule.Values (path.Whole k)) both.0 in
    numbers_fit k 0 bounds values (grind (arith, nat_tests, counted)) both.1

pub args_fit : (bounds : List Bound) (value : Option Data) → args_faults bounds value ≡ [] → AllFit bounds (given_values bounds value)
args_fit bounds None h = zeros_fit bounds
args_fit bounds (Some value) h = list_fits key.Args bounds (as_array value) h

pub cells_fit : (bounds : List Bound) (value : Option Data) → cells_faults bounds value ≡ [] → AllFit bounds (given_values bounds value)
cells_fit bounds None h = zeros_fit bounds
cells_fit bounds (Some value) h = list_fits key.Cells bounds (as_array value) h

-- the element at a place, where a slot is there for it
pub at_element : (k : Key) (i most : ℕ) (bounds : List Bound) (values : List Value) (d : Value) → i < length values → option_map (λ bound. bound.most) (slice_get bounds i) ≡ Some most
    → each_value_faults k i (drop i bounds) (items_view (drop i values))
    ≡ value_faults (path.Element k i) most (whole (view (get_or values i d))) ++ each_value_faults k (i + 1) (drop (i + 1) bounds) (items_view (drop (i + 1) values))
at_element k i most bounds values d h slot =
    let value = get_or values i d in
    let there = ap (option_map (λ (bound : Bound). bound.most)) (drop_get i bounds) ∙ slot in
    at_drop_more (λ vs. each_value_faults k i (drop i bounds) (items_view vs)) values i d h
    ∙ one_more k i most (drop i bounds) (view value) (items_view (drop (i + 1) values)) there
    ∙ ap (λ bs. value_faults (path.Element k i) most (whole (view value)) ++ each_value_faults k (i + 1) bs (items_view (drop (i + 1) values))) (drop_next i bounds)

-- no slot is there for the element at a place
pub past_all : (k : Key) (i : ℕ) (bounds : List Bound) (values : Items) → option_map (λ bound. bound.most) (slice_get bounds i) ≡ None → each_value_faults k i (drop i bounds) values ≡ []
past_all k i bounds values slot = past_slots k i (drop i bounds) values (ap (option_map (λ (bound : Bound). bound.most)) (drop_get i bounds) ∙ slot)

-- the first of some faults is the first of more
pub first_of_more : (a b : List JobError) (e : JobError) → IsFirst a e → IsFirst (a ++ b) e
first_of_more a b e h = record { others = h.others ++ b; is = ap (λ l. l ++ b) h.is }

wrong_if : (right : Bool) (e : JobError) (others : List JobError) → right ≡ false → IsFirst (fault_if (not right) e ++ others) e
wrong_if true e others h = absurd (cc)
wrong_if false e others h = record { others = others; is = refl }

right_if : (right : Bool) (e : JobError) (others : List JobError) → right ≡ true → fault_if (not right) e ++ others ≡ others
right_if true e others h = refl
right_if false e others h = absurd (cc)

pub wrong_length : (k : Key) (bounds : List Bound) (values : List Value) → (length values ≡ length bounds → ⊥)
    → IsFirst (list_faults k bounds (Some (items_view values))) (Fault rule.Values (path.Whole k))
wrong_length k bounds values h =
    let counted : nat_eq (items_len (items_view values)) (length bounds) ≡ false = rw (same_count values) (grind (arith, nat_tests, h)) in
    wrong_if (nat_eq (items_len (items_view values)) (length bounds)) (Fault rule.Values (path.Whole k)) (each_value_faults k 0 bounds (items_view values)) counted

pub right_length : (k : Key) (bounds : List Bound) (values : List Value) → length values ≡ length bounds
    → list_faults k bounds (Some (items_view values)) ≡ each_value_faults k 0 bounds (items_view values)
right_length k bounds values h =
    let counted : nat_eq (items_len (items_view values)) (length bounds) ≡ true = rw (same_count values) (grind (arith, nat_tests, h)) in
    right_if (nat_eq (items_len (items_view values)) (length bounds)) (Fault rule.Values (path.Whole k)) (each_value_faults k 0 bounds (items_view values)) counted
