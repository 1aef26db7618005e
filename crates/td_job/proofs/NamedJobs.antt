-- Jobs that name their entry point by text: their numbers and stores, and that each is one run job or has one first fault.
use Rattle.std.proofs.Common.{◌≡◌, ℕ, ◌+◌, ◌/◌, ◌<◌, ◌≤◌, List, [], ◌∷◌, ◌++◌, length, drop, Bool, true, false, not, nat_eq, nat_lt, nat_le, option_map, slice_get, get_or, Some, None, ◌⊎◌, inl, inr, refl, sym, ap, subst, ◌∙◌, arith}
use Rattle.std.specs.List.{All}
use Rattle.std.proofs.lemmas.Bool.Decides.{nat_tests}
use Rattle.std.proofs.lemmas.List.{at_drop_more}
use Rattle.std.proofs.lemmas.List.Elements.{All-nil, All-cons}
use Rattle.td_job.specs.Imports.{Module, Entry, PlannedStore}
use Rattle.td_core.specs.Entries.{entry_definition}
use Rattle.td_core.specs.Formed.{Bound, AllFit, params_at, cells_at}
use Rattle.td_job.specs.declared.error.Key.{Key}
use Rattle.td_job.specs.declared.error.Key.TheVariants as key
use Rattle.td_job.specs.declared.error.JobRule.TheVariants as rule
use Rattle.td_job.specs.declared.error.Path.{Path}
use Rattle.td_job.specs.declared.error.Path.TheVariants as path
use Rattle.td_job.specs.declared.error.JobError.{JobError}
use Rattle.td_job.specs.declared.error.JobError.TheVariants.{Fault}
use Rattle.td_job.specs.declared.checks.TheConstants.{MOST_BYTES}
use Rattle.td_job.specs.declared.named.NamedJob.{NamedJob}
use Rattle.td_job.specs.declared.run_job.RunJob.{RunJob}
use Rattle.td_job.specs.Fields.{fault_if, IsFirst}
use Rattle.td_job.specs.Values.{value_faults}
use Rattle.td_job.specs.Jobs.{IsEntry, HasRoom, HasValues}
use Rattle.td_job.specs.Named.{each_number_faults, number_faults, each_word_faults, named_faults, FirstNamedFault, IsNamedJob}
use Rattle.td_job.proofs.Numbers.{both_empty, not_over, drop_get, drop_next}
use Rattle.td_job.proofs.Existing.{entry_or_fault as entry_or_fault_of}
use Rattle.td_job.proofs.Scattered.{Lies, lies}
use Rattle.td_job.proofs.Unique.{same_jobs, one_entry, one_entry_fault, entry_or_fault, one_first, named_within}
use Rattle.td_num.proofs.Truths.{all_dropped as dropped}

-- ---- lists of faults

-- a fault that is there is the first
pub there : (wrong : Bool) (e : JobError) (more : List JobError) → wrong ≡ true → IsFirst (fault_if wrong e ++ more) e
there true e more h = record { others = more; is = refl }
there false e more h = absurd (cc)

-- one that isn't there is none
pub skipped : (wrong : Bool) (e : JobError) (more : List JobError) → wrong ≡ false → fault_if wrong e ++ more ≡ more
skipped true e more h = absurd (cc)
skipped false e more h = refl

-- ---- numbers

one_number : (k : Key) (i most n : ℕ) (bounds : List Bound) (numbers : List ℕ) → option_map (λ bound. bound.most) (slice_get bounds 0) ≡ Some most
    → each_number_faults k i bounds (n ∷ numbers) ≡ value_faults (path.Element k i) most (Some n) ++ each_number_faults k (i + 1) (drop 1 bounds) numbers
one_number k i most n [] numbers h = absurd (cc)
one_number k i most n (bound ∷ bounds) numbers h =
    let same : bound.most ≡ most = cc in
    ap (λ b. value_faults (path.Element k i) b (Some n) ++ each_number_faults k (i + 1) bounds numbers) same

no_slot : (k : Key) (i : ℕ) (bounds : List Bound) (numbers : List ℕ) → option_map (λ bound. bound.most) (slice_get bounds 0) ≡ None → each_number_faults k i bounds numbers ≡ []
no_slot k i [] numbers h = refl
no_slot k i (bound ∷ bounds) numbers h = absurd (cc)

no_number : (k : Key) (i : ℕ) (bounds : List Bound) → each_number_faults k i bounds [] ≡ []
no_number k i [] = refl
no_number k i (bound ∷ bounds) = refl

-- the number at a place, where a slot is there for it
pub number_at : (k : Key) (i most : ℕ) (bounds : List Bound) (numbers : List ℕ) → i < length numbers → option_map (λ bound. bound.most) (slice_get bounds i) ≡ Some most
    → each_number_faults k i (drop i bounds) (drop i numbers)
    ≡ value_faults (path.Element k i) most (Some (get_or numbers i 0)) ++ each_number_faults k (i + 1) (drop (i + 1) bounds) (drop (i + 1) numbers)
number_at k i most bounds numbers h slot =
    let n = get_or numbers i 0 in
    let slots = ap (option_map (λ (bound : Bound). bound.most)) (drop_get i bounds) ∙ slot in
    at_drop_more (λ ns. each_number_faults k i (drop i bounds) ns) numbers i 0 h
    ∙ one_number k i most n (drop i bounds) (drop (i + 1) numbers) slots
    ∙ ap (λ bs. value_faults (path.Element k i) most (Some n) ++ each_number_faults k (i + 1) bs (drop (i + 1) numbers)) (drop_next i bounds)

-- no slot is there for the number at a place
pub past_slots : (k : Key) (i : ℕ) (bounds : List Bound) (numbers : List ℕ) → option_map (λ bound. bound.most) (slice_get bounds i) ≡ None → each_number_faults k i (drop i bounds) (drop i numbers) ≡ []
past_slots k i bounds numbers slot = no_slot k i (drop i bounds) (drop i numbers) (ap (option_map (λ (bound : Bound). bound.most)) (drop_get i bounds) ∙ slot)

-- no number is left
pub past_numbers : (k : Key) (i : ℕ) (bounds : List Bound) (numbers : List ℕ) → length numbers ≤ i → each_number_faults k i bounds (drop i numbers) ≡ []
past_numbers k i bounds numbers h = ap (λ ns. each_number_faults k i bounds ns) (dropped numbers i h) ∙ no_number k i bounds

-- a number that is too great is a fault, and one that fits is none
pub too_great : (place : Path) (most n : ℕ) (more : List JobError) → most < n → IsFirst (value_faults place most (Some n) ++ more) (Fault rule.Values place)
too_great place most n more h = there (nat_lt most n) (Fault rule.Values place) more (grind (arith, nat_tests, h))

pub fits : (place : Path) (most n : ℕ) (more : List JobError) → n ≤ most → value_faults place most (Some n) ++ more ≡ more
fits place most n more h = skipped (nat_lt most n) (Fault rule.Values place) more (grind (arith, nat_tests, h))

wrong_if : (right : Bool) (e : JobError) (others : List JobError) → right ≡ false → IsFirst (fault_if (not right) e ++ others) e
wrong_if true e others h = absurd (cc)
wrong_if false e others h = record { others = others; is = refl }

right_if : (right : Bool) (e : JobError) (others : List JobError) → right ≡ true → fault_if (not right) e ++ others ≡ others
right_if true e others h = refl
right_if false e others h = absurd (cc)

-- another count of numbers is the first fault
pub wrong_count : (k : Key) (bounds : List Bound) (numbers : List ℕ) → (length numbers ≡ length bounds → ⊥) → IsFirst (number_faults k bounds numbers) (Fault rule.Values (path.Whole k))
wrong_count k bounds numbers h =
    let counted : nat_eq (length numbers) (length bounds) ≡ false = grind (arith, nat_tests, h) in
    wrong_if (nat_eq (length numbers) (length bounds)) (Fault rule.Values (path.Whole k)) (each_number_faults k 0 bounds numbers) counted

pub right_count : (k : Key) (bounds : List Bound) (numbers : List ℕ) → length numbers ≡ length bounds → number_faults k bounds numbers ≡ each_number_faults k 0 bounds numbers
right_count k bounds numbers h =
    let counted : nat_eq (length numbers) (length bounds) ≡ true = grind (arith, nat_tests, h) in
    right_if (nat_eq (length numbers) (length bounds)) (Fault rule.Values (path.Whole k)) (each_number_faults k 0 bounds numbers) counted

each_fits : (k : Key) (i : ℕ) (bounds : List Bound) (numbers : List ℕ) → length numbers ≡ length bounds → each_number_faults k i bounds numbers ≡ [] → AllFit bounds numbers
each_fits k i [] [] same h = tt
each_fits k i [] (n ∷ numbers) same h = absurd (omega (arith, same))
each_fits k i (bound ∷ bounds) [] same h = absurd (omega (arith, same))
each_fits k i (bound ∷ bounds) (n ∷ numbers) same h =
    let both = both_empty _ _ h in
    let within = not_over (nat_lt bound.most n) (Fault rule.Values (path.Element k i)) both.0 in
    (grind (arith, nat_tests, within), each_fits k (i + 1) bounds numbers (omega (arith, same)) both.1)

numbers_fit : (k : Key) (bounds : List Bound) (numbers : List ℕ) → number_faults k bounds numbers ≡ [] → AllFit bounds numbers
numbers_fit k bounds numbers h =
    let both = both_empty _ _ h in
    let counted = not_over (not (nat_eq (length numbers) (length bounds))) (Fault rule.Values (path.Whole k)) both.0 in
    each_fits k 0 bounds numbers (grind (arith, nat_tests, counted)) both.1

-- ---- stores

-- the store at a place
pub store_at : (words i : ℕ) (stores : List PlannedStore) (d : PlannedStore) → i < length stores
    → each_word_faults words i (drop i stores) ≡ fault_if (nat_le words (get_or stores i d).word) (Fault rule.NoWord (path.Element key.Stores i)) ++ each_word_faults words (i + 1) (drop (i + 1) stores)
store_at words i stores d h = at_drop_more (λ ss. each_word_faults words i ss) stores i d h

pub past_stores : (words i : ℕ) (stores : List PlannedStore) → length stores ≤ i → each_word_faults words i (drop i stores) ≡ []
past_stores words i stores h = ap (λ ss. each_word_faults words i ss) (dropped stores i h)

pub no_word : (words word : ℕ) (e : JobError) (more : List JobError) → words ≤ word → IsFirst (fault_if (nat_le words word) e ++ more) e
no_word words word e more h = there (nat_le words word) e more (grind (arith, nat_tests, h))

pub a_word : (words word : ℕ) (e : JobError) (more : List JobError) → word < words → fault_if (nat_le words word) e ++ more ≡ more
a_word words word e more h = skipped (nat_le words word) e more (grind (arith, nat_tests, h))

stores_inside : (words i : ℕ) (stores : List PlannedStore) → each_word_faults words i stores ≡ [] → All (λ (s : PlannedStore). s.word < words) stores
stores_inside words i [] h = All-nil (λ (s : PlannedStore). s.word < words)
stores_inside words i (s ∷ stores) h =
    let both = both_empty _ _ h in
    let within = not_over (nat_le words s.word) (Fault rule.NoWord (path.Element key.Stores i)) both.0 in
    All-cons (λ (s : PlannedStore). s.word < words) s stores (grind (arith, nat_tests, within)) (stores_inside words (i + 1) stores both.1)

-- ---- a job without a fault

pub has_room : (m : Module) (entry : Entry) (job : NamedJob) (j : RunJob) → length job.words ≡ (job.length + 7) / 8 → named_faults m entry job ≡ []
    → j.words ≡ job.words → j.length ≡ job.length → j.layout ≡ None → j.stores ≡ job.stores → HasRoom j
has_room m entry job j sized h words as_long layout stored =
    let stores = both_empty _ _ h in
    let length_is = both_empty _ _ stores.0 in
    let short = not_over (nat_lt MOST_BYTES job.length) (Fault rule.Limit (path.Whole key.Length)) length_is.1 in
    let limit : job.length ≤ MOST_BYTES = grind (arith, nat_tests, short) in
    let each = both_empty _ _ stores.1 in
    let inside = stores_inside (length job.words) 0 job.stores each.1 in
    let count : length j.words ≡ (job.length + 7) / 8 = ap length words ∙ sized in
    let there = subst (Lies j.length (length j.words)) (sym layout) (lies j.length j.length (length j.words) None refl (omega (arith, count, as_long))) in
    let P : List ℕ → Type 0 = λ ws. All (λ (s : PlannedStore). s.word < length ws) j.stores in
    let Q : List PlannedStore → Type 0 = λ ss. All (λ (s : PlannedStore). s.word < length job.words) ss in
    record {
      words = omega (arith, count, limit);
      over = there.over;
      ends = there.ends;
      long = there.long;
      limit = omega (arith, limit, as_long);
      stores = subst P (sym words) (subst Q (sym stored) inside);
    }

pub has_values : (m : Module) (job : NamedJob) (j : RunJob) → named_faults m j.entry job ≡ [] → j.args ≡ job.args → j.cells ≡ job.cells → HasValues m j
has_values m job j h args cells =
    let d = entry_definition m j.entry.number in
    let stores = both_empty _ _ h in
    let length_is = both_empty _ _ stores.0 in
    let lists = both_empty _ _ length_is.0 in
    record {
      args = subst (AllFit (params_at d)) (sym args) (numbers_fit key.Args (params_at d) job.args lists.0);
      cells = subst (AllFit (cells_at d)) (sym cells) (numbers_fit key.Cells (cells_at d) job.cells lists.1);
    }

pub entry_within : (m : Module) (name : List ℕ) (entry : Entry) → IsEntry m (Some name) entry → entry.number < length m.entries
entry_within m name entry h = named_within m (Some name) entry h

-- ---- one answer

pub one_named_job : (m : Module) (job : NamedJob) (a b : RunJob) → IsNamedJob m job a → IsNamedJob m job b → a ≡ b
one_named_job m job a b ha hb =
    let entry = one_entry m (Some job.entry) a.entry b.entry ha.named hb.named in
    same_jobs a b entry (ha.args ∙ sym hb.args) (ha.cells ∙ sym hb.cells) (ha.words ∙ sym hb.words) (ha.as_long ∙ sym hb.as_long) (ha.layout ∙ sym hb.layout) (ha.stored ∙ sym hb.stored) (ha.written ∙ sym hb.written)

pub one_named_fault : (m : Module) (job : NamedJob) (a b : JobError) → FirstNamedFault m job a → FirstNamedFault m job b → a ≡ b
one_named_fault m job a b (inl ha) (inl hb) = one_entry_fault m (Some job.entry) a b ha hb
one_named_fault m job a b (inl ha) (inr hb) = absurd (entry_or_fault m (Some job.entry) hb.0 a hb.1 ha)
one_named_fault m job a b (inr ha) (inl hb) = absurd (entry_or_fault m (Some job.entry) ha.0 b ha.1 hb)
one_named_fault m job a b (inr ha) (inr hb) =
    let same = one_entry m (Some job.entry) hb.0 ha.0 hb.1 ha.1 in
    one_first (named_faults m ha.0 job) a b ha.2 (subst (λ (entry : Entry). IsFirst (named_faults m entry job) b) same hb.2)

pub named_or_fault : (m : Module) (job : NamedJob) (j : RunJob) (e : JobError) → IsNamedJob m job j → FirstNamedFault m job e → ⊥
named_or_fault m job j e h (inl wrong) = entry_or_fault m (Some job.entry) j.entry e h.named wrong
named_or_fault m job j e h (inr wrong) =
    let same = one_entry m (Some job.entry) wrong.0 j.entry wrong.1 h.named in
    let first = subst (λ (entry : Entry). IsFirst (named_faults m entry job) e) same wrong.2 in
    let none = h.faultless in
    let some = first.is in
    absurd (cc)

-- each is a run job or has a first fault
by_named_faults : (m : Module) (job : NamedJob) (entry : Entry) → IsEntry m (Some job.entry) entry → (faults : List JobError) → named_faults m entry job ≡ faults
    → ((j : RunJob) × IsNamedJob m job j) ⊎ ((e : JobError) × FirstNamedFault m job e)
by_named_faults m job entry named [] h =
    inl (
      record { entry = entry; args = job.args; cells = job.cells; words = job.words; length = job.length; layout = None; stores = job.stores; written = None },
      record { named = named; faultless = h; args = refl; cells = refl; words = refl; as_long = refl; layout = refl; written = refl; stored = refl },
    )
by_named_faults m job entry named (e ∷ others) h = inr (e, inr (entry, named, record { others = others; is = h }))

pub always_one_named : (m : Module) (job : NamedJob) → ((j : RunJob) × IsNamedJob m job j) ⊎ ((e : JobError) × FirstNamedFault m job e)
always_one_named m job = elim (entry_or_fault_of m (Some job.entry)) [
  | inl found ↦ by_named_faults m job found.0 found.1 (named_faults m found.0 job) refl
  | inr wrong ↦ inr (wrong.0, inl wrong.1)
]
