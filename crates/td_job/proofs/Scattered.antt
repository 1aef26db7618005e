-- Lists of stretches, and that a job has room for its message. Cited by other crates.
use Rattle.std.proofs.Common.{◌≡◌, ℕ, ◌+◌, ◌*◌, ◌<◌, ◌≤◌, ◌^◌, List, [], ◌∷◌, ◌++◌, length, length-append, Bool, true, false, not, nat_eq, nat_lt, Option, Some, None, refl, sym, ap, subst, ◌∙◌, arith, option_map}
use Rattle.std.specs.List.{All}
use Rattle.std.proofs.lemmas.Bool.Decides.{nat_tests}
use Rattle.std.proofs.lemmas.Option.{same_Some}
use Rattle.std.proofs.lemmas.List.Elements.{All-nil, All-cons, All-append, All-weaker}
use Rattle.serde_json.specs.Data.{Data, Items, no_items, item}
use Rattle.serde_json.specs.Events.{items_len}
use Rattle.serde_json.specs.Find.{as_array}
use Rattle.serde_json.specs.View.{view, items_view}
use Rattle.serde_json.specs.declared.value.Value.{Value}
use Rattle.td_job.specs.Imports.{Module, PlannedStore, Stretch}
use Rattle.td_stream.specs.declared.layout.TheConstants.{MOST_STRETCHES}
use Rattle.td_stream.specs.Layouts.{length_in, count_in, layout_or_plain, loadable, AreWithin, IsOver}
use Rattle.td_stream.proofs.Plain.{plain_is}
use Rattle.td_job.specs.declared.checks.TheConstants.{MOST_BYTES}
use Rattle.td_job.specs.declared.error.Key.TheVariants as key
use Rattle.td_job.specs.declared.error.Path.{Path}
use Rattle.td_job.specs.declared.error.Path.TheVariants as path
use Rattle.td_job.specs.declared.error.JobError.{JobError}
use Rattle.td_job.specs.declared.error.JobRule.TheVariants as rule
use Rattle.td_job.specs.declared.error.JobError.TheVariants.{Fault}
use Rattle.td_job.specs.declared.run_job.RunJob.{RunJob}
use Rattle.td_job.specs.Fields.{IsFirst, field_of, fault_if}
use Rattle.td_job.specs.Stretches.{two_parts, spelled_stretch, stretch_faults, stretch_of, each_stretch, each_stretch_faults, sum_faults, layout_faults, stretches_faults, layout_of, words_with, words_by}
use Rattle.td_job.specs.Jobs.{length_faults, given_bytes, given_by, from_bytes, from_value, IsJob, IsJobWith, HasRoom}
use Rattle.td_job.proofs.Elements.{same_count, limited, unlimited}
use Rattle.td_job.proofs.Numbers.{both_empty, not_over, first_of_more}

-- ---- a list's form

-- a list of another length than two has no parts
pub other_parts : (values : List Value) → (length values ≡ 2 → ⊥) → None ≡ two_parts (items_view values)
other_parts [] h = refl
other_parts (a ∷ []) h = refl
other_parts (a ∷ b ∷ []) h = absurd (h refl)
other_parts (a ∷ b ∷ c ∷ values) h = refl

-- more elements than there may be are the first fault
pub too_many : (given n : ℕ) (values : List Value) → MOST_STRETCHES < length values
    → IsFirst (layout_faults given n (Some (items_view values))) (Fault rule.Limit (path.Whole key.Stretches))
too_many given n values h =
    let items = items_view values in
    let counted : nat_lt MOST_STRETCHES (items_len items) ≡ true = rw (same_count values) (grind (arith, nat_tests, h)) in
    first_of_more _ (sum_faults n (each_stretch items)) (Fault rule.Limit (path.Whole key.Stretches))
    (limited (nat_lt MOST_STRETCHES (items_len items)) (Fault rule.Limit (path.Whole key.Stretches)) (each_stretch_faults given 0 items) counted)

-- of fewer elements the faults are theirs, and then the sum's
pub few_enough : (given n : ℕ) (values : List Value) → length values ≤ MOST_STRETCHES
    → layout_faults given n (Some (items_view values)) ≡ each_stretch_faults given 0 (items_view values) ++ sum_faults n (each_stretch (items_view values))
few_enough given n values h =
    let items = items_view values in
    let counted : nat_lt MOST_STRETCHES (items_len items) ≡ false = rw (same_count values) (grind (arith, nat_tests, h)) in
    ap (λ faults. faults ++ sum_faults n (each_stretch items))
    (unlimited (nat_lt MOST_STRETCHES (items_len items)) (Fault rule.Limit (path.Whole key.Stretches)) (each_stretch_faults given 0 items) counted)

wrong_if : (right : Bool) (e : JobError) → right ≡ false → fault_if (not right) e ≡ e ∷ []
wrong_if true e h = absurd (cc)
wrong_if false e h = refl

right_if : (right : Bool) (e : JobError) → right ≡ true → fault_if (not right) e ≡ []
right_if true e h = refl
right_if false e h = absurd (cc)

-- sizes of another sum are at fault
pub wrong_sum : (n : ℕ) (layout : List Stretch) → (length_in layout ≡ n → ⊥) → sum_faults n layout ≡ Fault rule.PastBytes (path.Whole key.Stretches) ∷ []
wrong_sum n layout h =
    let other : nat_eq (length_in layout) n ≡ false = grind (arith, nat_tests, h) in
    wrong_if (nat_eq (length_in layout) n) (Fault rule.PastBytes (path.Whole key.Stretches)) other

pub right_sum : (n : ℕ) (layout : List Stretch) → length_in layout ≡ n → sum_faults n layout ≡ []
right_sum n layout h =
    let same : nat_eq (length_in layout) n ≡ true = grind (arith, nat_tests, h) in
    right_if (nat_eq (length_in layout) n) (Fault rule.PastBytes (path.Whole key.Stretches)) same

pub one_at_most : (o : Option Stretch) → length (stretch_of o) ≤ 1
one_at_most None = omega arith
one_at_most (Some s) = omega arith

-- at most as many stretches as elements
pub few_stretches : (values : List Value) → length (each_stretch (items_view values)) ≤ length values
few_stretches [] = omega arith
few_stretches (value ∷ values) =
    let one = one_at_most (spelled_stretch (view value)) in
    let more = few_stretches values in
    simp length-append (omega (arith, one, more))

-- ---- what is within the bytes given

abbrev Within : ℕ → Stretch → Type 0
Within given s = s.place + s.size ≤ given

one_within : (given : ℕ) (place : Path) (o : Option Stretch) → stretch_faults given place o ≡ [] → All (Within given) (stretch_of o)
one_within given place None h = absurd (cc)
one_within given place (Some s) h =
    let ends = not_over (nat_lt given (s.place + s.size)) (Fault rule.PastBytes place) h in
    All-cons (Within given) s [] (grind (arith, nat_tests, ends)) (All-nil (Within given))

all_within : (given i : ℕ) (values : Items) → each_stretch_faults given i values ≡ [] → All (Within given) (each_stretch values)
all_within given i no_items h = All-nil (Within given)
all_within given i (item value values) h =
    let both = both_empty _ _ h in
    All-append (Within given) (stretch_of (spelled_stretch value)) (each_stretch values) (one_within given (path.Element key.Stretches i) (spelled_stretch value) both.0) (all_within given (i + 1) values both.1)

within_words : (given words : ℕ) (layout : List Stretch) → given ≤ 8 * words → All (Within given) layout → AreWithin words layout
within_words given words layout enough h = All-weaker (Within given) (λ (s : Stretch). s.place + s.size ≤ 8 * words) (λ s ends. omega (arith, enough, ends)) layout h

-- where a message lies in this many words, how many words it has, and how long it is
pub record Lies (n words : ℕ) (o : Option (List Stretch)) : Type 0 where
  pub over : IsOver words o
  pub ends : count_in (layout_or_plain n o) ≤ loadable o words
  pub long : length_in (layout_or_plain n o) ≡ n

listed : (given n words : ℕ) (values : Option Items) → layout_faults given n values ≡ [] → given ≤ 8 * words → Lies n words (option_map each_stretch values)
listed given n words None h enough = absurd (cc)
listed given n words (Some values) h enough =
    let sum = both_empty _ _ h in
    let each = both_empty _ _ sum.0 in
    let same = not_over (not (nat_eq (length_in (each_stretch values)) n)) (Fault rule.PastBytes (path.Whole key.Stretches)) sum.1 in
    record {
      over = within_words given words (each_stretch values) enough (all_within given 0 values each.1);
      ends = omega arith;
      long = grind (arith, nat_tests, same);
    }

-- the message of a job lies in the words that the job has
pub lies : (given n words : ℕ) (stretches : Option Data) → stretches_faults given (Some n) stretches ≡ [] → words ≡ words_by stretches given (Some n) → Lies n words (layout_of stretches)
lies given n words None h same =
    let plain = plain_is n in
    record { over = tt; ends = omega (arith, plain.count, same); long = omega arith }
lies given n words (Some value) h same = listed given n words (as_array value) h (omega (arith, same))

-- ---- the length

pub short : (stretches : Option Data) (given n : ℕ) → length_faults stretches given (Some n) ≡ [] → n ≤ MOST_BYTES
short stretches given n h =
    let both = both_empty _ _ h in
    let limit = not_over (nat_lt MOST_BYTES n) (Fault rule.Limit (path.Whole key.Length)) both.1 in
    grind (arith, nat_tests, limit)

-- the bytes given fill the words of a job
pub words_fit : (stretches : Option Data) (given n : ℕ) → length_faults stretches given (Some n) ≡ [] → 8 * words_by stretches given (Some n) < given + 8
words_fit None given n h =
    let both = both_empty _ _ h in
    let past = not_over (nat_lt given n) (Fault rule.PastBytes (path.Whole key.Length)) both.0 in
    let within : n ≤ given = grind (arith, nat_tests, past) in
    omega (arith, within)
words_fit (Some value) given n h = omega arith

-- ---- the whole job

-- a message has the length that the job says
lies_by : (o : Option Data) (m : Module) (job : Data) (j : RunJob) → IsJobWith (given_by o m j.entry job) m job j → Lies j.length (length j.words) j.layout
lies_by None m job j h =
    let names = both_empty _ _ h.faultless in
    let stores = both_empty _ _ names.0 in
    let fields = both_empty _ _ stores.0 in
    let stretches = both_empty _ _ fields.1 in
    let given = length (given_bytes job) in
    let field = field_of key.Stretches job in
    let none = subst (λ (n : Option ℕ). stretches_faults given n field ≡ []) h.as_long stretches.1 in
    let words = h.filled.count ∙ ap (words_by field given) h.as_long in
    subst (Lies j.length (length j.words)) (sym h.layout) (lies given j.length (length j.words) field none words)
lies_by (Some value) m job j h =
    let bytes = (given_by (Some value) m j.entry job).bytes in
    let long = same_Some (length bytes) j.length h.as_long in
    let words : length j.words ≡ words_by None j.length (Some j.length) = h.filled.count ∙ ap words_with long in
    subst (Lies j.length (length j.words)) (sym h.layout) (lies j.length j.length (length j.words) None refl words)

pub lies_there : (m : Module) (job : Data) (j : RunJob) → IsJob m job j → Lies j.length (length j.words) j.layout
lies_there m job j h = lies_by (field_of key.Value job) m job j h

-- a job of bytes has room
pub has_room : (m : Module) (job : Data) (j : RunJob) → IsJobWith (from_bytes job) m job j → length j.words < 2 ^ 32 → All (λ (s : PlannedStore). s.word < length j.words) j.stores → HasRoom j
has_room m job j h few inside =
    let names = both_empty _ _ h.faultless in
    let stores = both_empty _ _ names.0 in
    let fields = both_empty _ _ stores.0 in
    let stretches = both_empty _ _ fields.1 in
    let lengths = both_empty _ _ stretches.0 in
    let field = field_of key.Stretches job in
    let there = lies_by None m job j h in
    record {
      words = few;
      over = there.over;
      ends = there.ends;
      long = there.long;
      limit = short field (length (given_bytes job)) j.length (subst (λ (n : Option ℕ). length_faults field (length (given_bytes job)) n ≡ []) h.as_long lengths.1);
      stores = inside;
    }

-- and so has a job of a value that isn't too long
pub written_room : (m : Module) (job value : Data) (j : RunJob) → IsJobWith (from_value m j.entry job value) m job j → j.length ≤ MOST_BYTES → All (λ (s : PlannedStore). s.word < length j.words) j.stores → HasRoom j
written_room m job value j h short inside =
    let there = lies_by (Some value) m job j h in
    let bytes = (from_value m j.entry job value).bytes in
    let long = same_Some (length bytes) j.length h.as_long in
    record {
      words = omega (arith, short, h.filled.count, long);
      over = there.over;
      ends = there.ends;
      long = there.long;
      limit = short;
      stores = inside;
    }
