-- A host job without a fault can be served.
use Rattle.std.proofs.Common.{◌≡◌, ℕ, suc, ◌+◌, ◌<◌, ◌*◌, ◌≤◌, ◌^◌, List, [], ◌∷◌, length, false, not, ◌||◌, nat_eq, nat_lt, nat_le, Option, Some, None, Result, Ok, Err, refl, sym, ap, subst, ◌∙◌, arith, length-append}
use Rattle.std.proofs.lemmas.Bool.Decides.{nat_tests}
use Rattle.std.proofs.lemmas.List.Elements.{All-nil, All-cons, All-append, All-head, All-tail}
use Rattle.std.proofs.lemmas.List.Sums.{sum_by-append, sum_by-cons}
use Rattle.std.specs.List.{All, sum_by}
use Rattle.std.specs.Prelude.{IfOk, option_and_then}
use Rattle.serde_json.specs.Data.{Data, Items, no_items, item, Members}
use Rattle.serde_json.specs.Events.{items_len}
use Rattle.serde_json.specs.Find.{as_object, as_array}
use Rattle.td_job_host.specs.Imports.{Module, JobError, Fault, Path, HostJob, Step, Store, Post, Scatter, Mail, RingJob, Stretch}
use Rattle.td_core.specs.Entries.{entry_definition}
use Rattle.td_job.specs.declared.checks.TheConstants.{MOST_BYTES}
use Rattle.td_job.specs.declared.error.Key.TheVariants as key
use Rattle.td_job.specs.declared.error.JobRule.TheVariants as rule
use Rattle.td_job.specs.declared.error.Path.TheVariants as path
use Rattle.td_job.specs.Fields.{fault_if, field_of, text_of, number_of}
use Rattle.td_job.specs.Jobs.{spelled_word}
use Rattle.td_job.proofs.Numbers.{both_empty, not_over}
use Rattle.td_posts.specs.declared.limits.TheConstants.{MOST_GUESTS, MOST_WORKERS, MOST_SWAPS, MOST_POSTS, MOST_STORES, MOST_MESSAGE_WORDS, MOST_COPIED_BYTES}
use Rattle.td_stream.specs.declared.layout.TheConstants.{MOST_STRETCHES}
use Rattle.td_stream.specs.Layouts.{length_in, count_in, AreWithin}
use Rattle.td_stream.proofs.Plain.{slot_count, slot_within}
use Rattle.td_posts.specs.Posts.{layout_of, words_in, mail, scattered, post_name, mails_from, mails_of, all_mails, stores_of, all_stores}
use Rattle.td_posts.specs.Servable.{job_mails, room_in, copied_bytes, IsServable}
use Rattle.td_job_host.specs.declared.totals.Total.{Total}
use Rattle.td_job_host.specs.declared.totals.Total.TheVariants.{Posts, Stores, Words, Copies}
use Rattle.td_job_host.specs.Steps.{SpelledStep, SpelledStore, SpelledPost, SpelledScatter, are_within, spelled_step, step_faults, each_step_faults, store_with, step_in, each_step}
use Rattle.td_job_host.specs.Guests.{listed_in, workers_faults, script_faults, object_faults, guest_faults, each_guest_faults, guests_faults, listed_steps, given_script, each_script, listed_scripts, given_guests}
use Rattle.td_job_host.specs.Rings.{rings_faults, given_rings}
use Rattle.td_job_host.specs.Swaps.{swap_list_faults, swaps_faults, items_or_none, given_swaps}
use Rattle.td_job_host.specs.Totals.{weight, most_of, key_of, total, total_fault}
use Rattle.td_job_host.specs.HostJobs.{buffer_words, rooms_in, IsHost, IsHostJob, IsShort, HasShortMessages}
use Rattle.td_job_host.specs.Laws.{HostJobsKeepLimits}
use Rattle.td_job_host.proofs.CopyTotals.{copies_total}
use Rattle.td_job_host.proofs.Placed.{FewRings, rings_within, ring_words_counted}
use Rattle.td_job_host.proofs.Swapping.{as_many_formats}
use Rattle.td_job_host.proofs.Versions.{host_values, all_fit}
use Rattle.td_job_host.proofs.Scattering.{all_within, not_outside}

-- ---- steps within the buffer

-- a message within a buffer of so many words, of at most a MiB and of few stretches
record LiesInside (words : ℕ) (layout : List Stretch) : Type 0 where
  within : AreWithin words layout
  short : length_in layout ≤ MOST_BYTES
  few : length layout ≤ MOST_STRETCHES

-- a step within such a buffer
abbrev IsInside : ℕ → Step → Type 0
IsInside words (Store word value) = word < words
IsInside words (Post base size) = LiesInside words ((record { place = 8 * base; size = size }) ∷ [])
IsInside words (Scatter layout) = LiesInside words layout

store_inside : (words word : ℕ) (value : Option ℕ) → word < words → All (IsInside words) (store_with word value)
store_inside words word None h = All-nil (IsInside words)
store_inside words word (Some value) h = All-cons (IsInside words) (Store word value) [] h (All-nil (IsInside words))

step_inside : (words : ℕ) (place : Path) (step : Option SpelledStep) → step_faults words place step ≡ [] → All (IsInside words) (step_in step)
step_inside words place None h = All-nil (IsInside words)
step_inside words place (Some (SpelledStore word text)) h =
    let both = both_empty _ _ h in
    let here : nat_le words word ≡ false = not_over (nat_le words word) (Fault rule.NoWord place) both.1 in
    store_inside words word (spelled_word text) (grind (arith, nat_tests, here))
step_inside words place (Some (SpelledPost base size)) h =
    let both = both_empty (fault_if (nat_lt words (base + words_in size)) (Fault rule.PastBytes place)) (fault_if (nat_lt MOST_BYTES size) (Fault rule.Limit place)) h in
    let here : nat_lt words (base + words_in size) ≡ false = not_over _ (Fault rule.PastBytes place) both.0 in
    let few : nat_lt MOST_BYTES size ≡ false = not_over _ (Fault rule.Limit place) both.1 in
    let within : base + words_in size ≤ words = grind (arith, nat_tests, here) in
    let short : size ≤ MOST_BYTES = grind (arith, nat_tests, few) in
    All-cons (IsInside words) (Post base size) [] (record { within = slot_within words base size within; short = omega (arith, short); few = omega arith }) (All-nil (IsInside words))
step_inside words place (Some (SpelledScatter layout)) h =
    let many = nat_lt MOST_STRETCHES (length layout) || nat_lt MOST_BYTES (length_in layout) in
    let both = both_empty (fault_if (not (are_within words layout)) (Fault rule.PastBytes place)) (fault_if many (Fault rule.Limit place)) h in
    let here = not_outside (are_within words layout) (not_over _ (Fault rule.PastBytes place) both.0) in
    let few : many ≡ false = not_over _ (Fault rule.Limit place) both.1 in
    let lies : LiesInside words layout = record {
      within = all_within words layout here;
      short = grind (arith, nat_tests, few);
      few = grind (arith, nat_tests, few);
    } in
    All-cons (IsInside words) (Scatter layout) [] lies (All-nil (IsInside words))

steps_inside : (words guest i : ℕ) (values : Items) → each_step_faults words guest i values ≡ [] → All (IsInside words) (each_step values)
steps_inside words guest i no_items h = All-nil (IsInside words)
steps_inside words guest i (item value values) h =
    let both = both_empty _ _ h in
    All-append (IsInside words) (step_in (spelled_step value)) (each_step values)
    (step_inside words (path.Step guest i) (spelled_step value) both.0)
    (steps_inside words guest (i + 1) values both.1)

-- a script of such steps
abbrev AreInside : ℕ → List Step → Type 0
AreInside words steps = All (IsInside words) steps

listed_inside : (words guest : ℕ) (values : Option Items) → script_faults words guest values ≡ [] → AreInside words (listed_steps values)
listed_inside words guest None h = All-nil (IsInside words)
listed_inside words guest (Some values) h = steps_inside words guest 0 values h

guest_inside : (words guest : ℕ) (value : Data) → guest_faults words guest value ≡ [] → AreInside words (given_script value)
guest_inside words guest value h = by_members (as_object value) h
  where
    by_members : (o : Option Members) → object_faults words guest value o ≡ [] → AreInside words (given_script value)
    by_members None h = absurd (cc)
    by_members (Some ms) h = let both = both_empty _ _ h in listed_inside words guest (listed_in key.Script value) both.0

scripts_inside : (words guest : ℕ) (values : Items) → each_guest_faults words guest values ≡ [] → All (AreInside words) (each_script values)
scripts_inside words guest no_items h = All-nil (AreInside words)
scripts_inside words guest (item value values) h =
    let both = both_empty _ _ h in
    All-cons (AreInside words) (given_script value) (each_script values) (guest_inside words guest value both.0) (scripts_inside words (guest + 1) values both.1)

as_many : (values : Items) → length (each_script values) ≡ items_len values
as_many no_items = refl
as_many (item value values) = ap suc (as_many values)

record FewGuests (words : ℕ) (guests : List (List Step)) : Type 0 where
  some : 0 < length guests
  few : length guests ≤ MOST_GUESTS
  inside : All (AreInside words) guests

between : (n most : ℕ) (e : JobError) → fault_if (nat_eq n 0 || nat_lt most n) e ≡ [] → (0 < n) × (n ≤ most)
between n most e h =
    let none = not_over (nat_eq n 0 || nat_lt most n) e h in
    (grind (arith, nat_tests, none), grind (arith, nat_tests, none))

guests_inside : (words : ℕ) (values : Option Items) → guests_faults words values ≡ [] → FewGuests words (listed_scripts values)
guests_inside words None h = absurd (cc)
guests_inside words (Some values) h =
    let both = both_empty _ _ h in
    let count = between (items_len values) MOST_GUESTS (Fault rule.Limit (path.Whole key.Guests)) both.0 in
    let many = as_many values in
    record { some = omega (arith, count, many); few = omega (arith, count, many); inside = scripts_inside words 0 values both.1 }

some_workers : (number : Option ℕ) (n : ℕ) → number ≡ Some n → workers_faults number ≡ [] → (0 < n) × (n ≤ MOST_WORKERS)
some_workers number n same h = between n MOST_WORKERS (Fault rule.Limit (path.Whole key.Workers)) (ap workers_faults (sym same) ∙ h)

-- ---- posts and stores of scripts

posts_counted : (g number made : ℕ) (steps : List Step) → length (mails_from g number made steps) ≡ sum_by (weight Posts) steps
unfolding mails_from
posts_counted g number made [] = refl
posts_counted g number made (Store word value ∷ steps) =
    let later = posts_counted g number (made + 1) steps in
    let here : sum_by (weight Posts) (Store word value ∷ steps) ≡ 0 + sum_by (weight Posts) steps = sum_by-cons (weight Posts) (Store word value) steps in
    omega (arith, later, here)
posts_counted g number made (Post base size ∷ steps) =
    let later = posts_counted g (number + 1) made steps in
    let here : sum_by (weight Posts) (Post base size ∷ steps) ≡ 1 + sum_by (weight Posts) steps = sum_by-cons (weight Posts) (Post base size) steps in
    omega (arith, later, here)
posts_counted g number made (Scatter layout ∷ steps) =
    let later = posts_counted g (number + 1) made steps in
    let here : sum_by (weight Posts) (Scatter layout ∷ steps) ≡ 1 + sum_by (weight Posts) steps = sum_by-cons (weight Posts) (Scatter layout) steps in
    omega (arith, later, here)

stores_counted : (steps : List Step) → length (stores_of steps) ≡ sum_by (weight Stores) steps
unfolding stores_of
stores_counted [] = refl
stores_counted (Store word value ∷ steps) =
    let later = stores_counted steps in
    let here : sum_by (weight Stores) (Store word value ∷ steps) ≡ 1 + sum_by (weight Stores) steps = sum_by-cons (weight Stores) (Store word value) steps in
    omega (arith, later, here)
stores_counted (Post base size ∷ steps) =
    let later = stores_counted steps in
    let here : sum_by (weight Stores) (Post base size ∷ steps) ≡ 0 + sum_by (weight Stores) steps = sum_by-cons (weight Stores) (Post base size) steps in
    omega (arith, later, here)
stores_counted (Scatter layout ∷ steps) =
    let later = stores_counted steps in
    let here : sum_by (weight Stores) (Scatter layout ∷ steps) ≡ 0 + sum_by (weight Stores) steps = sum_by-cons (weight Stores) (Scatter layout) steps in
    omega (arith, later, here)

abbrev mail_words : Mail → ℕ
mail_words m = count_in (layout_of m)

words_counted : (g number made : ℕ) (steps : List Step) → sum_by mail_words (mails_from g number made steps) ≡ sum_by (weight Words) steps
unfolding mails_from
words_counted g number made [] = refl
words_counted g number made (Store word value ∷ steps) =
    let later = words_counted g number (made + 1) steps in
    let here : sum_by (weight Words) (Store word value ∷ steps) ≡ 0 + sum_by (weight Words) steps = sum_by-cons (weight Words) (Store word value) steps in
    omega (arith, later, here)
words_counted g number made (Post base size ∷ steps) =
    let here = mail (post_name g number) made base size in
    sum_by-cons mail_words here (mails_from g (number + 1) made steps)
    ∙ ap (λ n. n + sum_by mail_words (mails_from g (number + 1) made steps)) (slot_count base size)
    ∙ ap (λ n. words_in size + n) (words_counted g (number + 1) made steps)
    ∙ sym (sum_by-cons (weight Words) (Post base size) steps)
words_counted g number made (Scatter layout ∷ steps) =
    let here = scattered (post_name g number) made layout in
    sum_by-cons mail_words here (mails_from g (number + 1) made steps)
    ∙ ap (λ n. count_in layout + n) (words_counted g (number + 1) made steps)
    ∙ sym (sum_by-cons (weight Words) (Scatter layout) steps)

all_posts_counted : (g : ℕ) (scripts : List (List Step)) → length (all_mails g scripts) ≡ sum_by (sum_by (weight Posts)) scripts
unfolding all_mails
all_posts_counted g [] = refl
all_posts_counted g (script ∷ scripts) =
    length-append (mails_of g script) (all_mails (g + 1) scripts)
    ∙ ap (λ n. n + length (all_mails (g + 1) scripts)) (posts_counted g 1 0 script)
    ∙ ap (λ n. sum_by (weight Posts) script + n) (all_posts_counted (g + 1) scripts)
    ∙ sym (sum_by-cons (sum_by (weight Posts)) script scripts)

all_words_counted : (g : ℕ) (scripts : List (List Step)) → sum_by mail_words (all_mails g scripts) ≡ sum_by (sum_by (weight Words)) scripts
unfolding all_mails
all_words_counted g [] = refl
all_words_counted g (script ∷ scripts) =
    sum_by-append mail_words (mails_of g script) (all_mails (g + 1) scripts)
    ∙ ap (λ n. n + sum_by mail_words (all_mails (g + 1) scripts)) (words_counted g 1 0 script)
    ∙ ap (λ n. sum_by (weight Words) script + n) (all_words_counted (g + 1) scripts)
    ∙ sym (sum_by-cons (sum_by (weight Words)) script scripts)

all_stores_counted : (scripts : List (List Step)) → length (all_stores scripts) ≡ sum_by (sum_by (weight Stores)) scripts
unfolding all_stores
all_stores_counted [] = refl
all_stores_counted (script ∷ scripts) =
    length-append (stores_of script) (all_stores scripts)
    ∙ ap (λ n. n + length (all_stores scripts)) (stores_counted script)
    ∙ ap (λ n. sum_by (weight Stores) script + n) (all_stores_counted scripts)
    ∙ sym (sum_by-cons (sum_by (weight Stores)) script scripts)

few_enough : (what : Total) (guests : List (List Step)) (rings : List RingJob) → total_fault what guests rings ≡ [] → total what guests rings ≤ most_of what
few_enough what guests rings h =
    let few = not_over (nat_lt (most_of what) (total what guests rings)) (Fault rule.Limit (path.Whole (key_of what))) h in
    grind (arith, nat_tests, few)

-- ---- what holds of each step holds of each post and store

abbrev MailInside : ℕ → Mail → Type 0
MailInside words m = LiesInside words (layout_of m)

mails_inside : (words g number made : ℕ) (steps : List Step) → AreInside words steps → All (MailInside words) (mails_from g number made steps)
unfolding mails_from
mails_inside words g number made [] h = All-nil (MailInside words)
mails_inside words g number made (Store word value ∷ steps) h = mails_inside words g number (made + 1) steps (All-tail (IsInside words) (Store word value) steps h)
mails_inside words g number made (Post base size ∷ steps) h =
    All-cons (MailInside words) (mail (post_name g number) made base size) (mails_from g (number + 1) made steps)
    (All-head (IsInside words) (Post base size) steps h)
    (mails_inside words g (number + 1) made steps (All-tail (IsInside words) (Post base size) steps h))
mails_inside words g number made (Scatter layout ∷ steps) h =
    All-cons (MailInside words) (scattered (post_name g number) made layout) (mails_from g (number + 1) made steps)
    (All-head (IsInside words) (Scatter layout) steps h)
    (mails_inside words g (number + 1) made steps (All-tail (IsInside words) (Scatter layout) steps h))

all_mails_inside : (words g : ℕ) (scripts : List (List Step)) → All (AreInside words) scripts → All (MailInside words) (all_mails g scripts)
unfolding all_mails
all_mails_inside words g [] h = All-nil (MailInside words)
all_mails_inside words g (script ∷ scripts) h =
    All-append (MailInside words) (mails_of g script) (all_mails (g + 1) scripts)
    (mails_inside words g 1 0 script (All-head (AreInside words) script scripts h))
    (all_mails_inside words (g + 1) scripts (All-tail (AreInside words) script scripts h))

abbrev StoreInside : ℕ → ℕ × ℕ → Type 0
StoreInside words s = s.0 < words

stored_inside : (words : ℕ) (steps : List Step) → AreInside words steps → All (StoreInside words) (stores_of steps)
unfolding stores_of
stored_inside words [] h = All-nil (StoreInside words)
stored_inside words (Store word value ∷ steps) h =
    All-cons (StoreInside words) (word, value) (stores_of steps)
    (All-head (IsInside words) (Store word value) steps h)
    (stored_inside words steps (All-tail (IsInside words) (Store word value) steps h))
stored_inside words (Post base size ∷ steps) h = stored_inside words steps (All-tail (IsInside words) (Post base size) steps h)
stored_inside words (Scatter layout ∷ steps) h = stored_inside words steps (All-tail (IsInside words) (Scatter layout) steps h)

all_stored_inside : (words : ℕ) (scripts : List (List Step)) → All (AreInside words) scripts → All (StoreInside words) (all_stores scripts)
unfolding all_stores
all_stored_inside words [] h = All-nil (StoreInside words)
all_stored_inside words (script ∷ scripts) h =
    All-append (StoreInside words) (stores_of script) (all_stores scripts)
    (stored_inside words script (All-head (AreInside words) script scripts h))
    (all_stored_inside words scripts (All-tail (AreInside words) script scripts h))

all_of : {A : Type 0} (P Q : A → Type 0) → ((a : A) → P a → Q a) → (xs : List A) → All P xs → All Q xs
all_of P Q each [] h = All-nil Q
all_of P Q each (x ∷ xs) h = All-cons Q x xs (each x (All-head P x xs h)) (all_of P Q each xs (All-tail P x xs h))

-- ---- jobs

record Parts (m : Module) (job : Data) (j : HostJob) : Type 0 where
  workers : (0 < j.workers) × (j.workers ≤ MOST_WORKERS)
  guests : FewGuests (length j.words) j.guests
  rings : FewRings (length j.words) j.rings
  posts : total Posts j.guests j.rings ≤ MOST_POSTS
  stores : total Stores j.guests j.rings ≤ MOST_STORES
  words : total Words j.guests j.rings ≤ MOST_MESSAGE_WORDS
  copies : total (Copies (room_in j.rooms)) j.guests j.rings ≤ MOST_COPIED_BYTES
  swaps : items_len (given_swaps job) ≤ MOST_SWAPS

-- of few swaps
few_swaps : (value : Option Data) → swaps_faults value ≡ [] → items_len (items_or_none (option_and_then as_array value)) ≤ MOST_SWAPS
few_swaps None h = omega arith
few_swaps (Some value) h = by_list (as_array value) h
  where
    by_list : (list : Option Items) → swap_list_faults list ≡ [] → items_len (items_or_none list) ≤ MOST_SWAPS
    by_list None h = absurd (cc)
    by_list (Some values) h = let few = not_over (nat_lt MOST_SWAPS (items_len values)) (Fault rule.Limit (path.Whole key.Swaps)) h in grind (arith, nat_tests, few)

parts_of : (m : Module) (job : Data) (j : HostJob) → IsHost m job j → Parts m job j
parts_of m job j h =
    let list = both_empty _ _ h.before in
    let rings = both_empty _ _ list.0 in
    let guests = both_empty _ _ rings.0 in
    let workers = both_empty _ _ guests.0 in
    let after = both_empty _ _ h.after in
    let copies = both_empty _ _ after.1 in
    let words = both_empty _ _ copies.0 in
    let stores = both_empty _ _ words.0 in
    let of : (n : ℕ) (gs : List (List Step)) → n ≡ length j.words → gs ≡ j.guests → FewGuests n gs → FewGuests (length j.words) j.guests =
    λ n gs hn hg few. subst (λ g. FewGuests (length j.words) g) hg (subst (λ k. FewGuests k gs) hn few) in
    let P : Total → Type 0 = λ what. total what j.guests j.rings ≤ most_of what in
    let enough : (what : Total) → total_fault what (given_guests job) (given_rings job) ≡ [] → P what =
    λ what none.
    subst (λ (gs : List (List Step)). total what gs j.rings ≤ most_of what) (sym h.scripted)
    (subst (λ (rs : List RingJob). total what (given_guests job) rs ≤ most_of what) (sym h.looked_at) (few_enough what (given_guests job) (given_rings job) none)) in
    let placed : FewRings (buffer_words job) (given_rings job) = rings_within (buffer_words job) (field_of key.Rings job) rings.1 in
    record {
      workers = some_workers (number_of key.Workers job) j.workers h.worked workers.1;
      guests = of (buffer_words job) (given_guests job) (sym h.filled.count) (sym h.scripted) (guests_inside (buffer_words job) (listed_in key.Guests job) guests.1);
      rings = subst (λ (rs : List RingJob). FewRings (length j.words) rs) (sym h.looked_at) (subst (λ (n : ℕ). FewRings n (given_rings job)) (sym h.filled.count) placed);
      posts = enough Posts stores.0;
      stores = enough Stores stores.1;
      words = enough Words words.1;
      copies = subst (λ (rooms : List ℕ). total (Copies (room_in rooms)) j.guests j.rings ≤ MOST_COPIED_BYTES) (sym h.roomy) (enough (Copies (room_in (rooms_in (entry_definition m h.entry.number)))) copies.1);
      swaps = few_swaps (field_of key.Swaps job) list.1;
    }

versions_of : (m : Module) (job : Data) (j : HostJob) → IsHost m job j → length j.formats ≡ suc (items_len (given_swaps job))
versions_of m job j h =
    ap (length {A = Module}) h.by ∙ ap suc (as_many_formats m h.entry (text_of key.Entry job) (given_swaps job) h.formats h.entries h.swaps)

servable : (m : Module) (job : Data) (j : HostJob) → IsHost m job j → length j.words < 2 ^ 32 → (0 < length j.rings → 8 * length j.words < 2 ^ 32) → IsServable j
servable m job j h small bytes =
    let parts = parts_of m job j h in
    let n = length j.words in
    let inside = parts.guests.inside in
    let versions = versions_of m job j h in
    record {
      some_version = omega (arith, versions);
      few_versions = let few = parts.swaps in omega (arith, versions, few);
      as_many = (host_values m job j h).as_many;
      some_worker = parts.workers.0;
      few_workers = parts.workers.1;
      some_guest = parts.guests.some;
      few_guests = parts.guests.few;
      few_words = small;
      few_posts = let counted = all_posts_counted 1 j.guests in let few = parts.posts in omega (arith, counted, few);
      few_stores = let counted = all_stores_counted j.guests in let few = parts.stores in omega (arith, counted, few);
      few_rings = parts.rings.few;
      few_message_words =
          let mails = all_words_counted 1 j.guests in
          let rings = ring_words_counted j.rings in
          let few = parts.words in
          omega (arith, mails, rings, few);
      few_copies =
          let room = room_in j.rooms in
          let takes = sum_by (λ (ring : RingJob). ring.takes) j.rings in
          let counted : total (Copies room) j.guests j.rings ≡ copied_bytes j = copies_total room j.guests j.rings ∙ ap (λ n. (n + takes) * room) (sym (all_posts_counted 1 j.guests)) in
          subst (λ (n : ℕ). n ≤ MOST_COPIED_BYTES) counted parts.copies;
      stores_inside = all_stored_inside n j.guests inside;
      messages_inside = all_of (MailInside n) (λ (m : Mail). AreWithin n (layout_of m)) (λ m lies. lies.within) (job_mails j) (all_mails_inside n 1 j.guests inside);
      rings_inside = parts.rings.within;
      few_bytes = bytes;
    }

-- a host can serve what is read
pub are_servable : (bytes : List ℕ) (m : Module) (answer : Result HostJob JobError) → IfOk answer (IsHostJob bytes m) → IfOk answer (λ j. length j.words < 2 ^ 32)
    → IfOk answer (λ j. 0 < length j.rings → 8 * length j.words < 2 ^ 32) → IfOk answer IsServable
are_servable bytes m (Ok j) h small few = servable m h.0 j h.2 small few
are_servable bytes m (Err e) h small few = tt

-- its messages are short and of few stretches
short_messages : (m : Module) (job : Data) (j : HostJob) → IsHost m job j → HasShortMessages j
short_messages m job j h =
    let n = length j.words in
    let inside = all_mails_inside n 1 j.guests (parts_of m job j h).guests.inside in
    all_of (MailInside n) IsShort (λ mail lies. record { bytes = lies.short; stretches = lies.few }) (job_mails j) inside

pub are_short : (bytes : List ℕ) (m : Module) (answer : Result HostJob JobError) → IfOk answer (IsHostJob bytes m) → IfOk answer HasShortMessages
are_short bytes m (Ok j) h = short_messages m h.0 j h.2
are_short bytes m (Err e) h = tt

pub keep_limits : HostJobsKeepLimits
keep_limits bytes m j h =
    let parts = parts_of m h.0 j h.2 in
    let versions = versions_of m h.0 j h.2 in
    record {
      few_versions = let few = parts.swaps in omega (arith, versions, few);
      values = all_fit bytes m (Ok j) h;
      short = short_messages m h.0 j h.2;
      few_guests = parts.guests.few;
      few_posts = let counted = all_posts_counted 1 j.guests in let few = parts.posts in omega (arith, counted, few);
      few_rings = parts.rings.few;
      rings = parts.rings.within;
    }
