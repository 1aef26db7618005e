-- The stretches of a host job's posts are few, and at places of 64 bits.
use Rattle.std.proofs.Common.{ℕ, ◌+◌, ◌≤◌, List, [], ◌∷◌, length, Bool, true, false, Option, Some, None}
use Rattle.std.specs.List.{All}
use Rattle.std.specs.Prelude.{IfSome, if◌then◌else◌, bytes_eq, codes, option_and_then}
use Rattle.std.proofs.lemmas.List.Elements.{All-nil, All-cons, All-head, All-tail, All-append}
use Rattle.serde_json.specs.Data.{Data, Items, no_items, item}
use Rattle.serde_json.specs.Find.{as_str, as_array}
use Rattle.td_stream.specs.declared.layout.TheConstants.{MOST_STRETCHES}
use Rattle.td_report_facts.specs.Imports.{Stretch, Key, Step, Store, Post, Scatter, Mail}
use Rattle.td_job.specs.declared.error.Key.TheVariants as key
use Rattle.td_job.specs.Fields.{whole, field_of}
use Rattle.td_job.specs.Jobs.{spelled_word}
use Rattle.td_job.specs.Stretches.{each_stretch}
use Rattle.td_posts.specs.Posts.{mail, scattered, post_name, list_of, laid_at, mails_from, mails_of, all_mails}
use Rattle.td_job_host.specs.Steps.{are_stretches, SpelledScatter, spelled_store, spelled_post, spelled_scatter, by_verb, by_list, step_parts, spelled_step, store_with, step_in, each_step}
use Rattle.td_job_host.specs.Guests.{listed_in, listed_steps, given_script, each_script, listed_scripts, given_guests}
use Rattle.td_job_host.specs.HostJobs.{IsShort}
use Rattle.td_report_facts.specs.Laws.{AreSized}
use Rattle.td_report_facts.proofs.Reading.{Small, SmallItems, field_small, list_small, Low, stretches_low}

-- ---- steps

abbrev LowStep : Step → Type 0
LowStep (Store word value) = Unit {0}
LowStep (Post base size) = Unit {0}
LowStep (Scatter layout) = All Low layout

abbrev LowSteps : List Step → Type 0
LowSteps steps = All LowStep steps

value_low : (word : ℕ) (o : Option ℕ) → LowSteps (store_with word o)
value_low word None = All-nil LowStep
value_low word (Some value) = All-cons LowStep (Store word value) [] tt (All-nil LowStep)

store_low : (word : Option ℕ) (text : Option (List ℕ)) → LowSteps (step_in (spelled_store word text))
store_low None text = All-nil LowStep
store_low (Some word) None = All-nil LowStep
store_low (Some word) (Some text) = value_low word (spelled_word text)

post_low : (base size : Option ℕ) → LowSteps (step_in (spelled_post base size))
post_low None size = All-nil LowStep
post_low (Some base) None = All-nil LowStep
post_low (Some base) (Some size) = All-cons LowStep (Post base size) [] tt (All-nil LowStep)

scatter_low : (o : Option Items) → IfSome o SmallItems → LowSteps (step_in (spelled_scatter o))
scatter_low None h = All-nil LowStep
scatter_low (Some values) h = by (are_stretches values)
  where
    by : (b : Bool) → LowSteps (step_in (if b then Some (SpelledScatter (each_stretch values)) else None))
    by true = All-cons LowStep (Scatter (each_stretch values)) [] (stretches_low values h) (All-nil LowStep)
    by false = All-nil LowStep

verb_low : (verb : Option (List ℕ)) (a b : Data) → LowSteps (step_in (by_verb verb a b))
verb_low None a b = All-nil LowStep
verb_low (Some verb) a b = by (bytes_eq verb (codes "store")) (bytes_eq verb (codes "post"))
  where
    by : (x y : Bool) → LowSteps (step_in (if x then spelled_store (whole a) (as_str b) else if y then spelled_post (whole a) (whole b) else None))
    by true y = store_low (whole a) (as_str b)
    by false true = post_low (whole a) (whole b)
    by false false = All-nil LowStep

listed_low : (verb : Option (List ℕ)) (list : Data) → Small list → LowSteps (step_in (by_list verb list))
listed_low None list h = All-nil LowStep
listed_low (Some verb) list h = by (bytes_eq verb (codes "post"))
  where
    by : (x : Bool) → LowSteps (step_in (if x then spelled_scatter (as_array list) else None))
    by true = scatter_low (as_array list) (list_small list h)
    by false = All-nil LowStep

parts_low : (o : Option Items) → IfSome o SmallItems → LowSteps (step_in (option_and_then step_parts o))
parts_low None h = All-nil LowStep
parts_low (Some no_items) h = All-nil LowStep
parts_low (Some (item a no_items)) h = All-nil LowStep
parts_low (Some (item verb (item list no_items))) h = listed_low (as_str verb) list h.1.0
parts_low (Some (item verb (item a (item b no_items)))) h = verb_low (as_str verb) a b
parts_low (Some (item a (item b (item c (item d others))))) h = All-nil LowStep

steps_low : (values : Items) → SmallItems values → LowSteps (each_step values)
steps_low no_items h = All-nil LowStep
steps_low (item value values) h =
    All-append LowStep (step_in (spelled_step value)) (each_step values) (parts_low (as_array value) (list_small value h.0)) (steps_low values h.1)

-- ---- scripts

listed_small : (o : Option Data) → IfSome o Small → IfSome (option_and_then as_array o) SmallItems
listed_small None h = tt
listed_small (Some value) h = list_small value h

in_small : (k : Key) (d : Data) → Small d → IfSome (listed_in k d) SmallItems
in_small k d h = listed_small (field_of k d) (field_small k d h)

script_low : (o : Option Items) → IfSome o SmallItems → LowSteps (listed_steps o)
script_low None h = All-nil LowStep
script_low (Some values) h = steps_low values h

scripts_low : (values : Items) → SmallItems values → All LowSteps (each_script values)
scripts_low no_items h = All-nil LowSteps
scripts_low (item value values) h =
    All-cons LowSteps (given_script value) (each_script values) (script_low (listed_in key.Script value) (in_small key.Script value h.0)) (scripts_low values h.1)

guests_low : (o : Option Items) → IfSome o SmallItems → All LowSteps (listed_scripts o)
guests_low None h = All-nil LowSteps
guests_low (Some values) h = scripts_low values h

-- ---- posts

abbrev LowList : Option (List Stretch) → Type 0
LowList None = Unit {0}
LowList (Some layout) = All Low layout

abbrev LowMail : Mail → Type 0
LowMail m = LowList (list_of m)

mails_low : (g number made : ℕ) (steps : List Step) → LowSteps steps → All LowMail (mails_from g number made steps)
unfolding mails_from
mails_low g number made [] h = All-nil LowMail
mails_low g number made (Store word value ∷ steps) h = mails_low g number (made + 1) steps (All-tail LowStep (Store word value) steps h)
mails_low g number made (Post base size ∷ steps) h =
    All-cons LowMail (mail (post_name g number) made base size) (mails_from g (number + 1) made steps) tt (mails_low g (number + 1) made steps (All-tail LowStep (Post base size) steps h))
mails_low g number made (Scatter layout ∷ steps) h =
    All-cons LowMail (scattered (post_name g number) made layout) (mails_from g (number + 1) made steps)
    (All-head LowStep (Scatter layout) steps h)
    (mails_low g (number + 1) made steps (All-tail LowStep (Scatter layout) steps h))

all_mails_low : (g : ℕ) (scripts : List (List Step)) → All LowSteps scripts → All LowMail (all_mails g scripts)
unfolding all_mails
all_mails_low g [] h = All-nil LowMail
all_mails_low g (script ∷ scripts) h =
    All-append LowMail (mails_of g script) (all_mails (g + 1) scripts)
    (mails_low g 1 0 script (All-head LowSteps script scripts h))
    (all_mails_low (g + 1) scripts (All-tail LowSteps script scripts h))

list_sized : (base size : ℕ) (o : Option (List Stretch)) → LowList o → length (laid_at base size o) ≤ MOST_STRETCHES → AreSized o
list_sized base size None low few = tt
list_sized base size (Some layout) low few = record { few = few; places = low }

abbrev SizedMail : Mail → Type 0
SizedMail m = AreSized (list_of m)

mails_sized : (mails : List Mail) → All LowMail mails → All IsShort mails → All SizedMail mails
mails_sized [] low short = All-nil SizedMail
mails_sized (m ∷ mails) low short =
    All-cons SizedMail m mails
    (list_sized m.base m.length (list_of m) (All-head LowMail m mails low) (All-head IsShort m mails short).stretches)
    (mails_sized mails (All-tail LowMail m mails low) (All-tail IsShort m mails short))

-- the posts of a job whose numbers are of 64 bits
pub posts_sized : (job : Data) → Small job → All IsShort (all_mails 1 (given_guests job)) → All SizedMail (all_mails 1 (given_guests job))
posts_sized job small short = mails_sized (all_mails 1 (given_guests job)) (all_mails_low 1 (given_guests job) (guests_low (listed_in key.Guests job) (in_small key.Guests job small))) short
