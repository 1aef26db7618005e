-- The workers and guests of a host job, and what is wrong with them (own rule).
--
-- `workers` is a whole number (J2) of 1 to 16 (J8). `guests` is a list (J2) of 1 to 16 guests (J8). A guest is an object
-- (J2) with the field `script`, a list of steps (J2), and no other (J2).
use Rattle.std.specs.Prelude.{◌≡◌, ℕ, ◌+◌, ◌<◌, ◌||◌, ◌⊎◌, List, [], ◌∷◌, ◌++◌, length, nat_eq, nat_lt, Option, Some, None, option_and_then}
use Rattle.serde_json.specs.Data.{Data, Items, no_items, item, Members}
use Rattle.serde_json.specs.Events.{items_len}
use Rattle.serde_json.specs.Find.{as_array, as_object}
use Rattle.td_job_host.specs.Imports.{Key, JobError, Fault, Path, Step}
use Rattle.td_job.specs.declared.error.Key.TheVariants as key
use Rattle.td_job.specs.declared.error.JobRule.TheVariants as rule
use Rattle.td_job.specs.declared.error.Path.TheVariants as path
use Rattle.td_job.specs.Fields.{field_of, fault_if, IsFirst}
use Rattle.td_job.specs.Jobs.{first_unknown, unknown_faults}
use Rattle.td_posts.specs.declared.limits.TheConstants.{MOST_GUESTS, MOST_WORKERS}
use Rattle.td_job_host.specs.Steps.{each_step_faults, each_step}

-- the elements of a field; none where it is missing or no list
abbrev pub listed_in : Key → Data → Option Items
listed_in name job = option_and_then as_array (field_of name job)

abbrev pub workers_faults : Option ℕ → List JobError
workers_faults None = Fault rule.Form (path.Whole key.Workers) ∷ []
workers_faults (Some n) = fault_if (nat_eq n 0 || nat_lt MOST_WORKERS n) (Fault rule.Limit (path.Whole key.Workers))

abbrev pub script_faults : ℕ → ℕ → Option Items → List JobError
script_faults words guest None = Fault rule.Form (path.Script guest) ∷ []
script_faults words guest (Some values) = each_step_faults words guest 0 values

-- a guest with these members
abbrev pub object_faults : ℕ → ℕ → Data → Option Members → List JobError
object_faults words guest value None = Fault rule.Form (path.Element key.Guests guest) ∷ []
object_faults words guest value (Some members) =
    script_faults words guest (listed_in key.Script value) ++ unknown_faults (path.UnknownOf guest) (first_unknown (key.Script ∷ []) (Some members))

abbrev pub guest_faults : ℕ → ℕ → Data → List JobError
guest_faults words guest value = object_faults words guest value (as_object value)

abbrev pub each_guest_faults : ℕ → ℕ → Items → List JobError
each_guest_faults words guest no_items = []
each_guest_faults words guest (item value values) = guest_faults words guest value ++ each_guest_faults words (guest + 1) values

abbrev pub guests_faults : ℕ → Option Items → List JobError
guests_faults words None = Fault rule.Form (path.Whole key.Guests) ∷ []
guests_faults words (Some values) =
    fault_if (nat_eq (items_len values) 0 || nat_lt MOST_GUESTS (items_len values)) (Fault rule.Limit (path.Whole key.Guests)) ++ each_guest_faults words 0 values

-- the script of a guest, and those of all guests
abbrev pub listed_steps : Option Items → List Step
listed_steps None = []
listed_steps (Some values) = each_step values

abbrev pub given_script : Data → List Step
given_script value = listed_steps (listed_in key.Script value)

abbrev pub each_script : Items → List (List Step)
each_script no_items = []
each_script (item value values) = given_script value ∷ each_script values

abbrev pub listed_scripts : Option Items → List (List Step)
listed_scripts None = []
listed_scripts (Some values) = each_script values

abbrev pub given_guests : Data → List (List Step)
given_guests job = listed_scripts (listed_in key.Guests job)

-- the first of these faults is a field of another name, of the job, of a guest or of a ring: its line names it, so the name's bytes
-- are copied
pub record BeginsWithName (faults : List JobError) : Type 0 where
  pub name : List ℕ
  pub some : 0 < length name
  pub place : Path
  pub names : (place ≡ path.Unknown name) ⊎ ((i : ℕ) × ((place ≡ path.UnknownOf i name) ⊎ (place ≡ path.UnknownOfRing i name)))
  pub first : IsFirst faults (Fault rule.Form place)
