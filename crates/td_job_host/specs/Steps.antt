-- The steps of a guest's script, as a host job spells them, and what is wrong with them (own rule).
--
-- A step is the list `["store", word, text]`, `["post", base, length]` or `["post", stretches]`: a word's number in the buffer
-- and the 16 hexadecimal digits of what is stored there; the number of a message's first word and the message's length in bytes;
-- or the list of the message's stretches, each `[place, size]` in bytes of the buffer.
use Rattle.std.specs.Prelude.{ℕ, ◌+◌, ◌*◌, List, [], ◌∷◌, ◌++◌, length, Bool, true, not, ◌&&◌, ◌||◌, nat_lt, nat_le, bytes_eq, if◌then◌else◌, Option, Some, None, option_and_then, is_some, codes}
use Rattle.serde_json.specs.Data.{Data, Items, no_items, item}
use Rattle.serde_json.specs.View.{items_view}
use Rattle.serde_json.specs.Find.{as_str, as_array}
use Rattle.td_job.specs.declared.checks.TheConstants.{MOST_BYTES}
use Rattle.td_job_host.specs.Imports.{JobError, Fault, Path, Stretch, Step, Store, Post, Scatter}
use Rattle.td_job.specs.declared.error.JobRule.TheVariants as rule
use Rattle.td_job.specs.declared.error.Path.TheVariants as path
use Rattle.td_job.specs.Fields.{whole, fault_if, fault_if_none}
use Rattle.td_job.specs.Jobs.{spelled_word}
use Rattle.td_job.specs.Stretches.{spelled_stretch, each_stretch}
use Rattle.td_stream.specs.declared.layout.TheConstants.{MOST_STRETCHES}
use Rattle.td_stream.specs.Layouts.{length_in}
use Rattle.td_posts.specs.Posts.{words_in}
use Rattle.td_job_host.specs.declared.steps.Spelled.{Spelled}
use Rattle.td_job_host.specs.declared.steps.Spelled.TheVariants as code

-- a step as a job spells it: a store of a text to a word, a post of a message that begins at a word, or a post of a message
-- that is these stretches
pub data SpelledStep : Type 0 where
  SpelledStore : ℕ → List ℕ → SpelledStep
  SpelledPost : ℕ → ℕ → SpelledStep
  SpelledScatter : List Stretch → SpelledStep

abbrev pub spelled_as : Spelled → SpelledStep
spelled_as (code.Store word text) = SpelledStore word text.now
spelled_as (code.Post base length) = SpelledPost base length
spelled_as (code.Scatter stretches) = SpelledScatter (each_stretch (items_view stretches.now))

-- by the parts after the verb, where each has its form
abbrev pub spelled_store : Option ℕ → Option (List ℕ) → Option SpelledStep
spelled_store None text = None
spelled_store (Some word) None = None
spelled_store (Some word) (Some text) = Some (SpelledStore word text)

abbrev pub spelled_post : Option ℕ → Option ℕ → Option SpelledStep
spelled_post None length = None
spelled_post (Some base) None = None
spelled_post (Some base) (Some length) = Some (SpelledPost base length)

-- each value spells a stretch
abbrev pub are_stretches : Items → Bool
are_stretches no_items = true
are_stretches (item value values) = is_some (spelled_stretch value) && are_stretches values

abbrev pub spelled_scatter : Option Items → Option SpelledStep
spelled_scatter None = None
spelled_scatter (Some values) = if are_stretches values then Some (SpelledScatter (each_stretch values)) else None

abbrev pub by_verb : Option (List ℕ) → Data → Data → Option SpelledStep
by_verb None a b = None
by_verb (Some verb) a b =
    if bytes_eq verb (codes "store") then spelled_store (whole a) (as_str b)
    else if bytes_eq verb (codes "post") then spelled_post (whole a) (whole b)
    else None

abbrev pub by_list : Option (List ℕ) → Data → Option SpelledStep
by_list None list = None
by_list (Some verb) list = if bytes_eq verb (codes "post") then spelled_scatter (as_array list) else None

abbrev pub step_parts : Items → Option SpelledStep
step_parts no_items = None
step_parts (item a no_items) = None
step_parts (item verb (item list no_items)) = by_list (as_str verb) list
step_parts (item verb (item a (item b no_items))) = by_verb (as_str verb) a b
step_parts (item a (item b (item c (item d others)))) = None

-- the step that a value spells; none where it has another form
abbrev pub spelled_step : Data → Option SpelledStep
spelled_step value = option_and_then step_parts (as_array value)

-- A store has the digits of a word (J5) and the number of a word of the buffer (J6).
abbrev pub store_faults : ℕ → Path → ℕ → List ℕ → List JobError
store_faults words place word text = fault_if_none (spelled_word text) (Fault rule.Digits place) ++ fault_if (nat_le words word) (Fault rule.NoWord place)

-- A message ends within the buffer (J7), and has at most a MiB (J8). Its words are those with a byte of it.
abbrev pub post_faults : ℕ → Path → ℕ → ℕ → List JobError
post_faults words place base length = fault_if (nat_lt words (base + words_in length)) (Fault rule.PastBytes place) ++ fault_if (nat_lt MOST_BYTES length) (Fault rule.Limit place)

-- every stretch is within so many words
abbrev pub are_within : ℕ → List Stretch → Bool
are_within words [] = true
are_within words (s ∷ layout) = nat_le (s.place + s.size) (8 * words) && are_within words layout

-- Each stretch of a message is within the words of the buffer (J7); there are at most 64, of at most a MiB in all (J8).
abbrev pub scatter_faults : ℕ → Path → List Stretch → List JobError
scatter_faults words place layout =
    fault_if (not (are_within words layout)) (Fault rule.PastBytes place)
    ++ fault_if (nat_lt MOST_STRETCHES (length layout) || nat_lt MOST_BYTES (length_in layout)) (Fault rule.Limit place)

-- A value that spells no step is a fault of its form (J2).
abbrev pub step_faults : ℕ → Path → Option SpelledStep → List JobError
step_faults words place None = Fault rule.Form place ∷ []
step_faults words place (Some (SpelledStore word text)) = store_faults words place word text
step_faults words place (Some (SpelledPost base length)) = post_faults words place base length
step_faults words place (Some (SpelledScatter layout)) = scatter_faults words place layout

-- the faults of a guest's steps, from step i on
abbrev pub each_step_faults : ℕ → ℕ → ℕ → Items → List JobError
each_step_faults words guest i no_items = []
each_step_faults words guest i (item value values) = step_faults words (path.Step guest i) (spelled_step value) ++ each_step_faults words guest (i + 1) values

-- the step of a value
abbrev pub store_with : ℕ → Option ℕ → List Step
store_with word None = []
store_with word (Some value) = Store word value ∷ []

abbrev pub store_in : ℕ → List ℕ → List Step
store_in word text = store_with word (spelled_word text)

abbrev pub post_in : ℕ → ℕ → List Step
post_in base length = Post base length ∷ []

abbrev pub scatter_in : List Stretch → List Step
scatter_in layout = Scatter layout ∷ []

abbrev pub step_in : Option SpelledStep → List Step
step_in None = []
step_in (Some (SpelledStore word text)) = store_in word text
step_in (Some (SpelledPost base length)) = post_in base length
step_in (Some (SpelledScatter layout)) = scatter_in layout

abbrev pub each_step : Items → List Step
each_step no_items = []
each_step (item value values) = step_in (spelled_step value) ++ each_step values
