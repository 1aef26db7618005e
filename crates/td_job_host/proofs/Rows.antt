-- Posts of lists of stretches worked out.
use Rattle.std.proofs.Common.{◌≡◌, ℕ, zero, suc, List, [], ◌∷◌, refl, codes}
use Rattle.serde_json.specs.Data.{Data, Items, no_items, item, array, number, string, unsigned}
use Rattle.td_job_host.specs.Imports.{JobError, Fault, Scatter, Stretch}
use Rattle.td_job.specs.declared.error.JobRule.TheVariants as rule
use Rattle.td_job.specs.declared.error.Path.TheVariants as path
use Rattle.td_job_host.specs.declared.totals.Total.TheVariants.{Words}
use Rattle.td_job_host.specs.Steps.{spelled_step, step_faults, step_in}
use Rattle.td_job_host.specs.Totals.{weight}

abbrev pair : ℕ → ℕ → Data
pair place size = array (item (number (unsigned place)) (item (number (unsigned size)) no_items))

abbrev copies : ℕ → Data → Items → Items
copies zero value others = others
copies (suc n) value others = item value (copies n value others)

abbrev post : Items → Data
post stretches = array (item (string (codes "post")) (item (array stretches) no_items))

-- what is wrong with it as the first step of the first guest, with a buffer of so many words
abbrev wrong : ℕ → Data → List JobError
wrong words value = step_faults words (path.Step 0 0) (spelled_step value)

abbrev stretch : ℕ → ℕ → Stretch
stretch place size = record { place = place; size = size }

row_good : wrong 3 (post (item (pair 16 8) (item (pair 0 16) no_items))) ≡ []
row_good = refl

row_step : step_in (spelled_step (post (item (pair 16 8) (item (pair 0 16) no_items)))) ≡ Scatter (stretch 16 8 ∷ stretch 0 16 ∷ []) ∷ []
row_step = refl

row_none : wrong 0 (post no_items) ≡ []
row_none = refl

-- a stretch past the words of the buffer, of bytes or of none; the bytes that fill the last word are within
row_past : wrong 3 (post (item (pair 17 8) no_items)) ≡ Fault rule.PastBytes (path.Step 0 0) ∷ []
row_past = refl

row_past_empty : wrong 3 (post (item (pair 25 0) no_items)) ≡ Fault rule.PastBytes (path.Step 0 0) ∷ []
row_past_empty = refl

row_end : wrong 3 (post (item (pair 24 0) no_items)) ≡ []
row_end = refl

row_many : wrong 3 (post (copies 65 (pair 0 0) no_items)) ≡ Fault rule.Limit (path.Step 0 0) ∷ []
row_many = refl

row_long : wrong 131072 (post (item (pair 0 1048576) (item (pair 0 1) no_items))) ≡ Fault rule.Limit (path.Step 0 0) ∷ []
row_long = refl

-- the lower code stands first
row_past_many : wrong 3 (post (copies 64 (pair 0 0) (item (pair 25 0) no_items))) ≡ Fault rule.PastBytes (path.Step 0 0) ∷ Fault rule.Limit (path.Step 0 0) ∷ []
row_past_many = refl

-- a list of another form is no step, whatever its stretches are
row_form : wrong 3 (post (item (pair 25 0) (item (number (unsigned 0)) no_items))) ≡ Fault rule.Form (path.Step 0 0) ∷ []
row_form = refl

-- an unaligned stretch has a word more, an empty one none
row_words : weight Words (Scatter (stretch 4 8184 ∷ stretch 4 0 ∷ [])) ≡ 1024
row_words = refl
