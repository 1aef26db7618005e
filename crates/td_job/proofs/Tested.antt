-- A job whose fields were tested. Cited by other crates.
use Rattle.std.proofs.Common.{◌≡◌, List, [], ◌++◌, length, ◌⊎◌, inl, inr, Option, None, refl, ◌∙◌}
use Rattle.serde_json.specs.Data.{Data}
use Rattle.serde_json.specs.Find.{as_object}
use Rattle.td_job.specs.Imports.{Module, Entry}
use Rattle.td_core.specs.Entries.{entry_definition}
use Rattle.td_core.specs.Formed.{params_at, cells_at}
use Rattle.td_job.specs.declared.error.JobError.{JobError}
use Rattle.td_job.specs.declared.error.JobError.TheVariants.{NoMemory}
use Rattle.td_job.specs.declared.error.Key.TheVariants as key
use Rattle.td_job.specs.declared.error.Path.TheVariants as path
use Rattle.td_job.specs.Fields.{IsFirst, field_of, number_of, text_of}
use Rattle.td_job.specs.Values.{args_faults, cells_faults}
use Rattle.td_job.specs.Stretches.{stretches_faults}
use Rattle.td_job.proofs.Numbers.{first_of_more}
use Rattle.td_job.specs.Jobs.{bytes_faults, first_unknown, given_by, FirstFaultBy, faults_by, IsEntry, BeginsWell, EndsWell, given_bytes, job_words, length_faults, run_keys, stores_faults, unknown_faults}

-- of no faults none is the first
pub memory_alone : (faults : List JobError) (e : JobError) → faults ≡ [] → (e ≡ NoMemory) ⊎ IsFirst faults e → e ≡ NoMemory
memory_alone faults e none (inl memory) = memory
memory_alone faults e none (inr first) = let is = first.is in absurd (cc)

last_of : (a b c d e f g : List JobError) → a ≡ [] → b ≡ [] → c ≡ [] → d ≡ [] → e ≡ [] → f ≡ [] → a ++ b ++ (c ++ d ++ e) ++ f ++ g ≡ g
last_of a b c d e f g ha hb hc hd he hf = rw (ha, hb, hc, hd, he, hf) refl

second_first : (a b : List JobError) (e : JobError) → a ≡ [] → IsFirst b e → IsFirst (a ++ b) e
second_first a b e none first = record { others = first.others; is = rw none first.is }

at_args : (a b g s u : List JobError) (e : JobError) → IsFirst a e → IsFirst (a ++ b ++ g ++ s ++ u) e
at_args a b g s u e h = first_of_more (a ++ b ++ g ++ s) u e (first_of_more (a ++ b ++ g) s e (first_of_more (a ++ b) g e (first_of_more a b e h)))

at_cells : (a b g s u : List JobError) (e : JobError) → a ≡ [] → IsFirst b e → IsFirst (a ++ b ++ g ++ s ++ u) e
at_cells a b g s u e ha h = first_of_more (a ++ b ++ g ++ s) u e (first_of_more (a ++ b ++ g) s e (first_of_more (a ++ b) g e (second_first a b e ha h)))

at_message : (a b g s u : List JobError) (e : JobError) → a ≡ [] → b ≡ [] → IsFirst g e → IsFirst (a ++ b ++ g ++ s ++ u) e
at_message a b g s u e ha hb h = first_of_more (a ++ b ++ g ++ s) u e (first_of_more (a ++ b ++ g) s e (second_first (a ++ b) g e (rw (ha, hb) refl) h))

-- the first fault of the first fields is that of the job
module _ (o : Option Data) (m : Module) (job : Data) (entry : Entry) (e : JobError) (named : IsEntry m (text_of key.Entry job) entry) where
  abbrev in_args : List JobError
  in_args = args_faults (params_at (entry_definition m entry.number)) (field_of key.Args job)

  abbrev in_cells : List JobError
  in_cells = cells_faults (cells_at (entry_definition m entry.number)) (field_of key.Cells job)

  abbrev in_stores : List JobError
  in_stores = stores_faults (given_by o m entry job).words (field_of key.Stores job)

  abbrev in_names : List JobError
  in_names = unknown_faults path.Unknown (first_unknown run_keys (as_object job))

  pub args_first : IsFirst in_args e → FirstFaultBy (faults_by o) m job e
  args_first h = inr (entry, named, at_args in_args in_cells (given_by o m entry job).faults in_stores in_names e h)

  pub cells_first : in_args ≡ [] → IsFirst in_cells e → FirstFaultBy (faults_by o) m job e
  cells_first ha h = inr (entry, named, at_cells in_args in_cells (given_by o m entry job).faults in_stores in_names e ha h)

  pub message_first : in_args ≡ [] → in_cells ≡ [] → IsFirst (given_by o m entry job).faults e → FirstFaultBy (faults_by o) m job e
  message_first ha hb h = inr (entry, named, at_message in_args in_cells (given_by o m entry job).faults in_stores in_names e ha hb h)

-- the first fault of three lists
pub first_of_three : (a b c : List JobError) (e : JobError) → IsFirst a e → IsFirst (a ++ b ++ c) e
first_of_three a b c e h = first_of_more (a ++ b) c e (first_of_more a b e h)

pub second_of_three : (a b c : List JobError) (e : JobError) → a ≡ [] → IsFirst b e → IsFirst (a ++ b ++ c) e
second_of_three a b c e ha h = first_of_more (a ++ b) c e (second_first a b e ha h)

module _ (m : Module) (job : Data) (entry : Entry) (begins : BeginsWell m job entry) (ends : EndsWell job) where
  -- its faults are those of fields of other names
  unknown_alone : faults_by None m entry job ≡ unknown_faults path.Unknown (first_unknown run_keys (as_object job))
  unknown_alone =
      last_of (args_faults (params_at (entry_definition m entry.number)) (field_of key.Args job)) (cells_faults (cells_at (entry_definition m entry.number)) (field_of key.Cells job))
      (bytes_faults key.Bytes (text_of key.Bytes job)) (length_faults (field_of key.Stretches job) (length (given_bytes job)) (number_of key.Length job))
      (stretches_faults (length (given_bytes job)) (number_of key.Length job) (field_of key.Stretches job)) (stores_faults (job_words job) (field_of key.Stores job))
      (unknown_faults path.Unknown (first_unknown run_keys (as_object job))) begins.args begins.cells begins.bytes begins.within ends.stretches ends.stores

  pub unknown_first : (e : JobError) → IsFirst (unknown_faults path.Unknown (first_unknown run_keys (as_object job))) e → FirstFaultBy (faults_by None) m job e
  unknown_first e first = inr (entry, begins.named, record { others = first.others; is = unknown_alone ∙ first.is })

  pub none_unknown : unknown_faults path.Unknown (first_unknown run_keys (as_object job)) ≡ [] → faults_by None m entry job ≡ []
  none_unknown none = unknown_alone ∙ none
