-- The message of a job lies in words that are the job's, and each load of it is of a word that a report can name. Cited by other crates.
use Rattle.std.proofs.Common.{◌≡◌, ℕ, ◌<◌, ◌≤◌, List, length, subst, sym, Option, Some, None}
use Rattle.std.specs.List.{All}
use Rattle.std.proofs.lemmas.List.Elements.{All-weaker}
use Rattle.td_report_facts.specs.Imports.{Load, Stretch, RunJob}
use Rattle.td_stream.specs.Layouts.{count_in, loadable, layout_or_plain, plain, IsNumberOf, IsOver}
use Rattle.td_stream.specs.Loads.{Inside}
use Rattle.td_job.specs.Jobs.{HasRoom}

-- the message lies in words that are the job's, by a layout that is
pub ends_with : (job : RunJob) (layout : Option (List Stretch)) (words : List ℕ) → layout ≡ job.layout → words ≡ job.words → HasRoom job → count_in (layout_or_plain job.length layout) ≤ loadable layout (length words)
ends_with job layout words p q room =
    subst (λ (l : Option (List Stretch)). count_in (layout_or_plain job.length l) ≤ loadable l (length words)) (sym p)
    (subst (λ (w : List ℕ). count_in (layout_or_plain job.length job.layout) ≤ loadable job.layout (length w)) (sym q) room.ends)

pub over_with : (job : RunJob) (layout : Option (List Stretch)) (words : List ℕ) → layout ≡ job.layout → words ≡ job.words → HasRoom job → IsOver (length words) layout
over_with job layout words p q room =
    subst (λ (l : Option (List Stretch)). IsOver (length words) l) (sym p) (subst (λ (w : List ℕ). IsOver (length w) job.layout) (sym q) room.over)

-- each load of a run is of a word that its report can name
pub numbered : (n : ℕ) (layout : Option (List Stretch)) (loads : List Load) → Inside (layout_or_plain n layout) loads → All (λ (l : Load). IsNumberOf layout l.word) loads
numbered n None loads h = All-weaker (λ (l : Load). l.word < count_in (plain n)) (λ (l : Load). Unit {0}) (λ l inside. tt) loads h
numbered n (Some layout) loads h = h
