-- In a module that was checked, each expression that a run of a good job evaluates lies in its type's range. Cited by other crates.
use Rattle.std.proofs.Common.{◌≡◌, ℕ, ◌<◌, ◌^◌, List, length, Some, inl, inr, subst, sym, arith}
use Rattle.std.specs.Prelude.{slice_get}
use Rattle.std.specs.List.{All}
use Rattle.std.proofs.lemmas.List.Elements.{All-weaker}
use Rattle.std.proofs.lemmas.Option.{slice_get_within, get_or_from_slice_get}
use Rattle.td_cli_input.specs.Imports.{Module, RunJob, HostJob}
use Rattle.td_core.specs.Entries.{entry_definition}
use Rattle.td_core.specs.Formed.{AllFit, cells_at}
use Rattle.td_arith.specs.Laws.{EvaluatedIsSound}
use Rattle.td_front.specs.Checked.{IsChecked}
use Rattle.td_front.specs.Laws.{ModulesAreChecked}
use Rattle.td_job.specs.Jobs.{HasValues}
use Rattle.td_posts.specs.Posts.{zeros}
use Rattle.td_job_host.proofs.Zeros.{zeros_fit}
use Rattle.td_job_host.specs.HostJobs.{IsOrStands, HasHostValues}
use Rattle.td_cli_input.specs.Inputs.{IsSoundJob, IsSoundHost, FitsEntry, FitsVersions}
use Rattle.td_arith.proofs.Entering.{entry_is_sound}

pub sound_job : (m : Module) (job : RunJob) → EvaluatedIsSound → IsChecked m → job.entry.number < length m.entries → HasValues m job → job.length < 2 ^ 32 → IsSoundJob m job
sound_job m job law checked inside values short = λ b bytes same.
    entry_is_sound m job.entry job.args job.cells law checked.formed checked.copying checked.safe checked.whole inside values.args values.cells b bytes (let n : length b ≡ job.length = same in omega arith)

-- each version of a host job is the input's module, which was checked, or a module for which a text stands
pub all_checked : (m : Module) → IsChecked m → ModulesAreChecked → (formats : List Module) → All (IsOrStands m) formats → All IsChecked formats
all_checked m checked law formats stand = All-weaker (IsOrStands m) IsChecked (λ f h. one_checked f h) formats stand
  where
    one_checked : (f : Module) → IsOrStands m f → IsChecked f
    one_checked f (inl is) = subst IsChecked (sym is) checked
    one_checked f (inr stands) = law stands.0 f stands.1

-- what is said of all modules is said of a version's
pub at_version : (formats : List Module) (n : ℕ) (f : Module) → All IsChecked formats → slice_get formats n ≡ Some f → IsChecked f
at_version formats n f all is = subst IsChecked (get_or_from_slice_get formats n f f is) (all n f (slice_get_within formats n f is))

pub sound_host : (m : Module) (job : HostJob) → EvaluatedIsSound → All IsChecked job.formats → HasHostValues m job → IsSoundHost job
sound_host m job law checked values = λ n f entry version b bytes short.
    let bounds = cells_at (entry_definition f entry.number) in
    let own = values.each n f entry version in
    let cells : AllFit bounds (zeros job.cells) = subst (λ n. AllFit bounds (zeros n)) (sym own.cells) (zeros_fit bounds) in
    let good = at_version job.formats n f checked version.0 in
    entry_is_sound f entry job.args (zeros job.cells) law good.formed good.copying good.safe good.whole own.entry own.args cells b bytes short

pub fits_versions : (m : Module) (job : HostJob) → HasHostValues m job → FitsVersions job
fits_versions m job all = λ n f entry version.
    let values = all.each n f entry version in
    let o = entry_definition f entry.number in
    let cells : AllFit (cells_at o) (zeros job.cells) = subst (λ n. AllFit (cells_at o) (zeros n)) (sym values.cells) (zeros_fit (cells_at o)) in
    record {
      entry_is = values.entry;
      rooms = values.rooms;
      args = values.args;
      cells = cells;
    }
