-- Words and stores of a host job are of 64 bits, and what its messages' outcomes tell.
use Rattle.std.proofs.Common.{◌≡◌, ℕ, ◌<◌, ◌^◌, List, [], ◌∷◌, Option, Some, None, refl, sym, subst}
use Rattle.std.specs.List.{All}
use Rattle.std.proofs.lemmas.List.Elements.{All-nil, All-cons, All-head, All-tail, All-append, All-from_get_or}
use Rattle.serde_json.specs.Data.{Items, no_items, item}
use Rattle.td_core.specs.Formed.{AllFit, cells_at}
use Rattle.td_core.specs.Entries.{entry_definition}
use Rattle.td_job.specs.declared.error.Key.TheVariants as key
use Rattle.td_job.specs.Jobs.{spelled_word}
use Rattle.td_report_facts.specs.Imports.{Step, Store, Post, Scatter, Mail}
use Rattle.td_posts.specs.Posts.{list_of, all_mails, stores_of, zeros}
use Rattle.td_job_host.proofs.Zeros.{zeros_fit}
use Rattle.td_job_host.specs.Steps.{SpelledStep, SpelledStore, SpelledPost, SpelledScatter, spelled_step, store_with, step_in, each_step}
use Rattle.td_job_host.specs.Guests.{listed_in, listed_steps, given_script, each_script, listed_scripts}
use Rattle.td_job_host.specs.HostJobs.{IsHost, IsShort}
use Rattle.td_job_host.specs.Laws.{HostJobsKeepLimits}
use Rattle.td_report_facts.specs.Laws.{AreSized, StoresSmall, HostJobsAreSized, OutcomesAreReportable, RepliesAreReportable}
use Rattle.td_report_facts.proofs.Jobs.{word_small}
use Rattle.td_report_facts.proofs.Posts.{posts_sized}
use Rattle.td_report_facts.proofs.Reading.{read_small}
use Rattle.td_report_facts.proofs.Reportable.{index_small}

-- ---- stores

abbrev SmallStep : Step → Type 0
SmallStep (Store word value) = value < 2 ^ 64
SmallStep (Post base size) = Unit {0}
SmallStep (Scatter layout) = Unit {0}

abbrev SmallScript : List Step → Type 0
SmallScript steps = All SmallStep steps

step_small : (step : Option SpelledStep) → SmallScript (step_in step)
step_small None = All-nil SmallStep
step_small (Some (SpelledStore word text)) = by (spelled_word text) refl
  where
    by : (o : Option ℕ) → spelled_word text ≡ o → SmallScript (store_with word o)
    by None e = All-nil SmallStep
    by (Some v) e = All-cons SmallStep (Store word v) [] (word_small text v e) (All-nil SmallStep)
step_small (Some (SpelledPost base size)) = All-cons SmallStep (Post base size) [] tt (All-nil SmallStep)
step_small (Some (SpelledScatter layout)) = All-cons SmallStep (Scatter layout) [] tt (All-nil SmallStep)

steps_small : (values : Items) → SmallScript (each_step values)
steps_small no_items = All-nil SmallStep
steps_small (item value values) = All-append SmallStep (step_in (spelled_step value)) (each_step values) (step_small (spelled_step value)) (steps_small values)

listed_small : (values : Option Items) → SmallScript (listed_steps values)
listed_small None = All-nil SmallStep
listed_small (Some values) = steps_small values

stores_small : (steps : List Step) → SmallScript steps → StoresSmall steps
unfolding stores_of
stores_small [] h = All-nil (λ (s : ℕ × ℕ). s.1 < 2 ^ 64)
stores_small (Store word value ∷ steps) h =
    All-cons (λ (s : ℕ × ℕ). s.1 < 2 ^ 64) (word, value) (stores_of steps) (All-head SmallStep (Store word value) steps h) (stores_small steps (All-tail SmallStep (Store word value) steps h))
stores_small (Post base size ∷ steps) h = stores_small steps (All-tail SmallStep (Post base size) steps h)
stores_small (Scatter layout ∷ steps) h = stores_small steps (All-tail SmallStep (Scatter layout) steps h)

scripts_small : (values : Items) → All StoresSmall (each_script values)
scripts_small no_items = All-nil StoresSmall
scripts_small (item value values) =
    All-cons StoresSmall (given_script value) (each_script values) (stores_small (given_script value) (listed_small (listed_in key.Script value))) (scripts_small values)

guests_small : (values : Option Items) → All StoresSmall (listed_scripts values)
guests_small None = All-nil StoresSmall
guests_small (Some values) = scripts_small values

-- ---- jobs

pub host_jobs_are_sized : HostJobsKeepLimits → HostJobsAreSized
host_jobs_are_sized keep bytes m j h =
    let host : IsHost m h.0 j = h.2 in
    let kept = keep bytes m j h in
    let S : List (List Step) → Type 0 = λ guests. All IsShort (all_mails 1 guests) in
    let M : List (List Step) → Type 0 = λ guests. All (λ (mail : Mail). AreSized (list_of mail)) (all_mails 1 guests) in
    record {
      kept = kept;
      stretches = subst M (sym host.scripted) (posts_sized h.0 (read_small bytes h.0 h.1) (subst S host.scripted kept.short));
      words = λ i. index_small j.words i (All-from_get_or (λ (word : ℕ). word < 2 ^ 64) j.words 0 host.filled.fits);
      stores = subst (All StoresSmall) (sym host.scripted) (guests_small (listed_in key.Guests h.0));
    }

-- ---- outcomes

pub replies_are_reportable : OutcomesAreReportable → RepliesAreReportable
replies_are_reportable told m j message n f entry version checked s bytes short =
    let own = entry_definition f entry.number in
    let bounds = cells_at own in
    let values = s.kept.values.each n f entry version in
    let cells : AllFit bounds (zeros j.cells) = subst (λ n. AllFit bounds (zeros n)) (sym values.cells) (zeros_fit bounds) in
    told f entry j.args (zeros j.cells) message checked values.entry values.args cells bytes short
