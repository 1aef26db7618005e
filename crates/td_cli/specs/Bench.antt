-- What `bench` tells (own rule): counts and sums over one run of each message that the generator makes, and by what it would
-- be refused. It is refused by the first text of the four that is no module text, and else by the first message that is no
-- job for the module of its text.
use Rattle.std.specs.Prelude.{◌≡◌, ℕ, suc, ◌+◌, ◌<◌, ◌≤◌, List, [], ◌∷◌, length}
use Rattle.std.specs.List.{sum_by}
use Rattle.td_core.specs.declared.module.Module.{Module}
use Rattle.td_core.specs.declared.outcome.Outcome.{Outcome}
use Rattle.td_core.specs.declared.outcome.Verdict.{Verdict}
use Rattle.td_core.specs.declared.outcome.Verdict.TheVariants.{Accept, Reject}
use Rattle.td_stream.specs.declared.load.Load.{Load}
use Rattle.td_front.specs.ModuleText.{IsModuleText, RefusedBy}
use Rattle.td_front.specs.declared.error.FrontError.{FrontError}
use Rattle.td_job.specs.declared.error.JobError.{JobError}
use Rattle.td_job.specs.declared.named.NamedJob.{NamedJob}
use Rattle.td_job.specs.declared.run_job.RunJob.{RunJob}
use Rattle.td_job.specs.Named.{IsNamedJob, FirstNamedFault}
use Rattle.td_formats.specs.declared.format.Format.{Format}
use Rattle.td_formats.specs.declared.format.Format.TheVariants.{Ethernet, Ipv4, Tcp, Rndis}
use Rattle.td_formats.specs.Format.{text_of}
use Rattle.td_gen.specs.Message.{format_of, IsMessage}
use Rattle.td_cli.specs.declared.totals.Totals.{Totals}
use Rattle.td_cli.specs.Totals.{totals_text}
use Rattle.td_cli_input.specs.declared.refusal.Refusal.{Refusal}
use Rattle.td_cli_input.specs.declared.refusal.Refusal.TheVariants.{TooLong, NoJob, BadModule, BadJob, NoRing}
use Rattle.td_cli.specs.Run.{IsRunOf}

-- ---- texts and messages

-- the text of a format stands for a module
abbrev pub HasModule : Format → Type 0
HasModule format = (m : Module) × IsModuleText (text_of format) m

-- so do the texts before this one, and all four
abbrev pub HaveBefore : Format → Type 0
HaveBefore Ethernet = Unit {0}
HaveBefore Ipv4 = HasModule Ethernet
HaveBefore Tcp = HasModule Ethernet × HasModule Ipv4
HaveBefore Rndis = HasModule Ethernet × HasModule Ipv4 × HasModule Tcp

abbrev pub HaveModules : Type 0
HaveModules = HasModule Ethernet × HasModule Ipv4 × HasModule Tcp × HasModule Rndis

-- message k for the module of its format's text
pub record IsMessageOf (k : ℕ) (m : Module) (message : NamedJob) : Type 0 where
  pub text : IsModuleText (text_of (format_of k)) m
  pub made : IsMessage k message

-- message k is a run job of that module
pub record HasJob (k : ℕ) : Type 0 where
  pub m : Module
  pub message : NamedJob
  pub job : RunJob
  pub of : IsMessageOf k m message
  pub is_job : IsNamedJob m message job

-- ---- runs

-- how the run of a message came out, and the loads that it made
pub record MessageRun : Type 0 where
  pub outcome : Outcome
  pub loads : List Load

-- it is a run of the job of message k
pub record IsMessageRun (k : ℕ) (run : MessageRun) : Type 0 where
  pub has : HasJob k
  pub ran : IsRunOf has.m has.job run.outcome run.loads

-- there is one run for each message from k on, in order
abbrev pub AreRuns : ℕ → List MessageRun → Type 0
AreRuns k [] = Unit {0}
AreRuns k (run ∷ runs) = IsMessageRun k run × AreRuns (suc k) runs

-- ---- counts and sums

abbrev pub accepted_one : Verdict → ℕ
accepted_one (Accept pos) = 1
accepted_one (Reject reason pos) = 0

abbrev pub rejected_one : Verdict → ℕ
rejected_one (Accept pos) = 0
rejected_one (Reject reason pos) = 1

-- the place up to which a message was accepted
abbrev pub accepted_bytes : Verdict → ℕ
accepted_bytes (Accept pos) = pos
accepted_bytes (Reject reason pos) = 0

abbrev pub totals_of : List MessageRun → Totals
totals_of runs = record {
  messages = length runs;
  accepted = sum_by (λ r. accepted_one r.outcome.verdict) runs;
  rejected = sum_by (λ r. rejected_one r.outcome.verdict) runs;
  bytes = sum_by (λ r. accepted_bytes r.outcome.verdict) runs;
  loads = sum_by (λ r. length r.loads) runs;
}

-- these are the totals over one run of each message below n
pub record AreTotals (n : ℕ) (totals : Totals) : Type 0 where
  pub texts : HaveModules
  pub runs : List MessageRun
  pub count : length runs ≡ n
  pub each : AreRuns 0 runs
  pub totals_are : totals ≡ totals_of runs

-- what `bench` tells
abbrev pub IsBench : ℕ → List ℕ → Type 0
IsBench n output = (totals : Totals) × AreTotals n totals × (output ≡ totals_text totals)

-- ---- refusals

-- each text is one of a module, and each message below n is a job for its module
abbrev pub AdmitsBench : ℕ → Type 0
AdmitsBench n = HaveModules × ((k : ℕ) → k < n → HasJob k)

-- the first of the four texts that is refused, and why
pub record IsTextRefused (format : Format) (e : FrontError) : Type 0 where
  pub before : HaveBefore format
  pub refused : RefusedBy (text_of format) e

-- the first message that is no job for its module, and why
pub record IsMessageRefused (n k : ℕ) (e : JobError) : Type 0 where
  pub texts : HaveModules
  pub below : k < n
  pub before : (j : ℕ) → j < k → HasJob j
  pub m : Module
  pub message : NamedJob
  pub of : IsMessageOf k m message
  pub fault : FirstNamedFault m message e

-- why `bench` with this number is refused
abbrev pub RefusesBench : ℕ → Refusal → Type 0
RefusesBench n TooLong = ⊥
RefusesBench n NoJob = ⊥
RefusesBench n (BadModule e) = (format : Format) × IsTextRefused format e
RefusesBench n (BadJob e) = (k : ℕ) × IsMessageRefused n k e
RefusesBench n NoRing = ⊥
