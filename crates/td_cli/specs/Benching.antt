-- The steps of `bench`: its modules, what refuses one text or message, and totals with one more run.
use Rattle.std.specs.Prelude.{◌≡◌, ℕ, ◌+◌, List, length, []}
use Rattle.td_core.specs.declared.module.Module.{Module}
use Rattle.td_core.specs.declared.outcome.Verdict.{Verdict}
use Rattle.td_core.specs.declared.outcome.TraceFrame.{TraceFrame}
use Rattle.td_stream.specs.declared.load.Load.{Load}
use Rattle.td_lower_means.specs.CodeRun.{IsCodeOf}
use Rattle.td_vm.specs.Frames.{IsArmed}
use Rattle.td_front.specs.Checked.{IsChecked}
use Rattle.td_front.specs.ModuleText.{IsModuleText}
use Rattle.td_job.specs.declared.named.NamedJob.{NamedJob}
use Rattle.td_job.specs.Named.{FirstNamedFault}
use Rattle.td_formats.specs.declared.format.Format.{Format}
use Rattle.td_formats.specs.declared.format.Format.TheVariants.{Ethernet, Ipv4, Tcp, Rndis}
use Rattle.td_formats.specs.Format.{text_of}
use Rattle.td_cli.specs.declared.totals.Totals.{Totals}
use Rattle.td_cli.specs.declared.bench.Modules.{Modules}
use Rattle.td_cli.specs.declared.bench.Prepared.{Prepared}
use Rattle.td_cli_input.specs.declared.refusal.Refusal.{Refusal}
use Rattle.td_cli_input.specs.declared.refusal.Refusal.TheVariants.{TooLong, NoJob, BadModule, BadJob, NoRing}
use Rattle.td_cli.specs.Bench.{IsTextRefused, IsMessageOf, MessageRun, IsMessageRun, accepted_one, rejected_one, accepted_bytes}

-- what is prepared for a format
abbrev pub prepared_of : Modules → Format → Prepared
prepared_of ms Ethernet = ms.ethernet.value
prepared_of ms Ipv4 = ms.ipv4.value
prepared_of ms Tcp = ms.tcp.value
prepared_of ms Rndis = ms.rndis.value

-- it is the one for which the format's text stands
pub record IsTextModule (format : Format) (m : Module) : Type 0 where
  pub stands : IsModuleText (text_of format) m
  pub checked : IsChecked m

-- with its code, and a frame that was armed for that
pub record IsPrepared (format : Format) (p : Prepared) : Type 0 where
  pub text : IsTextModule format p.checked
  pub code : IsCodeOf p.code p.checked
  pub armed : IsArmed p.code p.frame

abbrev pub AreModules : Modules → Type 0
AreModules ms = (format : Format) → IsPrepared format (prepared_of ms format)

-- why a text is refused, the first of the four
abbrev pub RefusesText : Format → Refusal → Type 0
RefusesText format TooLong = ⊥
RefusesText format NoJob = ⊥
RefusesText format (BadModule e) = IsTextRefused format e
RefusesText format (BadJob e) = ⊥
RefusesText format NoRing = ⊥

-- why some text is refused
abbrev pub RefusesSomeText : Refusal → Type 0
RefusesSomeText refusal = (format : Format) × RefusesText format refusal

-- why message k is no job for its module
abbrev pub RefusesMessage : ℕ → Refusal → Type 0
RefusesMessage k TooLong = ⊥
RefusesMessage k NoJob = ⊥
RefusesMessage k (BadModule e) = ⊥
RefusesMessage k (BadJob e) = (m : Module) × (message : NamedJob) × IsMessageOf k m message × FirstNamedFault m message e
RefusesMessage k NoRing = ⊥

-- totals with one more run
abbrev pub totals_with : Totals → MessageRun → Totals
totals_with t run = record {
  messages = t.messages + 1;
  accepted = t.accepted + accepted_one run.outcome.verdict;
  rejected = t.rejected + rejected_one run.outcome.verdict;
  bytes = t.bytes + accepted_bytes run.outcome.verdict;
  loads = t.loads + length run.loads;
}

-- a run of message k had this verdict and these loads
pub record HasRun (k : ℕ) (verdict : Verdict) (loads : List Load) : Type 0 where
  pub trace : List TraceFrame
  pub cells : List ℕ
  pub copies : List (List ℕ)
  pub is : IsMessageRun k (record { outcome = record { verdict = verdict; trace = trace; cells = cells; copies = copies }; loads = loads })
