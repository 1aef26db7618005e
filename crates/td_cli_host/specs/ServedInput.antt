-- What `host` answers an input (own rule).
use Rattle.std.specs.Prelude.{◌≡◌, ℕ, ◌*◌, ◌<◌, ◌^◌, List, [], ◌∷◌, length, Option}
use Rattle.std.specs.List.{All}
use Rattle.td_core.specs.declared.module.Module.{Module}
use Rattle.td_core.specs.declared.module.Entry.{Entry}
use Rattle.td_ir.specs.declared.tables.Parts.{Parts}
use Rattle.td_lower_means.specs.CodeRun.{IsCodeOf}
use Rattle.td_posts.specs.declared.job.HostJob.{HostJob}
use Rattle.td_posts.specs.declared.reply.Reply.{Reply}
use Rattle.td_host.specs.Hosts.{IsServedJob}
use Rattle.td_takes.specs.declared.take.Take.{Take}
use Rattle.td_cli_input.specs.declared.refusal.Refusal.{Refusal}
use Rattle.td_cli_input.specs.declared.refusal.Refusal.TheVariants.{NoRing}
use Rattle.td_cli_input.specs.Inputs.{IsHostInput, RefusesHost}
use Rattle.td_report_host.specs.Report.{host_report, HasMessageWords, HasTakenWords, HasVersion}
use Rattle.td_cli_host.specs.Rings.{IsRingOf, NoRingModule, descriptor_entry}

-- the first is the code of the first module, the second of the second, and so on; there are as many of the one as of the other
abbrev pub AreCodesOf : List Parts → List Module → Type 0
AreCodesOf [] [] = Unit {0}
AreCodesOf [] (m ∷ ms) = ⊥
AreCodesOf (c ∷ cs) [] = ⊥
AreCodesOf (c ∷ cs) (m ∷ ms) = IsCodeOf c m × AreCodesOf cs ms

-- the replies and takes are those of the input's job, whose versions have these modules and entry points, and whose rings this module
-- of descriptors, where there are any: all its posts are served and all takes of its rings made, by ended seats of one buffer, of one
-- version word, and ended passes of one ring
pub record IsServedInput (input : List ℕ) (formats : List Module) (entries : List Entry) (replies : List Reply) (ring : Option Module) (takes : List Take) : Type 0 where
  pub m : Module
  pub job : HostJob
  pub descriptors : Module
  pub input_is : IsHostInput input m job
  pub formats_are : formats ≡ job.formats
  pub entries_are : entries ≡ job.entries
  pub ring_is : IsRingOf job.rings descriptors ring
  -- descriptors name places in a buffer with rings by 32 bits
  pub narrow : 0 < length job.rings → 8 * length job.words < 2 ^ 32
  pub served : IsServedJob descriptors job replies takes

-- a report can name the loads of these replies and takes by the words of their messages, and each reply by its version
pub record CanBeShown (formats : List Module) (entries : List Entry) (replies : List Reply) (takes : List Take) : Type 0 where
  pub words : All HasMessageWords replies
  pub versions : All (HasVersion formats entries) replies
  pub taken : All HasTakenWords takes

-- the text is the report of some such replies and takes
pub record IsHostReport (input text : List ℕ) : Type 0 where
  pub formats : List Module
  pub entries : List Entry
  pub replies : List Reply
  pub ring : Option Module
  pub takes : List Take
  pub served : IsServedInput input formats entries replies ring takes
  pub text_is : text ≡ host_report formats entries replies (descriptor_entry ring) takes

-- why an input that isn't too long is refused: as one of host jobs is, or its job has rings, and there is no module by which they are read
abbrev pub RefusesServing : List ℕ → Refusal → Type 0
RefusesServing input NoRing = (m : Module) × (job : HostJob) × IsHostInput input m job × NoRingModule job.rings
RefusesServing input refusal = RefusesHost input refusal
