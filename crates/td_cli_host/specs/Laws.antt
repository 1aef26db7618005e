-- What the report of a served input tells: each of its replies and takes can be read back.
use Rattle.std.specs.Prelude.{◌≡◌, ◌⊎◌, List, ℕ, map, Option}
use Rattle.std.specs.List.{All}
use Rattle.td_core.specs.declared.module.Module.{Module}
use Rattle.td_core.specs.declared.module.Entry.{Entry}
use Rattle.td_posts.specs.declared.job.HostJob.{HostJob}
use Rattle.td_posts.specs.declared.reply.Reply.{Reply}
use Rattle.td_posts.specs.declared.ring.RingJob.{RingJob}
use Rattle.td_host.specs.Hosts.{IsServedJob}
use Rattle.td_report.specs.Laws.{HasWords, HasNoSpotWord}
use Rattle.td_takes.specs.declared.take.Take.{Take}
use Rattle.td_report_host.specs.Laws.{IsReportable, IsReportableTake, reported_reply, reported_take}
use Rattle.td_cli_host.specs.Rings.{RingsAreRead, NoRingModule, descriptor_entry}
use Rattle.td_cli_host.specs.ServedInput.{IsServedInput, IsHostReport, CanBeShown}

-- the names of each module can be read back, and so can each reply, at the entry point of its version, and each take
pub record AreReportable (formats : List Module) (entries : List Entry) (replies : List Reply) (ring : Option Module) (takes : List Take) : Type 0 where
  pub words : All HasWords formats
  pub no_spot_word : All HasNoSpotWord formats
  pub each : All (IsReportable formats entries) replies
  pub taken : All (IsReportableTake formats entries (descriptor_entry ring)) takes

-- the replies and takes of an input that was served can be read back
abbrev pub ServedAreReportable : Type 0
ServedAreReportable =
    (input : List ℕ) (formats : List Module) (entries : List Entry) (replies : List Reply) (ring : Option Module) (takes : List Take)
    → IsServedInput input formats entries replies ring takes → AreReportable formats entries replies ring takes

-- served inputs of the same modules by version (as those with one module text and the same swaps are) whose reports are equal have
-- replies of which the same is said: of each the guest, the number, the version, the verdict, the trace, the cells, and the loads as
-- they are shown; and takes of which the same is said: of each the ring, the number, the count, the answer, and the validations of its
-- descriptor and of its message
abbrev pub HostReportsDetermineServed : Type 0
HostReportsDetermineServed =
    (one other text : List ℕ) (a : IsHostReport one text) (b : IsHostReport other text) → a.formats ≡ b.formats
    → (map reported_reply a.replies ≡ map reported_reply b.replies) × (map reported_take a.takes ≡ map reported_take b.takes)

-- rings are read, or there is no module by which they are
abbrev pub RingsReadOrNot : Type 0
RingsReadOrNot = (rings : List RingJob) → RingsAreRead rings ⊎ NoRingModule rings

-- a report can name what was served of a job
abbrev pub ServedCanBeShown : Type 0
ServedCanBeShown = (m : Module) (job : HostJob) (replies : List Reply) (takes : List Take) → IsServedJob m job replies takes → CanBeShown job.formats job.entries replies takes
