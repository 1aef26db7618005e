-- What the laws of jobs that are served say.
use Rattle.std.specs.Prelude.{◌≡◌, List, [], ◌++◌}
use Rattle.td_core.specs.declared.module.Module.{Module}
use Rattle.td_words.specs.declared.view.HostView.{HostView}
use Rattle.td_ring.specs.declared.view.RingView.{RingView}
use Rattle.td_posts.specs.declared.job.HostJob.{HostJob}
use Rattle.td_posts.specs.declared.reply.Reply.{Reply}
use Rattle.td_takes.specs.declared.take.Take.{Take}
use Rattle.td_host.specs.Served.{Served}

-- a job without rings has no take, the ended seats are those of its workers and guests, and no module of descriptors plays a part
abbrev pub ServedWithoutRings : Type 0
ServedWithoutRings =
    (m : Module) (job : HostJob) (replies : List Reply) (takes : List Take) (host : HostView) (passes : RingView) → job.rings ≡ []
    → (s : Served m job replies takes host passes)
    → (takes ≡ []) × (host.ended ≡ s.seats.readers ++ s.seats.guests) × ((other : Module) → Served other job replies takes host passes)
