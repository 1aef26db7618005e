-- What is kept of the last look at a ring; of use in td_takes alone.
use Rattle.std.specs.Prelude.{◌≡◌, Option, Some, None}
use Rattle.td_core.specs.declared.outcome.Verdict.{Verdict}
use Rattle.td_vm.specs.Frames.{FrameView}
use Rattle.td_posts.specs.declared.reply.Reply.{Reply}
use Rattle.td_posts.specs.Posts.{version_in, outcome_in}
use Rattle.td_descr.specs.declared.next.Look.{Look}
use Rattle.td_descr.specs.Ring.{frame_outcome}

-- the reply of a validation that left its trace and cells in this frame, with these loads
pub record IsOutcome (r : Reply) (look : Look) (frame : FrameView) (verdict : Verdict) : Type 0 where
  pub guest : r.guest ≡ 0
  pub version : version_in r ≡ 0
  pub layout : r.layout ≡ None
  pub outcome : outcome_in r ≡ frame_outcome frame verdict
  pub loads : r.loads.list ≡ look.loads

-- the reply is there exactly where there was a verdict
abbrev pub KeptBy : Option Verdict → Look → FrameView → Option Reply → Type 0
KeptBy None look frame d = d ≡ None
KeptBy (Some verdict) look frame d = (r : Reply) × (d ≡ Some r) × IsOutcome r look frame verdict

abbrev pub IsKept : Look → FrameView → Option Reply → Type 0
IsKept look frame d = KeptBy look.verdict look frame d
