-- What a body's run of a job comes to, as all bodies promise it.
use Rattle.std.specs.Prelude.{List}
use Rattle.td_num.specs.Lists.{AreBytes}
use Rattle.td_core.specs.declared.module.Module.{Module}
use Rattle.td_core.specs.declared.outcome.Outcome.{Outcome}
use Rattle.td_stream.specs.declared.load.Load.{Load}
use Rattle.td_stream.specs.Layouts.{layout_or_plain}
use Rattle.td_stream.specs.Loads.{IsFetchedOnce}
use Rattle.td_fetch.specs.Outcomes.{IsMeant}
use Rattle.td_job.specs.declared.run_job.RunJob.{RunJob}

-- each word was loaded at most once, in rising order, and on every list of bytes that carries the loads the outcome is the meaning's, and
-- exactly the words with a byte in its reads were loaded
abbrev pub IsJobMeant : Module → RunJob → Outcome → List Load → Type 0
IsJobMeant m job outcome loads = IsFetchedOnce (layout_or_plain job.length job.layout) loads (λ b. AreBytes b → IsMeant (layout_or_plain job.length job.layout) m job.entry job.args job.cells b loads outcome)
