use Rattle.std.proofs.Common.{◌≡◌, drop}
use Rattle.serde_json.specs.View.{items_view}
use Rattle.td_job_host.specs.Steps.{each_step_faults}
use Rattle.td_job_host.proofs.steps.check_each_step.Given as goal

-- what is left of the values, from here, decides
abbrev pub invariant-loop-index : goal.invariant-loop-index
invariant-loop-index l = each_step_faults l.words l.guest 0 (items_view l.values) ≡ each_step_faults l.words l.guest l.index (items_view (drop l.index l.values))
