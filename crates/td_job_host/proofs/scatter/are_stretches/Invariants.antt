use Rattle.std.proofs.Common.{◌≡◌, drop}
use Rattle.serde_json.specs.View.{items_view}
use Rattle.td_job_host.specs.Steps.{are_stretches}
use Rattle.td_job_host.proofs.scatter.are_stretches.Given as goal

-- what is left of the values, from here, decides
abbrev pub invariant-loop-value : goal.invariant-loop-value
invariant-loop-value l = are_stretches (items_view l.values) ≡ are_stretches (items_view (drop l.value-index l.values))
