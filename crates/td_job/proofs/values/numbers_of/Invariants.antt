use Rattle.std.proofs.Common.{◌≡◌, ◌++◌, drop}
use Rattle.serde_json.specs.View.{items_view}
use Rattle.td_job.specs.Values.{each_number}
use Rattle.td_job.proofs.values.numbers_of.Given as goal

abbrev pub invariant-loop-value : goal.invariant-loop-value
invariant-loop-value l = each_number (items_view l.values) ≡ l.numbers ++ each_number (items_view (drop l.value-index l.values))
