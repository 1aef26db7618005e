use Rattle.std.proofs.Common.{◌≡◌, ◌+◌, ◌*◌, ◌++◌, drop}
use Rattle.serde_json.specs.Data.{depth, items_depth}
use Rattle.serde_json.specs.View.{view, items_view}
use Rattle.td_job.specs.Written.{datums_of}
use Rattle.td_job.proofs.written.+values.Given as goal

abbrev pub decreases-read_value : goal.decreases-read_value
decreases-read_value l = 2 * depth (view l.json.now)

abbrev pub decreases-read_values : goal.decreases-read_values
decreases-read_values l = 2 * items_depth (items_view l.values.now) + 1

abbrev pub invariant-read_values-loop-value : goal.invariant-read_values-loop-value
invariant-read_values-loop-value l = record {
  so_far : datums_of (items_view l.values) ≡ l.read ++ datums_of (items_view (drop l.value-index l.values));
}
