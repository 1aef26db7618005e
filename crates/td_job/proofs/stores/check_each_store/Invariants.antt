use Rattle.std.proofs.Common.{◌≡◌, drop}
use Rattle.serde_json.specs.View.{items_view}
use Rattle.td_job.specs.Jobs.{each_store_faults}
use Rattle.td_job.proofs.stores.check_each_store.Given as goal

-- what is left of the elements, from here, decides
abbrev pub invariant-loop-index : goal.invariant-loop-index
invariant-loop-index l = each_store_faults l.words 0 (items_view l.values) ≡ each_store_faults l.words l.index (items_view (drop l.index l.values))
