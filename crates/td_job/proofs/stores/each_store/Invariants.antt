use Rattle.std.proofs.Common.{◌≡◌, ◌<◌, ◌++◌, drop}
use Rattle.std.specs.List.{All}
use Rattle.serde_json.specs.View.{items_view}
use Rattle.td_job.specs.Jobs.{each_store, each_store_faults}
use Rattle.td_job.proofs.stores.each_store.Given as goal

-- what is left of the elements, from here, decides
abbrev pub invariant-loop-index : goal.invariant-loop-index
invariant-loop-index l =
    let rest = items_view (drop l.index l.values) in
    record {
      faults : each_store_faults l.words 0 (items_view l.values) ≡ each_store_faults l.words l.index rest;
      made : each_store (items_view l.values) ≡ l.stores ++ each_store rest;
      inside : All (λ s. s.word < l.words) l.stores;
    }
