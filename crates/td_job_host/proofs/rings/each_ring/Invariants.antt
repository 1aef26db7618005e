use Rattle.std.proofs.Common.{◌≡◌, ◌++◌, drop}
use Rattle.serde_json.specs.View.{items_view}
use Rattle.td_job_host.specs.Rings.{each_ring, each_ring_faults}
use Rattle.td_job_host.proofs.rings.each_ring.Given as goal

-- what is left of the rings, from here, decides
abbrev pub invariant-loop-index : goal.invariant-loop-index
invariant-loop-index l =
    let rest = items_view (drop l.index l.values) in
    record {
      faults : each_ring_faults l.words 0 (items_view l.values) ≡ each_ring_faults l.words l.index rest;
      made : each_ring (items_view l.values) ≡ l.rings ++ each_ring rest;
    }
