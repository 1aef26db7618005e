use Rattle.std.proofs.Common.{◌≡◌, drop}
use Rattle.serde_json.specs.View.{items_view}
use Rattle.td_job_host.specs.Rings.{each_ring_faults}
use Rattle.td_job_host.proofs.rings.check_each_ring.Given as goal

-- what is left of the rings, from here, decides
abbrev pub invariant-loop-ring : goal.invariant-loop-ring
invariant-loop-ring l = each_ring_faults l.words 0 (items_view l.values) ≡ each_ring_faults l.words l.ring (items_view (drop l.ring l.values))
