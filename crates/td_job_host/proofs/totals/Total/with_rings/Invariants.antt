use Rattle.std.proofs.Common.{◌≡◌, ◌≤◌, ◌+◌, ◌-◌, ◌^◌}
use Rattle.std.specs.Prelude.{min}
use Rattle.td_job_host.proofs.Counting.{rings_from}
use Rattle.td_job_host.proofs.totals.Total.with_rings.Given as goal

-- what was counted so far, and the rings from here
abbrev pub invariant-loop-ring : goal.invariant-loop-ring
invariant-loop-ring l = record {
  same : min (l.sum + rings_from l.self l.rings l.ring-index) (2 ^ 64 - 1) ≡ min (l.counted + rings_from l.self l.rings 0) (2 ^ 64 - 1);
  most : l.sum ≤ 2 ^ 64 - 1;
}
