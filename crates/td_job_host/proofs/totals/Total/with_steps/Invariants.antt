use Rattle.std.proofs.Common.{◌≡◌, ◌≤◌, ◌+◌, ◌-◌, ◌^◌}
use Rattle.std.specs.Prelude.{min}
use Rattle.td_job_host.proofs.Counting.{steps_from}
use Rattle.td_job_host.proofs.totals.Total.with_steps.Given as goal

-- what was counted so far, and the steps from here
abbrev pub invariant-loop-value : goal.invariant-loop-value
invariant-loop-value l = record {
  same : min (l.sum + steps_from l.self l.values l.value-index) (2 ^ 64 - 1) ≡ min (l.counted + steps_from l.self l.values 0) (2 ^ 64 - 1);
  most : l.sum ≤ 2 ^ 64 - 1;
}
