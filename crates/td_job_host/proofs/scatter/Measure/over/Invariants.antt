use Rattle.std.proofs.Common.{◌≡◌, ◌≤◌, ◌+◌, ◌-◌, ◌^◌}
use Rattle.std.specs.Prelude.{min}
use Rattle.td_job_host.proofs.Scattering.{measured_from}
use Rattle.td_job_host.proofs.scatter.Measure.over.Given as goal

-- what was counted so far, and the values from here
abbrev pub invariant-loop-value : goal.invariant-loop-value
invariant-loop-value l = record {
  same : min (l.sum + measured_from l.self l.values l.value-index) (2 ^ 64 - 1) ≡ min (measured_from l.self l.values 0) (2 ^ 64 - 1);
  most : l.sum ≤ 2 ^ 64 - 1;
}
