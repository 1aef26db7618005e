use Rattle.std.proofs.Common.{◌≡◌, ◌++◌}
use Rattle.td_job_host.proofs.Scattering.{stretches_from}
use Rattle.td_job_host.proofs.scatter.stretches_of.Given as goal

-- those so far, and those from here
abbrev pub invariant-loop-value : goal.invariant-loop-value
invariant-loop-value l = stretches_from l.values 0 ≡ l.stretches ++ stretches_from l.values l.value-index
