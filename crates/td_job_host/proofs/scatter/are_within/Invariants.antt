use Rattle.std.proofs.Common.{◌≡◌}
use Rattle.td_job_host.specs.Steps.{are_within}
use Rattle.td_job_host.proofs.Scattering.{stretches_from}
use Rattle.td_job_host.proofs.scatter.are_within.Given as goal

-- what is left of the values, from here, decides
abbrev pub invariant-loop-value : goal.invariant-loop-value
invariant-loop-value l = are_within l.words (stretches_from l.values 0) ≡ are_within l.words (stretches_from l.values l.value-index)
