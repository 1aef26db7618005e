use Rattle.std.proofs.Common.{◌≡◌, drop}
use Rattle.td_job.specs.Jobs.{is_known}
use Rattle.td_job.proofs.checks.is_known.Given as goal

-- what is left of the names, from here, decides
abbrev pub invariant-loop-key : goal.invariant-loop-key
invariant-loop-key l = is_known l.keys l.name ≡ is_known (drop l.key-index l.keys) l.name
