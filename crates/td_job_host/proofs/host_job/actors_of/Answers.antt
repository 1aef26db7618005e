use Rattle.std.proofs.Common.{rules, ◌≡◌}
use Rattle.td_job_host.specs.Imports.{NoMemory}
use Rattle.td_job.proofs.Numbers.{both_empty}
use Rattle.td_job.proofs.Tested.{memory_alone}
use Rattle.td_job_host.proofs.host_job.actors_of.Goals as goal

pub returns-in_err-guests-clause-err : goal.returns-in_err-guests-clause-err
returns-in_err-guests-clause-err c =
    let tested = both_empty _ _ (both_empty _ _ c.requires).0 in
    let memory : c.in_err-guests.field-0.0 ≡ NoMemory = memory_alone _ _ tested.0 c.in_err-guests.ensures.err in
    search (rules, memory)

pub returns-in_err-rings-clause-err : goal.returns-in_err-rings-clause-err
returns-in_err-rings-clause-err c =
    let tested = both_empty _ _ (both_empty _ _ c.requires).0 in
    let memory : c.in_err-rings.field-0.0 ≡ NoMemory = memory_alone _ _ tested.1 c.in_err-rings.ensures.err in
    search (rules, memory)
