use Rattle.std.proofs.Common.{None, refl}
use Rattle.td_job.specs.declared.run_job.RunJob.{RunJob}
use Rattle.td_job.proofs.NamedJobs.{has_room, has_values}
use Rattle.td_job.proofs.named.NamedJob.resolve.Goals as goal

pub returns-clause-room : goal.returns-clause-room
returns-clause-room c =
    let job = c.args.self in
    let j : RunJob = record { entry = c.in_ok-entry.entry; args = job.args; cells = job.cells; words = job.words; length = job.length; layout = None; stores = job.stores; written = None } in
    has_room c.args.m.now c.in_ok-entry.entry job j c.requires c.in_ok-entry.ensures.faultless refl refl refl refl

pub returns-clause-values : goal.returns-clause-values
returns-clause-values c =
    let job = c.args.self in
    let j : RunJob = record { entry = c.in_ok-entry.entry; args = job.args; cells = job.cells; words = job.words; length = job.length; layout = None; stores = job.stores; written = None } in
    has_values c.args.m.now job j c.in_ok-entry.ensures.faultless refl refl
