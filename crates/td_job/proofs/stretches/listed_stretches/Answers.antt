use Rattle.std.proofs.Common.{arith}
use Rattle.td_job.proofs.Scattered.{too_many}
use Rattle.td_job.proofs.stretches.listed_stretches.Goals as goal

pub returns-then-len-gt-MOST_STRETCHES-clause-err : goal.returns-then-len-gt-MOST_STRETCHES-clause-err
returns-then-len-gt-MOST_STRETCHES-clause-err c = λ given n.
    let first = too_many given n c.in-Some.values.now.items (omega arith) in
    rw (← c.in-Some.ensures, c.at-then-len-gt-MOST_STRETCHES.ensures) first
