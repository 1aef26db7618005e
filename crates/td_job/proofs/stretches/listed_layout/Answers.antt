use Rattle.std.proofs.Common.{ap, ◌∙◌, length, arith}
use Rattle.td_job.specs.Imports.{Stretch}
use Rattle.td_job.proofs.Scattered.{few_stretches}
use Rattle.td_job.proofs.stretches.listed_layout.Goals as goal

pub of-requires-clause-few : goal.of-requires-clause-few
of-requires-clause-few c =
    let values = c.in_ok-values.values.now in
    let few = few_stretches values in
    let same = ap (length {A = Stretch}) (c.as_slice.ensures ∙ c.in_ok-stretches.ensures.ok) in
    omega (arith, few, same, c.in_ok-values.ensures.few)
