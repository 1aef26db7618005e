use Rattle.std.proofs.Common.{subst}
use Rattle.serde_json.specs.View.{view}
use Rattle.td_write_values.specs.Datum.{Datum}
use Rattle.td_meaning.specs.Copies.{opened}
use Rattle.td_write_values.specs.Writing.{writing, whole}
use Rattle.td_write.specs.Answers.{IsRefusal}
use Rattle.td_job.specs.Written.{datum_of}
use Rattle.td_job.proofs.valued.bytes_of_value.Goals as goal

pub returns-in-Err-clause-err : goal.returns-in-Err-clause-err
returns-in-Err-clause-err c =
    let a = c.args in
    c.fault_of.ensures.refused (writing whole a.m.now a.entry a.args.now (opened a.m.now a.entry a.cells.now) (datum_of (view a.value.now)))
    (subst (λ (v : Datum). IsRefusal (writing whole a.m.now a.entry a.args.now (opened a.m.now a.entry a.cells.now) v) c.in-Err.error) c.in_ok-value.ensures c.in-Err.ensures.cause)
