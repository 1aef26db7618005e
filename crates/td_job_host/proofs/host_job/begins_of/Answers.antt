use Rattle.std.proofs.Common.{length, ap, ◌∙◌}
use Rattle.serde_json.specs.View.{view}
use Rattle.td_job.specs.declared.error.Key.TheVariants as key
use Rattle.td_job.specs.Fields.{field_of}
use Rattle.td_job.specs.Values.{given_values}
use Rattle.td_job_host.proofs.host_job.begins_of.Goals as goal

pub returns-clause-args : goal.returns-clause-args
returns-clause-args c = c.in_ok-args.ensures.ok ∙ ap (λ b. given_values b (field_of key.Args (view c.args.job.now))) c.params_of.ensures

pub returns-clause-cells : goal.returns-clause-cells
returns-clause-cells c = c.in_ok-cells.ensures.ok ∙ c.len.ensures ∙ ap length c.cells_of.ensures
