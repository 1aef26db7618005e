use Rattle.std.proofs.Common.{◌≡◌, ◌+◌, ◌-◌, ◌^◌, get_or, ap, ◌∙◌, arith}
use Rattle.std.specs.List.{sum_by}
use Rattle.std.specs.Prelude.{min}
use Rattle.serde_json.specs.View.{view}
use Rattle.serde_json.specs.declared.value.Value.{Value}
use Rattle.td_job_host.specs.Steps.{spelled_step, step_in}
use Rattle.td_job_host.specs.Totals.{weight}
use Rattle.td_job_host.proofs.Counting.{steps_from, one_step, no_steps, one_part_more, at_end}
use Rattle.td_job_host.proofs.totals.Total.with_steps.Goals as goal

pub loop-value-preserved : goal.loop-value-preserved
loop-value-preserved c =
    let what = c.args.self in
    let values = c.args.values.now in
    let i = c.loop-value.value-index in
    let value = c.value-item.result in
    let one = sum_by (weight what) (step_in (spelled_step (view (get_or values i value)))) in
    let here : c.of_step.result ≡ min one (2 ^ 64 - 1) = c.of_step.ensures ∙ ap (λ (v : Value). min (sum_by (weight what) (step_in (spelled_step (view v)))) (2 ^ 64 - 1)) c.value-item.is in
    let rest = steps_from what values (i + 1) in
    record {
      same =
          one_part_more (2 ^ 64 - 1) c.loop-value.sum _ c.of_step.result one rest (steps_from what values i) c.saturating_add-sum.ensures here (one_step what values i value c.loop-value-test.true)
          ∙ c.loop-value.invariant.same;
      most = omega (arith, c.saturating_add-sum.ensures);
    }

pub returns : goal.returns
returns c =
    let what = c.args.self in
    let values = c.args.values.now in
    let i = c.loop-value.value-index in
    let none = no_steps what values i (omega (arith, c.loop-value-test.false)) in
    at_end (2 ^ 64 - 1) c.loop-value.sum (steps_from what values i) c.loop-value.invariant.most none ∙ c.loop-value.invariant.same
