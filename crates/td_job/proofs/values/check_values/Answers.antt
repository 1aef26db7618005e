use Rattle.std.proofs.Common.{rules, ◌≡◌, ◌+◌, ◌++◌, [], drop, sym, ap, subst, ◌∙◌, arith}
use Rattle.serde_json.specs.View.{view, items_view}
use Rattle.serde_json.specs.declared.value.Value.{Value}
use Rattle.td_job.specs.declared.error.Path.TheVariants as path
use Rattle.td_job.specs.Fields.{IsFirst, whole}
use Rattle.td_job.specs.Slots.{slot_bounds}
use Rattle.td_job.specs.Values.{value_faults, each_value_faults}
use Rattle.td_job.proofs.Numbers.{at_element, past_all, past_end, none_left, first_of_more}
use Rattle.td_job.proofs.values.check_values.Goals as goal
use Rattle.td_job.proofs.values.check_values.Goals.{else-loop-index-test, then-loop-index-test+in_default}

pub returns-in_err-check_value-clause-err : goal.returns-in_err-check_value-clause-err
returns-in_err-check_value-clause-err c =
    let i = c.loop-index.index in
    let values = c.args.values.now in
    let bounds = slot_bounds c.args.slots in
    let value = c.index-values-index.result in
    let e = c.in_err-check_value.field-0.0 in
    let faults = c.loop-index.invariant ∙ at_element c.args.key i c.in-Some.most bounds values value c.loop-index-test.true (sym c.in-Some.ensures) in
    let here = subst (λ (v : Value). IsFirst (value_faults (path.Element c.args.key i) c.in-Some.most (whole (view v))) e) c.index-values-index.is c.in_err-check_value.ensures.err in
    let more = each_value_faults c.args.key (i + 1) (drop (i + 1) bounds) (items_view (drop (i + 1) values)) in
    let first : IsFirst (each_value_faults c.args.key 0 bounds (items_view values)) e = rw faults (first_of_more _ more e here) in
    search (rules, first)

pub loop-index-preserved : goal.loop-index-preserved
loop-index-preserved c =
    let i = c.loop-index.index in
    let values = c.args.values.now in
    let bounds = slot_bounds c.args.slots in
    let value = c.index-values-index.result in
    let more = each_value_faults c.args.key (i + 1) (drop (i + 1) bounds) (items_view (drop (i + 1) values)) in
    let none = subst (λ (v : Value). value_faults (path.Element c.args.key i) c.in-Some.most (whole (view v)) ≡ []) c.index-values-index.is c.in_ok-check_value.ensures.ok in
    c.loop-index.invariant ∙ at_element c.args.key i c.in-Some.most bounds values value c.loop-index-test.true (sym c.in-Some.ensures) ∙ ap (λ l. l ++ more) none

pub returns-clause-ok : goal.returns-clause-ok
returns-clause-ok c =
    let i = c.loop-index.index in
    let values = c.args.values.now in
    let bounds = slot_bounds c.args.slots in
    elim c.loop-index-test.branch [
      | else-loop-index-test w ↦
          let none = past_end values i (omega (arith, w.loop-index-test.false)) in
          c.loop-index.invariant ∙ ap (λ vs. each_value_faults c.args.key i (drop i bounds) (items_view vs)) none ∙ none_left c.args.key i (drop i bounds)
      | then-loop-index-test+in_default w ↦ c.loop-index.invariant ∙ past_all c.args.key i bounds (items_view (drop i values)) (sym w.in_default.ensures)
    ]
