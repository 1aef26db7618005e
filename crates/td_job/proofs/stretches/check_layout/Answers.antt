use Rattle.std.proofs.Common.{rules, ◌++◌, [], sym, ap, ◌∙◌, subst, List, arith}
use Rattle.serde_json.specs.Find.{as_array}
use Rattle.serde_json.specs.View.{view, items_view}
use Rattle.td_job.specs.declared.error.JobError.{JobError}
use Rattle.td_job.specs.Fields.{IsFirst}
use Rattle.td_job.specs.Stretches.{each_stretch, each_stretch_faults, layout_faults, sum_faults}
use Rattle.td_job.proofs.Numbers.{first_of_more}
use Rattle.td_job.proofs.Scattered.{few_enough, wrong_sum, right_sum}
use Rattle.td_job.proofs.stretches.check_layout.Goals as goal

pub returns-in_err-sum-clause-err : goal.returns-in_err-sum-clause-err
returns-in_err-sum-clause-err c =
    let values = c.in_ok-values.values.now in
    let given = c.args.given in
    let n = c.args.length in
    let e = c.in_err-sum.field-0.0 in
    let whole = ap (layout_faults given n) c.in_ok-values.ensures.ok ∙ few_enough given n values c.in_ok-values.ensures.few in
    let element = first_of_more (each_stretch_faults given 0 (items_view values)) (sum_faults n (each_stretch (items_view values))) e c.in_err-sum.ensures.err in
    let first : IsFirst (layout_faults given n (as_array (view c.args.value.now))) e = subst (λ (faults : List JobError). IsFirst faults e) (sym whole) element in
    search (rules, first)

pub returns-then-sum-from-clause-err : goal.returns-then-sum-from-clause-err
returns-then-sum-from-clause-err c =
    let values = c.in_ok-values.values.now in
    let given = c.args.given in
    let n = c.args.length in
    let whole = ap (layout_faults given n) c.in_ok-values.ensures.ok ∙ few_enough given n values c.in_ok-values.ensures.few in
    let rest = ap (λ (faults : List JobError). faults ++ sum_faults n (each_stretch (items_view values))) c.in_ok-sum.ensures.ok.0 in
    let sum = wrong_sum n (each_stretch (items_view values)) (λ same. omega (arith, same, c.in_ok-sum.ensures.ok.1, c.from.ensures, c.if-sum-from.true)) in
    rw c.at.ensures (record { others = []; is = whole ∙ rest ∙ sum })

pub returns-clause-faultless : goal.returns-clause-faultless
returns-clause-faultless c =
    let values = c.in_ok-values.values.now in
    let given = c.args.given in
    let n = c.args.length in
    let whole = ap (layout_faults given n) c.in_ok-values.ensures.ok ∙ few_enough given n values c.in_ok-values.ensures.few in
    let rest = ap (λ (faults : List JobError). faults ++ sum_faults n (each_stretch (items_view values))) c.in_ok-sum.ensures.ok.0 in
    whole ∙ rest ∙ right_sum n (each_stretch (items_view values)) (omega (arith, c.in_ok-sum.ensures.ok.1, c.from.ensures, c.if-sum-from.false))
