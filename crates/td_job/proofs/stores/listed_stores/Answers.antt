use Rattle.std.proofs.Common.{sym, ap, ◌∙◌, arith}
use Rattle.serde_json.specs.View.{items_view}
use Rattle.td_job.specs.Jobs.{stores_faults, plan_faults, each_store_faults}
use Rattle.td_job.proofs.Elements.{too_many, few_enough}
use Rattle.td_job.proofs.stores.listed_stores.Goals as goal

pub returns-then-len-gt-MOST_STORES-clause-err : goal.returns-then-len-gt-MOST_STORES-clause-err
returns-then-len-gt-MOST_STORES-clause-err c = λ words.
    let first = too_many words c.in-Some-as_array.values.now.items (omega arith) in
    let faults = ap (plan_faults words) c.in-Some-as_array.ensures ∙ ap (stores_faults words) c.in-Some.ensures in
    rw (← faults, c.at-then-len-gt-MOST_STORES.ensures) first

pub returns-else-len-gt-MOST_STORES-clause-ok : goal.returns-else-len-gt-MOST_STORES-clause-ok
returns-else-len-gt-MOST_STORES-clause-ok c = λ words.
    let faults = ap (plan_faults words) c.in-Some-as_array.ensures ∙ ap (stores_faults words) c.in-Some.ensures in
    let few = few_enough words c.in-Some-as_array.values.now.items (omega arith) in
    sym faults ∙ few ∙ ap (λ v. each_store_faults words 0 (items_view v)) (sym c.as_slice.ensures.value)
