use Rattle.std.proofs.Common.{◌≡◌, [], sym, ap, ◌∙◌, arith}
use Rattle.serde_json.specs.View.{view, items_view}
use Rattle.td_job.specs.declared.error.Key.TheVariants as key
use Rattle.td_job_host.specs.Imports.{JobError}
use Rattle.td_job.specs.Fields.{field_of, IsFirst}
use Rattle.td_job_host.specs.Swaps.{swaps_faults}
use Rattle.td_job_host.proofs.Elements.{listed_swaps, too_many_swaps, few_swaps}
use Rattle.td_job_host.proofs.swaps.check_swap_list.Goals as goal

pub returns-then-len-gt-MOST_SWAPS-clause-err : goal.returns-then-len-gt-MOST_SWAPS-clause-err
returns-then-len-gt-MOST_SWAPS-clause-err c =
    let values = c.in-Some-as_array.values.now.items in
    let list = listed_swaps (field_of key.Swaps (view c.args.job.now)) (view c.in-Some.value.now) values c.in-Some.ensures c.in-Some-as_array.ensures in
    rw (list, c.at-then-len-gt-MOST_SWAPS.ensures) (too_many_swaps values (omega (arith, c.if-len-gt-MOST_SWAPS.true, c.len.ensures)))

pub returns-else-len-gt-MOST_SWAPS-clause-ok : goal.returns-else-len-gt-MOST_SWAPS-clause-ok
returns-else-len-gt-MOST_SWAPS-clause-ok c =
    let values = c.in-Some-as_array.values.now.items in
    let list = listed_swaps (field_of key.Swaps (view c.args.job.now)) (view c.in-Some.value.now) values c.in-Some.ensures c.in-Some-as_array.ensures in
    list ∙ few_swaps values (omega (arith, c.if-len-gt-MOST_SWAPS.false, c.len.ensures))
