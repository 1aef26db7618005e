use Rattle.std.proofs.Common.{◌≤◌, ◌<◌, List, length, sym, ap, ◌∙◌, arith, get_or, slice_index}
use Rattle.std.proofs.lemmas.List.Elements.{All-weaker}
use Rattle.td_sched.specs.declared.store.PlannedStore.{PlannedStore}
use Rattle.td_sched.specs.Plan.{last_value}
use Rattle.td_sched.proofs.Turns.{none}
use Rattle.td_sched.proofs.Due.{InTime, due_front, late_from, word_falls_never, none_to}
use Rattle.td_sched.proofs.held.word_at.Goals as goal

pub returns-clause-value : goal.returns-clause-value
returns-clause-value c = λ order early.
    let stores : List PlannedStore = c.args.stores.now in
    let i = c.args.i in
    let k = c.args.number in
    let first = c.first_store_to-first.result in
    let next = c.value_after.result.next in
    let before = c.first_store_to-first.ensures.before early in
    let above : next < length stores → i ≤ (get_or stores next none).word =
    (λ l.
    let began = c.value_after.ensures.began in
    let here = c.first_store_to-first.ensures.stop none (omega (arith, l, began)) in
    let rise = word_falls_never first next stores order.rise began l in
    omega (arith, here, rise)) in
    let late = late_from k i next stores order.rise (order.turns i) above (λ l. c.value_after.ensures.stop none l) in
    let timely = c.value_after.ensures.due (All-weaker (λ (s : PlannedStore). s.word < i) (InTime k i) (λ s h e. omega (arith, h, e)) _ before) in
    c.value_after.ensures.value (none_to i _ before) ∙ ap (last_value (slice_index c.args.words.now i)) (sym (due_front k i next stores timely late))

pub returns-clause-passed : goal.returns-clause-passed
returns-clause-passed c = λ early.
    c.value_after.ensures.passed (All-weaker (λ (s : PlannedStore). s.word < c.args.i) (λ (s : PlannedStore). s.word ≤ c.args.i) (λ s h. omega (arith, h)) _ (c.first_store_to-first.ensures.before early))
