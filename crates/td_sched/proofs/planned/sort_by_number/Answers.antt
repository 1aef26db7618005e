use Rattle.std.proofs.Common.{rules}
use Rattle.std.proofs.lemmas.List.Sorted.{IsNonDecreasingBy-from_sort_by_key}
use Rattle.td_sched.specs.declared.store.PlannedStore.{PlannedStore}
use Rattle.td_sched.proofs.Turns.{falls_never, stable_from_sort}
use Rattle.td_sched.proofs.planned.sort_by_number.Goals as goal

pub returns-clause-order : goal.returns-clause-order
returns-clause-order c = falls_never (λ (s : PlannedStore). s.before) _ (IsNonDecreasingBy-from_sort_by_key (λ (s : PlannedStore). s.before) _ c.in_ok-sort_by_key.ensures.sorted (λ a r q k. search rules))

pub returns-clause-each : goal.returns-clause-each
returns-clause-each c = λ n. stable_from_sort (λ (s : PlannedStore). s.before) _ _ c.sort_by_key.ensures.stable (λ a r q k. search rules) (record { before = n; word = 0; value = 0 })
