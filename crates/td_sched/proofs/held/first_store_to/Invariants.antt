use Rattle.std.proofs.Common.{length, ◌-◌, ◌<◌, ◌≤◌, take}
use Rattle.std.specs.List.{All}
use Rattle.td_sched.specs.declared.store.PlannedStore.{PlannedStore}
use Rattle.td_sched.proofs.held.first_store_to.Given as goal

abbrev pub invariant-stores : goal.invariant-stores
invariant-stores l = record {
  reached : l.next ≤ length l.stores;
  before : All (λ (s : PlannedStore). s.word < l.i) (take l.from l.stores) → All (λ (s : PlannedStore). s.word < l.i) (take l.next l.stores);
}

abbrev pub decreases-stores : goal.decreases-stores
decreases-stores l = length l.stores - l.next
