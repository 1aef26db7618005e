use Rattle.std.proofs.Common.{◌≡◌, length, ◌-◌, ◌≤◌, [], take}
use Rattle.std.specs.List.{All}
use Rattle.td_sched.specs.declared.store.PlannedStore.{PlannedStore}
use Rattle.td_sched.specs.Plan.{last_value, to_word}
use Rattle.td_sched.proofs.Due.{InTime}
use Rattle.td_sched.proofs.held.value_after.Given as goal

abbrev pub invariant-stores : goal.invariant-stores
invariant-stores l = record {
  began : l.from ≤ l.next;
  reached : l.next ≤ length l.stores;
  value : to_word l.i (take l.from l.stores) ≡ [] → l.value ≡ last_value l.opening (to_word l.i (take l.next l.stores));
  passed : All (λ (s : PlannedStore). s.word ≤ l.i) (take l.from l.stores) → All (λ (s : PlannedStore). s.word ≤ l.i) (take l.next l.stores);
  due : All (InTime l.number l.i) (take l.from l.stores) → All (InTime l.number l.i) (take l.next l.stores);
}

abbrev pub decreases-stores : goal.decreases-stores
decreases-stores l = length l.stores - l.next
