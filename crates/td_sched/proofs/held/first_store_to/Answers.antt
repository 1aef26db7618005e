use Rattle.std.proofs.Common.{◌<◌, List, arith}
use Rattle.std.proofs.lemmas.List.Elements.{All-more}
use Rattle.td_sched.specs.declared.store.PlannedStore.{PlannedStore}
use Rattle.td_sched.proofs.Turns.{none}
use Rattle.td_sched.proofs.held.first_store_to.Goals as goal

pub stores-preserved : goal.stores-preserved
stores-preserved c =
    let stores : List PlannedStore = c.args.stores.now in
    record {
      reached = omega (arith, c.stores-test.true);
      before = λ h. All-more (λ (s : PlannedStore). s.word < c.args.i) stores c.stores.next none c.stores-test.true (c.stores.invariant.before h) (omega (arith, c.if-stores-next.true));
    }
