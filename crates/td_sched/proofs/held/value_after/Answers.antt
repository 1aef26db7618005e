use Rattle.std.proofs.Common.{◌≡◌, ◌+◌, ◌≤◌, nat_eq, true, List, [], ◌∷◌, ◌++◌, take, sym, ap, ◌∙◌, arith, get_or, cond}
use Rattle.std.proofs.lemmas.List.Elements.{All-more, filter_more}
use Rattle.td_sched.specs.declared.store.PlannedStore.{PlannedStore}
use Rattle.td_sched.specs.Plan.{last_value, to_word}
use Rattle.td_sched.proofs.Turns.{none}
use Rattle.td_sched.proofs.Due.{InTime, last_pushed}
use Rattle.td_sched.proofs.held.value_after.Goals as goal
use Rattle.td_num.proofs.Truths.{is_eq as eq_true}

pub stores-preserved : goal.stores-preserved
stores-preserved c =
    let i = c.stores.invariant in
    let stores : List PlannedStore = c.args.stores.now in
    let n = c.stores.next in
    let s : PlannedStore = get_or stores n none in
    let w = c.args.i in
    let here : s.word ≡ w = search in
    let kept : nat_eq s.word w ≡ true = eq_true s.word w here in
    let front = to_word w (take n stores) in
    let more : to_word w (take (n + 1) stores) ≡ front ++ s ∷ [] =
    filter_more (λ x. nat_eq x.word w) stores n none c.stores-test.true ∙ ap (λ b. front ++ cond b (s ∷ []) []) kept in
    record {
      began = omega (arith, i.began);
      reached = omega (arith, c.stores-test.true);
      value = λ h. sym (ap (last_value c.args.opening) more ∙ last_pushed c.args.opening front s);
      passed = λ h. All-more (λ (x : PlannedStore). x.word ≤ w) stores n none c.stores-test.true (i.passed h) (omega (arith, here));
      due = λ h. All-more (InTime c.args.number w) stores n none c.stores-test.true (i.due h) (λ e. omega (arith, c.if-stores-next.true));
    }
