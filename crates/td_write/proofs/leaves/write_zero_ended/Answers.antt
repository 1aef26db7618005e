use Rattle.std.proofs.Common.{ℕ, List, length, sym, subst, IfOk}
use Rattle.td_write_values.specs.Writing.{Claim, zero_ended_written}
use Rattle.td_core.specs.declared.module.Element.{Element}
use Rattle.td_write.specs.Writes.{Wrote}
use Rattle.td_write.proofs.leaves.write_zero_ended.Goals as goal

pub returns-in-Number-clause-ok : goal.returns-in-Number-clause-ok
returns-in-Number-clause-ok c =
    let a = c.args in
    subst (λ (e : Element). IfOk c.write_up_to_zero.result (λ _. (cells : List ℕ) (claims : List Claim) → Wrote (zero_ended_written e a.size a.path.now.items (length a.out.now.items) cells a.value.now) a.out.now.items c.write_up_to_zero.new.out.items a.path.now.items c.write_up_to_zero.new.path.items cells claims claims)) (sym c.in-Number.is) c.write_up_to_zero.ensures.ok
