use Rattle.std.proofs.Common.{ℕ, List, length, sym, subst, IfOk}
use Rattle.td_core.specs.declared.module.Element.{Element}
use Rattle.td_write_values.specs.Writing.{given_written}
use Rattle.td_write.specs.Writes.{Wrote, claims_of}
use Rattle.td_write.proofs.given.write_given.Goals as goal

pub returns-in-Number-clause-ok : goal.returns-in-Number-clause-ok
returns-in-Number-clause-ok c =
    let a = c.args in
    subst (λ (e : Element). IfOk c.write_source.result (λ _. (cells : List ℕ) → Wrote (given_written e a.source.now a.draft.now.path.items (length a.draft.now.out.items) cells a.value.now) a.draft.now.out.items c.write_source.new.draft.out.items a.draft.now.path.items c.write_source.new.draft.path.items cells (claims_of a.draft.now.claims.items) (claims_of c.write_source.new.draft.claims.items))) (sym c.in-Number.is) c.write_source.ensures.ok
