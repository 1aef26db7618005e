use Rattle.std.proofs.Common.{ℕ, List, length, sym, subst, IfOk}
use Rattle.td_core.specs.declared.module.Source.{Source}
use Rattle.td_write_values.specs.Writing.{source_written}
use Rattle.td_write.specs.Writes.{Wrote, claims_of}
use Rattle.td_write.proofs.given.write_source.Goals as goal

pub returns-in-Left-clause-ok : goal.returns-in-Left-clause-ok
returns-in-Left-clause-ok c =
    let a = c.args in
    subst (λ (s : Source). IfOk c.write_left.result (λ _. (cells : List ℕ) → Wrote (source_written a.number_type s a.draft.now.path.items (length a.draft.now.out.items) cells a.value.now) a.draft.now.out.items c.write_left.new.draft.out.items a.draft.now.path.items c.write_left.new.draft.path.items cells (claims_of a.draft.now.claims.items) (claims_of c.write_left.new.draft.claims.items))) (sym c.in-Left.is) c.write_left.ensures.ok
