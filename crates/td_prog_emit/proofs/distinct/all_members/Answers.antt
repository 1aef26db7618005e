use Rattle.std.proofs.Common.{◌<◌, length, subst, sym, ap, ◌∙◌, arith}
use Rattle.td_prog_emit.proofs.Indexed.{list_more, taken_all}
use Rattle.td_ir.specs.WellFormed.{IsCellNamed}
use Rattle.td_prog_text.specs.Entries.{indexed, member_of}
use Rattle.td_prog_emit.proofs.distinct.all_members.Goals as goal

pub member_of-requires-clause-cell : goal.member_of-requires-clause-cell
member_of-requires-clause-cell c =
    let h : c.loop-k.k < length c.args.entry.now.cells = omega (arith, c.loop-k-test.true, c.len-k-end.ensures) in
    subst (IsCellNamed (length c.args.parts.now.names)) (sym c.cell_at.ensures) (c.requires c.loop-k.k h)

pub loop-k-preserved : goal.loop-k-preserved
loop-k-preserved c =
    let h : c.loop-k.k < length c.args.entry.now.cells = omega (arith, c.loop-k-test.true, c.len-k-end.ensures) in
    list_more (member_of c.args.parts.now c.args.entry.now.cells) c.args.entry.now.cells c.loop-k.k _ c.cell_at.result _ _ _ c.loop-k.invariant c.cell_at.ensures (c.of.ensures ∙ c.in_ok-made.ensures {u = tt}) ((c.in_ok-push.ensures {u = tt}).items) h

pub returns : goal.returns
returns c = c.loop-k.invariant ∙ ap (indexed (member_of c.args.parts.now c.args.entry.now.cells) 0) (taken_all c.args.entry.now.cells c.loop-k.k (omega (arith, c.loop-k.auto.k-end, c.loop-k-test.false, c.len-k-end.ensures)))
