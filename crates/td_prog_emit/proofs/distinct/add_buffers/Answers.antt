use Rattle.std.proofs.Common.{◌<◌, List, length, map, subst, sym, ap, ◌∙◌, arith}
use Rattle.td_prog_emit.proofs.Apart.{named_more}
use Rattle.td_prog_emit.proofs.Indexed.{taken_all}
use Rattle.td_core.specs.declared.module.NameId.{NameId}
use Rattle.td_prog_text.specs.Entries.{own}
use Rattle.td_prog_text.specs.Names.{distinct}
use Rattle.td_prog_emit.proofs.distinct.add_buffers.Goals as goal

pub add-requires : goal.add-requires
add-requires c =
    let h : c.loop-k.k < length c.args.entry.now.buffers = omega (arith, c.loop-k-test.true, c.len-k-end.ensures) in
    subst (λ (p : NameId). p.number < length c.args.parts.now.names) (sym c.buffer_at.ensures) (c.requires c.loop-k.k h)

pub loop-k-preserved : goal.loop-k-preserved
loop-k-preserved c =
    let h : c.loop-k.k < length c.args.entry.now.buffers = omega (arith, c.loop-k-test.true, c.len-k-end.ensures) in
    named_more (own c.args.parts.now) _ _ _ c.args.entry.now.buffers c.loop-k.k _ c.buffer_at.result c.loop-k.invariant c.buffer_at.ensures (c.in_ok-add.ensures {u = tt}) h

pub returns : goal.returns
returns c = c.loop-k.invariant ∙ ap (λ (l : List NameId). distinct c.args.out.now.items (map (own c.args.parts.now) l)) (taken_all c.args.entry.now.buffers c.loop-k.k (omega (arith, c.loop-k.auto.k-end, c.loop-k-test.false, c.len-k-end.ensures)))
