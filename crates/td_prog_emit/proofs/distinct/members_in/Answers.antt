use Rattle.std.proofs.Common.{◌<◌, length, subst, sym, arith}
use Rattle.td_prog_emit.proofs.Apart.{members_more}
use Rattle.td_ir.specs.WellFormed.{IsCellNamed}
use Rattle.td_prog_emit.proofs.distinct.members_in.Goals as goal

pub add_member-requires : goal.add_member-requires
add_member-requires c =
    let h : c.loop-k.k < length c.args.entry.now.cells = omega (arith, c.loop-k-test.true, c.requires.count) in
    subst (IsCellNamed (length c.args.parts.now.names)) (sym c.cell_at.ensures) (c.requires.named c.loop-k.k h)

pub loop-k-preserved : goal.loop-k-preserved
loop-k-preserved c =
    let h : c.loop-k.k < length c.args.entry.now.cells = omega (arith, c.loop-k-test.true, c.requires.count) in
    members_more c.args.parts.now c.args.name _ _ c.args.entry.now.cells c.loop-k.k c.cell_at.result c.loop-k.invariant c.cell_at.ensures (c.in_ok-add_member.ensures {u = tt}) h
