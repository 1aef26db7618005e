use Rattle.std.proofs.Common.{◌<◌, length, sym, ◌∙◌, arith}
use Rattle.td_prog_emit.proofs.Apart.{first_here, first_later, first_none}
use Rattle.td_prog_emit.proofs.places.first_of.Goals as goal

pub returns-then-of-clause-first : goal.returns-then-of-clause-first
returns-then-of-clause-first c =
    let h : c.loop-k.k < length c.args.entry.now.cells = omega (arith, c.loop-k-test.true, c.len-k-end.ensures) in
    first_here c.args.name c.args.entry.now.cells c.loop-k.k c.cell_at.result c.loop-k.invariant h c.cell_at.ensures (sym c.is_of-of.ensures ∙ c.if-of.true)

pub loop-k-preserved : goal.loop-k-preserved
loop-k-preserved c =
    let h : c.loop-k.k < length c.args.entry.now.cells = omega (arith, c.loop-k-test.true, c.len-k-end.ensures) in
    first_later c.args.name c.args.entry.now.cells c.loop-k.k c.cell_at.result c.loop-k.invariant h c.cell_at.ensures (sym c.is_of-of.ensures ∙ c.if-of.false)

pub returns-clause-first : goal.returns-clause-first
returns-clause-first c = c.len.ensures ∙ first_none c.args.name c.args.entry.now.cells c.loop-k.k c.loop-k.invariant (omega (arith, c.loop-k.auto.k-end, c.loop-k-test.false, c.len-k-end.ensures))
