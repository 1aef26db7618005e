use Rattle.std.proofs.Common.{◌<◌, length, arith}
use Rattle.td_prog_emit.proofs.Indexed.{written_all, written_more}
use Rattle.td_prog_text.specs.Entries.{record_structs}
use Rattle.td_prog_emit.proofs.structs.push_records.Goals as goal

pub loop-k-preserved : goal.loop-k-preserved
loop-k-preserved c =
    let h : c.loop-k.k < length c.args.entry.now.cells = omega (arith, c.loop-k-test.true, c.len-k-end.ensures) in
    written_more (record_structs c.args.parts.now c.args.prefix.now c.args.entry.now c.args.names.now c.args.members.now) c.args.entry.now.cells c.loop-k.k _ c.cell_at.result c.loop-k.invariant c.cell_at.ensures (c.in_ok-push_record_at.ensures {u = tt}) h

pub returns : goal.returns
returns c = written_all (record_structs c.args.parts.now c.args.prefix.now c.args.entry.now c.args.names.now c.args.members.now) c.args.entry.now.cells c.loop-k.k c.loop-k.invariant (omega (arith, c.loop-k.auto.k-end, c.loop-k-test.false, c.len-k-end.ensures))
