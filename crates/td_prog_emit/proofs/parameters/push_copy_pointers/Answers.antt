use Rattle.std.proofs.Common.{◌<◌, length, refl, arith}
use Rattle.td_ir.specs.Tables.{buffer_of}
use Rattle.td_prog_emit.proofs.Indexed.{written_all, written_more}
use Rattle.td_prog_text.specs.Entries.{buffer_parameter}
use Rattle.td_prog_emit.proofs.parameters.push_copy_pointers.Goals as goal

pub loop-k-preserved : goal.loop-k-preserved
loop-k-preserved c =
    let h : c.loop-k.k < length c.args.entry.now.buffers = omega (arith, c.loop-k-test.true, c.len-k-end.ensures) in
    written_more (buffer_parameter c.args.parts.now c.args.prefix.now c.args.entry.now c.args.names.now) c.args.entry.now.buffers c.loop-k.k _ (buffer_of c.args.entry.now.buffers c.loop-k.k) c.loop-k.invariant refl (c.in_ok-push_copy_pointer.ensures {u = tt} (buffer_of c.args.entry.now.buffers c.loop-k.k)) h

pub returns : goal.returns
returns c = written_all (buffer_parameter c.args.parts.now c.args.prefix.now c.args.entry.now c.args.names.now) c.args.entry.now.buffers c.loop-k.k c.loop-k.invariant (omega (arith, c.loop-k.auto.k-end, c.loop-k-test.false, c.len-k-end.ensures))
