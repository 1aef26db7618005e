use Rattle.std.proofs.Common.{◌≡◌, ◌<◌, length, ap, ◌∙◌, arith}
use Rattle.td_ir.specs.declared.tables.Routine.{Routine}
use Rattle.td_ir.specs.Tables.{routine_of}
use Rattle.td_prog_emit.proofs.Indexed.{written_all, written_more}
use Rattle.td_prog_text.specs.Entries.{buffer_struct}
use Rattle.td_prog_emit.proofs.structs.push_copies.Goals as goal

pub loop-k-preserved : goal.loop-k-preserved
loop-k-preserved c =
    let n : c.len-k-end.result ≡ length (routine_of c.args.parts.now c.args.entry.now.routine).buffers = c.len-k-end.ensures ∙ ap (λ (r : Routine). length r.buffers) c.routine_at.ensures in
    let h : c.loop-k.k < length (routine_of c.args.parts.now c.args.entry.now.routine).buffers = omega (arith, c.loop-k-test.true, n) in
    written_more (buffer_struct c.args.parts.now c.args.prefix.now c.args.entry.now c.args.names.now) (routine_of c.args.parts.now c.args.entry.now.routine).buffers c.loop-k.k 0 c.room_at.result c.loop-k.invariant c.room_at.ensures (c.in_ok-push_copy_struct.ensures {u = tt}) h

pub returns : goal.returns
returns c =
    let n : c.len-k-end.result ≡ length (routine_of c.args.parts.now c.args.entry.now.routine).buffers = c.len-k-end.ensures ∙ ap (λ (r : Routine). length r.buffers) c.routine_at.ensures in
    written_all (buffer_struct c.args.parts.now c.args.prefix.now c.args.entry.now c.args.names.now) (routine_of c.args.parts.now c.args.entry.now.routine).buffers c.loop-k.k c.loop-k.invariant (omega (arith, c.loop-k.auto.k-end, c.loop-k-test.false, n))
