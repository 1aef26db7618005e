use Rattle.std.proofs.Common.{◌<◌, length, arith}
use Rattle.td_prog_emit.proofs.Indexed.{each_all, each_more}
use Rattle.td_prog_text.specs.PartsEntries.{parts_declaration}
use Rattle.td_prog_emit.proofs.files.push_parts_declarations.Goals as goal

pub loop-k-preserved : goal.loop-k-preserved
loop-k-preserved c =
    let h : c.loop-k.k < length c.args.parts.now.entries = omega (arith, c.loop-k-test.true, c.len-k-end.ensures) in
    each_more (parts_declaration c.args.parts.now c.args.prefix.now) c.args.parts.now.entries c.loop-k.k _ c.loop-k.invariant (c.in_ok-push_parts_declaration_at.ensures {u = tt}) h

pub returns : goal.returns
returns c = each_all (parts_declaration c.args.parts.now c.args.prefix.now) c.args.parts.now.entries c.loop-k.k c.loop-k.invariant (omega (arith, c.loop-k.auto.k-end, c.loop-k-test.false, c.len-k-end.ensures))
