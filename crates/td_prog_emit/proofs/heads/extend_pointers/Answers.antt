use Rattle.td_prog_emit.proofs.heads.extend_pointers.Goals as goal
use Rattle.std.proofs.Common.{◌++◌, ◌+◌, codes, decimal}
use Rattle.td_prog_emit.proofs.Texts.{stepped}
use Rattle.td_prog_emit.proofs.Variables.{pointers_more}
use Rattle.td_prog_text.specs.Functions.{pointers}
use Rattle.td_prog_text.specs.Statements.{listed}

pub loop-k-preserved : goal.loop-k-preserved
loop-k-preserved c =
    stepped c.args.out.now.items c.loop-k.out.items c.extend_pointer.new.out.items (listed (pointers c.args.kind.now 0 c.loop-k.k)) (codes ", " ++ (c.args.kind.now ++ decimal c.loop-k.k)) (listed (pointers c.args.kind.now 0 (c.loop-k.k + 1)))
    c.loop-k.invariant (c.in_ok-extend_pointer.ensures {u = tt}) (pointers_more c.args.kind.now c.loop-k.k)
