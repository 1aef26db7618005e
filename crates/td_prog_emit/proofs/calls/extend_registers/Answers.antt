use Rattle.td_prog_emit.proofs.calls.extend_registers.Goals as goal
use Rattle.std.proofs.Common.{◌++◌, ◌+◌, codes, decimal}
use Rattle.td_prog_emit.proofs.Arguments.{registers_more}
use Rattle.td_prog_emit.proofs.Texts.{stepped}
use Rattle.td_prog_text.specs.Statements.{registers_text}

pub loop-k-preserved : goal.loop-k-preserved
loop-k-preserved c =
    stepped c.args.out.now.items c.loop-k.out.items c.extend_register.new.out.items (registers_text c.args.first c.loop-k.k) (codes ", r" ++ decimal (c.args.first + c.loop-k.k)) (registers_text c.args.first (c.loop-k.k + 1))
    c.loop-k.invariant (c.in_ok-extend_register.ensures {u = tt}) (registers_more c.args.first c.loop-k.k)
