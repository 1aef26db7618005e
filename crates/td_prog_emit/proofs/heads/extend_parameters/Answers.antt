use Rattle.td_prog_emit.proofs.heads.extend_parameters.Goals as goal
use Rattle.std.proofs.Common.{◌++◌, ◌+◌, codes, decimal, map}
use Rattle.td_prog.specs.Syntax.{registers}
use Rattle.td_prog_emit.proofs.Texts.{stepped}
use Rattle.td_prog_emit.proofs.Variables.{parameters_more}
use Rattle.td_prog_text.specs.Functions.{parameter}
use Rattle.td_prog_text.specs.Statements.{listed}

pub loop-k-preserved : goal.loop-k-preserved
loop-k-preserved c =
    stepped c.args.out.now.items c.loop-k.out.items c.extend_parameter.new.out.items (listed (map parameter (registers 0 c.loop-k.k))) (codes ", uint64_t r" ++ decimal c.loop-k.k) (listed (map parameter (registers 0 (c.loop-k.k + 1))))
    c.loop-k.invariant (c.in_ok-extend_parameter.ensures {u = tt}) (parameters_more c.loop-k.k)
