use Rattle.std.proofs.Common.{arith}
use Rattle.td_verify.proofs.Tops.{top_more}
use Rattle.td_verify.proofs.operands.top_of.Goals as goal

pub loop-j-preserved : goal.loop-j-preserved
loop-j-preserved c = top_more c.args.map.now c.loop-j.j c.loop-j.top c.raised-top.result c.loop-j.invariant c.raised-top.ensures

pub returns : goal.returns
returns c = λ n. (
  λ all. (c.loop-j.invariant n).0 (λ i l. all i (omega (arith, l))),
  λ le i l. (c.loop-j.invariant n).1 le i (omega (arith, l)),
)
