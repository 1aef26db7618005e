use Rattle.std.proofs.Common.{◌<◌, ◌^◌, arith}
use Rattle.td_num.proofs.Lists.{each_by}
use Rattle.td_prog_emit.proofs.numbers.wide.Goals as goal

pub returns : goal.returns
returns c = each_by (λ v. v < 2 ^ 64) c.args.numbers.now 0 (λ k h. omega (arith, c.type_inv.numbers k))
