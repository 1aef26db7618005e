use Rattle.std.proofs.Common.{Some}
use Rattle.td_host.proofs.arm.scattered.Goals as goal

pub returns : goal.returns
returns c = λ i. record { name = c.args.name; made = c.args.made; base = 0; length = c.length.ensures i; layout = Some (record { value = c.of.ensures i; marker = record {} }) }
