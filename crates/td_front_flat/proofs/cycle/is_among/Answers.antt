use Rattle.std.proofs.Common.{◌∙◌}
use Rattle.td_front_flat.proofs.Among.{any_among}
use Rattle.td_front_flat.proofs.cycle.is_among.Goals as goal

pub returns : goal.returns
returns c = c.contains.ensures.value ∙ any_among c.args.numbers.now c.args.number
