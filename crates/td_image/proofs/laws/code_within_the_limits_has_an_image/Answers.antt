use Rattle.td_image.proofs.Within.{within_fits}
use Rattle.td_image.proofs.Written.{as_written}
use Rattle.td_image.proofs.laws.code_within_the_limits_has_an_image.Goals as goal

pub returns : goal.returns
returns c p code within = as_written p (within_fits p code within)
