use Rattle.td_image_upgrade.proofs.Codes.{upgraded_is_code}
use Rattle.td_image_upgrade.proofs.laws.upgraded_is_code.Goals as goal

pub returns : goal.returns
returns c = upgraded_is_code
