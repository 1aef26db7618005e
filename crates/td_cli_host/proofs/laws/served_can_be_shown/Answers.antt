use Rattle.td_cli_host.proofs.Answered.{can_be_shown}
use Rattle.td_cli_host.proofs.laws.served_can_be_shown.Goals as goal

pub returns : goal.returns
returns c = can_be_shown
