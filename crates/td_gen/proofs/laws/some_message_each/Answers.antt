use Rattle.td_gen.proofs.Made.{some_message}
use Rattle.td_gen.proofs.laws.some_message_each.Goals as goal

pub returns : goal.returns
returns c = some_message
