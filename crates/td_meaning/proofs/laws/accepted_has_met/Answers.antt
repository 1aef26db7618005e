use Rattle.td_meaning.proofs.Meeting.{accepted_has_met}
use Rattle.td_meaning.proofs.laws.accepted_has_met.Goals as goal

pub returns : goal.returns
returns c = accepted_has_met
