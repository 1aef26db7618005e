use Rattle.td_meaning.proofs.EndingRooms.{copies_are_within}
use Rattle.td_meaning.proofs.laws.copies_are_within.Goals as goal

pub returns : goal.returns
returns c = copies_are_within c.endings_are_within.ensures
