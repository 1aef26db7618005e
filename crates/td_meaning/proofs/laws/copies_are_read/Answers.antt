use Rattle.td_meaning.proofs.CopiesRead.{copies_are_read}
use Rattle.td_meaning.proofs.laws.copies_are_read.Goals as goal

pub returns : goal.returns
returns c = copies_are_read
