use Rattle.td_meaning.proofs.Forward.{reads_go_forward}
use Rattle.td_meaning.proofs.laws.reads_go_forward.Goals as goal

pub returns : goal.returns
returns c = reads_go_forward
