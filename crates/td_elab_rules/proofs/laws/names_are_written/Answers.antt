use Rattle.td_elab_rules.proofs.NamesWritten.{names_are_written}
use Rattle.td_elab_rules.proofs.laws.names_are_written.Goals as goal

pub returns : goal.returns
returns c = names_are_written
