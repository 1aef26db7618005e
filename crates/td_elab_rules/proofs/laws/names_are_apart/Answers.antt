use Rattle.td_elab_rules.proofs.Naming.{names_are_apart}
use Rattle.td_elab_rules.proofs.laws.names_are_apart.Goals as goal

pub returns : goal.returns
returns c = names_are_apart
