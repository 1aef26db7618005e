use Rattle.td_elab_rules.proofs.Naming.{modules_are_named}
use Rattle.td_elab_rules.proofs.laws.modules_are_named.Goals as goal

pub returns : goal.returns
returns c = modules_are_named
