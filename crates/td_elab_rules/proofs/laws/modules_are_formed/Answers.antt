use Rattle.td_elab_rules.proofs.ModulesFormed.{modules_are_formed}
use Rattle.td_elab_rules.proofs.laws.modules_are_formed.Goals as goal

pub returns : goal.returns
returns c = modules_are_formed
