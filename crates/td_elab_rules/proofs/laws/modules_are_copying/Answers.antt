use Rattle.td_elab_rules.proofs.ModulesFormed.{modules_are_copying}
use Rattle.td_elab_rules.proofs.laws.modules_are_copying.Goals as goal

pub returns : goal.returns
returns c = modules_are_copying
