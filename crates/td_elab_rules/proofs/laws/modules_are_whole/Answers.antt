use Rattle.td_elab_rules.proofs.Whole.{modules_are_whole}
use Rattle.td_elab_rules.proofs.laws.modules_are_whole.Goals as goal

pub returns : goal.returns
returns c = modules_are_whole
