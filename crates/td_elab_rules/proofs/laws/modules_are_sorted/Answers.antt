use Rattle.td_elab_rules.proofs.ModulesSorted.{modules_are_sorted}
use Rattle.td_elab_rules.proofs.laws.modules_are_sorted.Goals as goal

pub returns : goal.returns
returns c = modules_are_sorted
