use Rattle.td_prog_trees.proofs.Guarded.{unguarded}
use Rattle.td_prog_trees.proofs.laws.guard_is_never_met.Goals as goal

pub returns : goal.returns
returns c = unguarded
