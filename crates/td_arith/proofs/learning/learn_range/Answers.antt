use Rattle.td_arith.proofs.Cutting.{learned_twice}
use Rattle.td_arith.proofs.learning.learn_range.Goals as goal

pub returns : goal.returns
returns c = learned_twice _ _ _ _ _ c.in_ok-learn_comparison.ensures c.in_ok-learn_comparison-2.ensures
