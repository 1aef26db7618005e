use Rattle.std.proofs.Common.{◌≡◌, ◌+◌, ◌*◌, length}
use Rattle.td_grammar.specs.Grammar.{all_of}
use Rattle.td_parser_expr.specs.Tiers as tiers
use Rattle.td_parser_expr.proofs.Leaning.{rank, with_lean}
use Rattle.td_parser_expr.proofs.expressions.+expression.Given as goal

abbrev pub decreases-group : goal.decreases-group
decreases-group l = 44 * l.depth + 0

abbrev pub decreases-triple : goal.decreases-triple
decreases-triple l = 44 * l.depth + 0

abbrev pub decreases-branches : goal.decreases-branches
decreases-branches l = 44 * l.depth + 0

abbrev pub decreases-range_okay : goal.decreases-range_okay
decreases-range_okay l = 44 * l.depth + 1

abbrev pub decreases-prim : goal.decreases-prim
decreases-prim l = 44 * l.depth + 2

abbrev pub decreases-un : goal.decreases-un
decreases-un l = 44 * l.depth + 3

abbrev pub decreases-operand : goal.decreases-operand
decreases-operand l = 44 * l.depth + (3 * rank l.tier + 4)

abbrev pub decreases-next_operand : goal.decreases-next_operand
decreases-next_operand l = 44 * l.depth + (3 * rank l.tier + 5)

abbrev pub decreases-leaning : goal.decreases-leaning
decreases-leaning l = 44 * l.depth + (3 * rank l.tier + 6)

abbrev pub decreases-comparing : goal.decreases-comparing
decreases-comparing l = 44 * l.depth + (3 * rank l.tier + 6)

abbrev pub decreases-choice : goal.decreases-choice
decreases-choice l = 44 * l.depth + 38

abbrev pub decreases-expr : goal.decreases-expr
decreases-expr l = 44 * l.depth + 39

abbrev pub invariant-leaning-loop-alloc : goal.invariant-leaning-loop-alloc
invariant-leaning-loop-alloc l = with_lean l.left ((all_of (tiers.next_at l.tier (tiers.un_at l.depth))).reader.read l.rest) ≡ (tiers.leaning_at l.tier (tiers.un_at l.depth)).reader.read l.tokens

abbrev pub decreases-leaning-loop-alloc : goal.decreases-leaning-loop-alloc
decreases-leaning-loop-alloc l = length l.rest

abbrev pub decreases-other_branch : goal.decreases-other_branch
decreases-other_branch l = 44 * l.depth + 40

abbrev pub decreases-group_end : goal.decreases-group_end
decreases-group_end l = 44 * l.depth + 40

abbrev pub decreases-triple_end : goal.decreases-triple_end
decreases-triple_end l = 44 * l.depth + 41

abbrev pub decreases-triple_rest : goal.decreases-triple_rest
decreases-triple_rest l = 44 * l.depth + 42

abbrev pub decreases-triple_of : goal.decreases-triple_of
decreases-triple_of l = 44 * l.depth + 43
