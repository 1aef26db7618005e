use Rattle.std.proofs.Common.{◌≡◌, ◌+◌, ◌≤◌, length}
use Rattle.td_grammar.specs.Scan as spec
use Rattle.td_parser_expr.proofs.scan.scan.Given as goal

abbrev pub invariant-loop-rest : goal.invariant-loop-rest
invariant-loop-rest l = (spec.scan l.depth l.left l.rest ≡ spec.scan 0 l.limit l.tokens) × (l.depth + length l.rest ≤ l.count)

abbrev pub decreases-loop-rest : goal.decreases-loop-rest
decreases-loop-rest l = length l.rest
