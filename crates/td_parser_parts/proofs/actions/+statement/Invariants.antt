use Rattle.std.proofs.Common.{◌≡◌, ℕ, ◌+◌, ◌*◌, length}
use Rattle.td_grammar.specs.Grammar.{all_of}
use Rattle.td_grammar.specs.Actions as productions
use Rattle.td_grammar.proofs.Loops.{with_all}
use Rattle.td_parser_parts.proofs.actions.+statement.Given as goal

abbrev pub decreases-braced : goal.decreases-braced
decreases-braced l = 10 * l.braces + 0

abbrev pub decreases-maybe_other : goal.decreases-maybe_other
decreases-maybe_other l = 10 * l.braces + 1

abbrev pub decreases-branches : goal.decreases-branches
decreases-branches l = 10 * l.braces + 2

abbrev pub decreases-conditional : goal.decreases-conditional
decreases-conditional l = 10 * l.braces + 3

abbrev pub decreases-any_statement : goal.decreases-any_statement
decreases-any_statement l = 10 * l.braces + 4

abbrev pub decreases-statement : goal.decreases-statement
decreases-statement l = 10 * l.braces + 5

abbrev pub decreases-statements : goal.decreases-statements
decreases-statements l = 10 * l.braces + 6

abbrev pub decreases-braced_end : goal.decreases-braced_end
decreases-braced_end l = 10 * l.braces + 7

abbrev pub invariant-statements-loop-alloc : goal.invariant-statements-loop-alloc
invariant-statements-loop-alloc l = with_all l.block ((all_of (productions.statement l.braces)).reader.read l.rest) ≡ (all_of (productions.statement l.braces)).reader.read l.tokens

abbrev pub decreases-statements-loop-alloc : goal.decreases-statements-loop-alloc
decreases-statements-loop-alloc l = length l.rest
