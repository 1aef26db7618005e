use Rattle.std.proofs.Common.{◌≡◌, length}
use Rattle.td_grammar.proofs.Loops.{with_all}
use Rattle.td_parser.specs.Pieces.{items}
use Rattle.td_parser.proofs.Items.{read_after}
use Rattle.td_parser.proofs.enums.items.Given as goal

abbrev pub invariant-loop-alloc : goal.invariant-loop-alloc
invariant-loop-alloc l = with_all l.items (read_after l.rest) ≡ items.reader.read l.tokens

abbrev pub decreases-loop-alloc : goal.decreases-loop-alloc
decreases-loop-alloc l = length l.rest
