use Rattle.std.proofs.Common.{◌≡◌, length, true, ◌⊎◌}
use Rattle.td_grammar.specs.Grammar.{all_of}
use Rattle.td_grammar.specs.Sets.{comes}
use Rattle.td_grammar.specs.Definitions.{def}
use Rattle.td_grammar.proofs.Loops.{with_all}
use Rattle.td_parser.specs.Pieces.{def_begins}
use Rattle.td_parser.proofs.modules.definitions.Given as goal

abbrev pub invariant-loop-alloc : goal.invariant-loop-alloc
invariant-loop-alloc l = (with_all l.definitions ((all_of def).reader.read l.rest) ≡ (all_of def).reader.read l.tokens) × ((l.rest ≡ l.tokens) ⊎ (comes def_begins l.tokens ≡ true))

abbrev pub decreases-loop-alloc : goal.decreases-loop-alloc
decreases-loop-alloc l = length l.rest
