use Rattle.std.proofs.Common.{◌≡◌, length}
use Rattle.td_grammar.specs.Reading.{with_first}
use Rattle.td_grammar.specs.Grammar.{all_of}
use Rattle.td_grammar.specs.Fields.{field, type_tree}
use Rattle.td_grammar.proofs.Loops.{with_all}
use Rattle.td_parser_parts.proofs.fields.fields_from.Given as goal

abbrev pub invariant-loop-alloc : goal.invariant-loop-alloc
invariant-loop-alloc l = with_all l.fields ((all_of field).reader.read l.rest) ≡ with_first l.fn.first ((all_of field).reader.read l.tokens)

abbrev pub decreases-loop-alloc : goal.decreases-loop-alloc
decreases-loop-alloc l = length l.rest
