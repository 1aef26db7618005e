use Rattle.std.proofs.Common.{◌≡◌, ◌++◌, take, flat_map}
use Rattle.td_print_layout.specs.Pieces.{text_of}
use Rattle.td_print_layout.specs.Sequences.{comma}
use Rattle.td_print_layout.specs.Expressions.{expression_pieces}
use Rattle.td_print.proofs.expressions.write_others.Given as goal

abbrev pub invariant-loop-e : goal.invariant-loop-e
invariant-loop-e l = l.out ≡ l.fn.out ++ text_of (flat_map (λ e. comma ++ expression_pieces e) (take l.e-index l.others))
