use Rattle.std.proofs.Common.{◌≡◌, ◌++◌, take, flat_map}
use Rattle.td_print_layout.specs.Pieces.{text_of}
use Rattle.td_print_layout.specs.Sequences.{comma}
use Rattle.td_print_layout.specs.Parameters.{parameter_pieces}
use Rattle.td_print.proofs.parameters.write_others.Given as goal

abbrev pub invariant-loop-parameter : goal.invariant-loop-parameter
invariant-loop-parameter l = l.out ≡ l.fn.out ++ text_of (flat_map (λ parameter. comma ++ parameter_pieces parameter) (take l.parameter-index l.others))
