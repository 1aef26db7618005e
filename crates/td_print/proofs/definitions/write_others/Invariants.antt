use Rattle.std.proofs.Common.{◌≡◌, ◌++◌, [], ◌∷◌, take, flat_map}
use Rattle.td_print_layout.specs.Pieces.{text_of}
use Rattle.td_print_layout.specs.Pieces.{LineEnd}
use Rattle.td_print_layout.specs.Definitions.{definition_pieces}
use Rattle.td_print.proofs.definitions.write_others.Given as goal

abbrev pub invariant-loop-definition : goal.invariant-loop-definition
invariant-loop-definition l = l.out ≡ l.fn.out ++ text_of (flat_map (λ definition. (LineEnd ∷ []) ++ definition_pieces definition) (take l.definition-index l.others))
