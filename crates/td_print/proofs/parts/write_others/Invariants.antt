use Rattle.std.proofs.Common.{◌≡◌, [], ◌∷◌, ◌++◌, take, flat_map}
use Rattle.td_print_layout.specs.Pieces.{LineEnd, text_of}
use Rattle.td_print_layout.specs.Definitions.{part_lines}
use Rattle.td_print.proofs.parts.write_others.Given as goal

abbrev pub invariant-loop-part : goal.invariant-loop-part
invariant-loop-part l = l.out ≡ l.fn.out ++ text_of (flat_map (λ part. (LineEnd ∷ []) ++ part_lines part) (take l.part-index l.others))
