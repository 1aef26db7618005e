use Rattle.std.proofs.Common.{◌≡◌, ◌++◌, take, flat_map}
use Rattle.td_print_layout.specs.Pieces.{text_of}
use Rattle.td_print_layout.specs.Definitions.{case_lines}
use Rattle.td_print.proofs.definitions.write_cases.Given as goal

abbrev pub invariant-loop-case_tree : goal.invariant-loop-case_tree
invariant-loop-case_tree l = l.out ≡ l.fn.out ++ text_of (flat_map case_lines (take l.case_tree-index l.cases))
