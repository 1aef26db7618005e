use Rattle.std.proofs.Common.{◌≡◌, ◌++◌, take, flat_map}
use Rattle.td_print_layout.specs.Pieces.{text_of}
use Rattle.td_print_layout.specs.Actions.{statement_after}
use Rattle.td_print.proofs.actions.write_after_blanks.Given as goal

abbrev pub invariant-loop-statement : goal.invariant-loop-statement
invariant-loop-statement l = l.out ≡ l.fn.out ++ text_of (flat_map statement_after (take l.statement-index l.statements))
