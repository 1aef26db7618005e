use Rattle.td_vm.specs.Frames.{IsArmed}
use Rattle.td_use_text.proofs.report_all.Given as goal

abbrev pub invariant-loop-line : goal.invariant-loop-line
invariant-loop-line g l =
    (goal.iterator-loop-line g).can_next l.line-iterator ×
    (goal.iterator-loop-line g).is_finite l.line-iterator ×
    IsArmed l.compiled.code l.frame
