use Rattle.td_vm.specs.Frames.{IsArmed}
use Rattle.td_try_code.proofs.machine.put_runs.Given as goal

abbrev pub invariant-loop-text : goal.invariant-loop-text
invariant-loop-text l = IsArmed l.code l.frame
