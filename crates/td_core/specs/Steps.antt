-- What an action does (own rule).
use Rattle.td_core.specs.declared.actions.ActionStep.{ActionStep}
use Rattle.td_core.specs.declared.actions.ActionStep.TheVariants.{Done, Set, Read, If, Return, Abort}
use Rattle.td_core.specs.Term.{Deed, done, set, keep, fork, answer, give_up}

abbrev pub done_by : ActionStep → Deed
done_by Done = done
done_by (Set cell e then) = set cell e then.value
done_by (Read cell then) = keep cell then.value
done_by (If e one other then) = fork e one.value other.value then.value
done_by (Return e) = answer e
done_by Abort = give_up
