-- What follows is shorter than the action (own rule).
use Rattle.std.specs.Prelude.{◌≤◌}
use Rattle.std.proofs.Common.{arith}
use Rattle.td_core.specs.declared.actions.Action.TheInside.{Inside}
use Rattle.td_core.specs.declared.actions.Action.TheDeep.{deep-Action, deep-ActionStep}
use Rattle.td_core.specs.declared.actions.ActionStep.{ActionStep}
use Rattle.td_core.specs.declared.actions.ActionStep.TheVariants.{Done, Set, Read, If, Return, Abort}
use Rattle.td_core.specs.Term.{length_of}
use Rattle.td_core.specs.Steps.{done_by}

steps_are_smaller : (s : ActionStep) → deep-ActionStep s ≤ length_of (done_by s)
steps_are_smaller Done = omega arith
steps_are_smaller (Set cell e then) = omega arith
steps_are_smaller (Read cell then) = omega arith
steps_are_smaller (If e one other then) = omega arith
steps_are_smaller (Return e) = omega arith
steps_are_smaller Abort = omega arith

pub rest_is_smaller : (a : Inside) → deep-Action a ≤ length_of (done_by a.step)
rest_is_smaller a = omega (arith, steps_are_smaller a.step)
