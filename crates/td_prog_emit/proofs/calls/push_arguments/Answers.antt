use Rattle.td_prog_emit.proofs.calls.push_arguments.Goals as goal
use Rattle.td_prog_emit.proofs.Arguments.{arguments_are}
use Rattle.td_prog_emit.proofs.Texts.{recut}

pub returns : goal.returns
returns c =
    recut c.push_given.ensures
    (arguments_are c.args.first c.routine_at-callee.result.now c.routine_at-own.result.now _ _ c.map_at-numbers.result.now _ _ _ c.split_at.ensures.front c.split_at.ensures.back c.routine_at-callee.ensures c.routine_at-own.ensures c.map_at-numbers.ensures)
