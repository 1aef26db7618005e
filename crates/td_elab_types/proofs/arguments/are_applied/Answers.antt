use Rattle.td_elab_types.proofs.Sides.{unlike_applied}
use Rattle.td_elab_types.proofs.arguments.are_applied.Goals as goal

pub returns-then-parameters-args : goal.returns-then-parameters-args
returns-then-parameters-args c =
    unlike_applied c.args.known.now c.args.scope.now c.args.parameters.now c.args.args.now c.if-parameters-args.true
