use Rattle.std.proofs.Common.{ap, ◌∙◌}
use Rattle.td_elab.specs.Heads.{with_definition}
use Rattle.td_elab.proofs.definitions.add_type.Goals as goal
use Rattle.td_names.proofs.Naming.{on_ok as on_ok_then}

pub returns-in-Ok : goal.returns-in-Ok
returns-in-Ok c =
    on_ok_then c.push_type.result (λ e. e ∙ ap (λ k. with_definition k c.args.parameters c.args.definition) c.in-Ok.ensures) c.push_type.ensures
