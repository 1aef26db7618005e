use Rattle.std.proofs.Common.{◌∙◌, ap}
use Rattle.td_names.specs.Names.{with_name}
use Rattle.td_names.specs.Places.{names_of}
use Rattle.td_names.proofs.Naming.{declared_names, on_ok}
use Rattle.td_names.proofs.names.Names.see.Goals as goal

pub returns-clause-ok : goal.returns-clause-ok
returns-clause-ok c =
    on_ok c.declare.result
    (λ h. ap names_of h ∙ declared_names c.self.inside.table c.args.name.now tt ∙ ap (λ names. with_name names c.args.name.now) c.self.view_is)
    c.declare.ensures.ok
