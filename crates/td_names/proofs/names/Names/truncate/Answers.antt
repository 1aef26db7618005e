use Rattle.std.proofs.Common.{ap, ◌∙◌, sym, take}
use Rattle.std.proofs.lemmas.List.{take-map}
use Rattle.td_names.specs.Places.{names_of}
use Rattle.td_names.proofs.names.Names.truncate.Goals as goal

pub returns : goal.returns
returns c =
    ap names_of c.truncate.ensures
    ∙ sym (take-map (λ e. e.0) c.args.len c.self.inside.table)
    ∙ ap (λ t. take c.args.len t) c.self.view_is
