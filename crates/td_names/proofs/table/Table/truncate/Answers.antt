use Rattle.std.proofs.Common.{ap, ◌∙◌, sym, take, subst}
use Rattle.std.proofs.lemmas.List.{take-map}
use Rattle.td_names.specs.Places.{entries_of, ArePlaced}
use Rattle.td_names.proofs.Tables.{fewer_placed}
use Rattle.td_names.proofs.table.Table.truncate.Goals as goal

pub invariant_of-self : goal.invariant_of-self
invariant_of-self g c =
    let fewer = fewer_placed 0 (entries_of c.self.inside.entries.items) c.self.inside.places.entries c.args.len c.self.invariant in
    subst (λ t. ArePlaced 0 t c.self.inside.places.entries)
    (take-map (λ e. (e.0.items, e.1)) c.args.len c.self.inside.entries.items ∙ sym (ap entries_of c.truncate.ensures.items)) fewer

pub returns : goal.returns
returns g c =
    ap entries_of c.truncate.ensures.items
    ∙ sym (take-map (λ e. (e.0.items, e.1)) c.args.len c.self.inside.entries.items)
    ∙ ap (λ t. take c.args.len t) c.self.view_is
