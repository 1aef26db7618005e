use Rattle.std.proofs.Common.{◌≡◌, ◌<◌, Some, ap, ◌∙◌, length, slice_get, subst, sym}
use Rattle.std.proofs.lemmas.List.{length-map}
use Rattle.td_names.specs.Places.{names_of}
use Rattle.td_names.proofs.Tables.{entry_name}
use Rattle.td_names.proofs.table.Table.name.Goals as goal

pub returns : goal.returns
returns g c =
    let es = c.self.inside.entries.items in
    let within : c.args.place < length es = subst (λ n. c.args.place < n) (ap (λ l. length l) (sym c.self.view_is) ∙ length-map es (λ e. (e.0.items, e.1))) c.requires in
    subst (λ l. slice_get (names_of l) c.args.place ≡ Some c.as_slice.result.now) c.self.view_is
    (entry_name es c.args.place c.index.result.now within c.index.ensures ∙ ap (λ x. Some x) (sym c.as_slice.ensures.value))
