use Rattle.std.proofs.Common.{◌≡◌, ap, ◌∙◌, Some}
use Rattle.td_elab_rules.specs.declared.known.Meaning.TheVariants.{Enum}
use Rattle.td_elab_rules.specs.Constants.{with_global}
use Rattle.td_elab_rules.specs.Enums.{items_after, item_values, with_enum_name}
use Rattle.td_elab_defs.proofs.Items.{enum_known}
use Rattle.td_elab_defs.proofs.enums.enumerate.Goals as goal

pub returns-clause-known : goal.returns-clause-known
returns-clause-known c =
    let k = c.args.known.now in
    let d = c.args.tree.now in
    let place = c.in_ok-place.ensures.place ∙ c.len.ensures in
    let named : c.declare.new.known ≡ with_enum_name k d =
    c.in_ok-declare.ensures.known
    ∙ ap (λ t. with_global k t (Enum d.base.number c.in_ok-place.place)) c.as_slice.ensures
    ∙ ap (λ p. with_global k d.name.text (Enum d.base.number p)) place in
    enum_known k d c.items-values.new.known c.in_ok-count.count c.in_ok-values.values c.push.new.self
    (c.in_ok-values.ensures.known
    ∙ ap (λ u. items_after u (Some 0) c.as_slice-2.result.now) named
    ∙ ap (λ is. items_after (with_enum_name k d) (Some 0) is) c.as_slice-2.ensures)
    c.in_ok-count.ensures.place
    (c.in_ok-values.ensures.values
    ∙ ap (λ u. item_values u (Some 0) c.as_slice-2.result.now) named
    ∙ ap (λ is. item_values (with_enum_name k d) (Some 0) is) c.as_slice-2.ensures)
    c.in_ok-push.ensures.ok
