use Rattle.std.proofs.Common.{◌≡◌, flat_map, ap, ◌∙◌}
use Rattle.td_front_order.specs.Order.{order}
use Rattle.td_front_flat.specs.Order.{graph_of}
use Rattle.td_front_flat.specs.Flat.{flat_in, flat_at}
use Rattle.td_front_flat.proofs.flatten.flat_parts.Goals as goal

pub returns-clause-ok : goal.returns-clause-ok
returns-clause-ok c =
    let parts = c.args.parts.now in
    let numbers : c.as_slice.result.now ≡ order (graph_of parts) = c.as_slice.ensures ∙ c.in_ok-numbers.ensures.ok.1 in (
      c.in_ok-numbers.ensures.ok.0,
      ap (λ ds. record { definitions = ds }) (c.in_ok-definitions.ensures ∙ ap (λ ns. flat_map (flat_in ns parts) c.as_slice.result.now) c.in_ok-names.ensures.ok.0 ∙ ap (λ ns. flat_map (flat_at parts) ns) numbers),
    )
