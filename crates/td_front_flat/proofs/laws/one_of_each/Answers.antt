use Rattle.std.proofs.Common.{[], ◌∷◌, refl, ap, ◌∙◌}
use Rattle.std.specs.Prelude.{flat_map}
use Rattle.std.proofs.lemmas.List.{append-nil}
use Rattle.td_front_flat.specs.Definitions.{flat_part}
use Rattle.td_front_order.specs.Order.{order}
use Rattle.td_front_flat.specs.Order.{numbers_of}
use Rattle.td_front_flat.specs.Flat.{flat_at}
use Rattle.td_front_flat.proofs.laws.one_of_each.Goals as goal

pub returns-clause-one_module : goal.returns-clause-one_module
returns-clause-one_module c = λ tree. (refl, refl)

pub returns-clause-one_part : goal.returns-clause-one_part
returns-clause-one_part c =
    λ p e.
    ap (λ us. record { definitions = flat_map (flat_at (p ∷ [])) (order (numbers_of (p.name.text ∷ []) us ∷ [])) }) e
    ∙ ap (λ ds. record { definitions = ds }) (append-nil (flat_part (p.name.text ∷ []) 0 p))
