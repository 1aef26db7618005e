use Rattle.std.proofs.Common.{◌≡◌, length, ap, ◌∙◌, arith, option_and_then}
use Rattle.td_job.specs.Stretches.{two_parts}
use Rattle.td_job.proofs.Scattered.{other_parts}
use Rattle.td_job.proofs.stretches.spelled_stretch.Goals as goal

pub returns-in_default : goal.returns-in_default
returns-in_default c =
    let values = c.in_ok-as_array.field-0.now.items in
    let same : c.as_slice.result.now ≡ values = c.as_slice.ensures.value in
    let other : length values ≡ 2 → ⊥ = λ h. grind (arith, same, h) in
    other_parts values other ∙ ap (option_and_then two_parts) c.in_ok-as_array.ensures

pub returns-in_default-2 : goal.returns-in_default-2
returns-in_default-2 c =
    let values = c.in_ok-as_array.field-0.now.items in
    let same : c.as_slice.result.now ≡ values = c.as_slice.ensures.value in
    let other : length values ≡ 2 → ⊥ = λ h. grind (arith, same, h) in
    other_parts values other ∙ ap (option_and_then two_parts) c.in_ok-as_array.ensures
