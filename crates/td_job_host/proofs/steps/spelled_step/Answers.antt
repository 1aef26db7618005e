use Rattle.std.proofs.Common.{◌≡◌, length, ap, ◌∙◌, arith, option_and_then}
use Rattle.td_job_host.specs.Steps.{step_parts}
use Rattle.td_job_host.proofs.Elements.{other_count}
use Rattle.td_job_host.proofs.steps.spelled_step.Goals.{in_default-via-then-as_slice-lt2, in_default-via-else-as_slice-lt2+else-this-lt3+else-this-lt4}
use Rattle.td_job_host.proofs.steps.spelled_step.Goals as goal

pub returns-in_default : goal.returns-in_default
returns-in_default c =
    let values = c.in_ok-as_array.field-0.now.items in
    let same : c.as_slice.result.now ≡ values = c.as_slice.ensures.value in
    let two : length values ≡ 2 → ⊥ = λ h. elim c.in_default.branch [
      | in_default-via-then-as_slice-lt2 w ↦ grind (arith, w, same, h)
      | in_default-via-else-as_slice-lt2+else-this-lt3+else-this-lt4 w ↦ grind (arith, w, same, h)
    ] in
    let three : length values ≡ 3 → ⊥ = λ h. elim c.in_default.branch [
      | in_default-via-then-as_slice-lt2 w ↦ grind (arith, w, same, h)
      | in_default-via-else-as_slice-lt2+else-this-lt3+else-this-lt4 w ↦ grind (arith, w, same, h)
    ] in
    other_count values two three ∙ ap (option_and_then step_parts) c.in_ok-as_array.ensures
