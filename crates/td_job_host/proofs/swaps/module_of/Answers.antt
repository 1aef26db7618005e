use Rattle.std.proofs.Common.{◌≡◌, ℕ, List, inl, inr, subst}
use Rattle.td_job_host.specs.Imports.{FrontError}
use Rattle.td_front.specs.ModuleText.{RefusedBy}
use Rattle.td_job_host.proofs.swaps.module_of.Goals as goal

pub returns-in-Err-clause-err : goal.returns-in-Err-clause-err
returns-in-Err-clause-err c =
    elim c.in-Err.ensures.refused [
      | inl none ↦ inl (c.fault_of.ensures.memory none)
      | inr refused ↦
          let here : RefusedBy c.args.text.now c.in-Err.error = subst (λ (t : List ℕ). RefusedBy t c.in-Err.error) c.as_bytes.ensures.value refused in
          inr (c.fault_of.ensures.refused (λ same. subst (λ (e : FrontError). RefusedBy c.args.text.now e) same here), (c.in-Err.error, here))
    ]
