use Rattle.std.proofs.Common.{◌≡◌, ℕ, List, inl, inr, refl, sym, ap, ◌∙◌, subst}
use Rattle.std.proofs.lemmas.Bool.{false≢true}
use Rattle.td_front.specs.declared.error.FrontError.{FrontError}
use Rattle.td_front.specs.ModuleText.{IsModuleText, RefusedBy}
use Rattle.td_descr.specs.Shape.{has_ring_shape}
use Rattle.td_cli_host.proofs.Ringed.{same_bytes}
use Rattle.td_cli_host.proofs.rings.ring_module.Goals as goal

pub returns-in-Err-clause-err : goal.returns-in-Err-clause-err
returns-in-Err-clause-err c =
    let e : FrontError = c.in-Err.error in
    elim c.in-Err.ensures.refused [
      | inl none ↦ inl (c.ring_refusal.ensures.memory none)
      | inr refused ↦ inr (
        c.ring_refusal.ensures.refused (λ same. subst (RefusedBy c.ring_text.result.now) same refused),
        λ m is. subst (RefusedBy c.ring_text.result.now) (c.in-Err.ensures.complete m (subst (λ (t : List ℕ). IsModuleText t m) (sym (same_bytes c.ring_text.result.now c.ring_text.ensures.text)) is.0)) refused,
      )
    ]

pub returns-then-is_ring-clause-module : goal.returns-then-is_ring-clause-module
returns-then-is_ring-clause-module c =
    (subst (λ (t : List ℕ). IsModuleText t c.in-Ok.«module») (same_bytes c.ring_text.result.now c.ring_text.ensures.text) c.in-Ok.ensures.stands, sym c.is_ring.ensures ∙ c.if-is_ring.true)

pub returns-else-is_ring-clause-err : goal.returns-else-is_ring-clause-err
returns-else-is_ring-clause-err c =
    inr (
      refl,
      λ m is.
          let same : c.in-Ok.«module» ≡ m = c.in-Ok.ensures.complete m (subst (λ (t : List ℕ). IsModuleText t m) (sym (same_bytes c.ring_text.result.now c.ring_text.ensures.text)) is.0) in
          false≢true (sym c.if-is_ring.false ∙ c.is_ring.ensures ∙ ap has_ring_shape same ∙ is.1),
    )
