use Rattle.std.proofs.Common.{◌≡◌, ◌⊎◌, List, ℕ, sym, subst}
use Rattle.td_front.specs.declared.error.FrontError.TheVariants as front
use Rattle.td_front.specs.ModuleText.{IsModuleText, RefusedBy}
use Rattle.td_cli_input.specs.Causes.{HasCause}
use Rattle.td_cli.specs.Benching.{RefusesText}
use Rattle.td_cli.proofs.Benches.{text_error}
use Rattle.td_cli.proofs.bench.checked_module.Goals as goal

pub returns-in-Ok-clause-stands : goal.returns-in-Ok-clause-stands
returns-in-Ok-clause-stands c =
    let P : List ℕ → Type 0 = λ t. IsModuleText t c.in-Ok.«module» in
    record { stands = subst P c.text.ensures.text c.in-Ok.ensures.stands; checked = c.in-Ok.ensures.checked }

pub returns-in-Err-clause-cause : goal.returns-in-Err-clause-cause
returns-in-Err-clause-cause c =
    let P : List ℕ → Type 0 = λ t. (c.in-Err.error ≡ front.NoMemory) ⊎ RefusedBy t c.in-Err.error in
    subst (HasCause (RefusesText c.args.format)) (sym c.of_module.ensures) (text_error c.args.format c.in-Err.error c.requires (subst P c.text.ensures.text c.in-Err.ensures.refused))
