use Rattle.std.proofs.Common.{◌≡◌, ℕ, List, Err, subst, sym, ap, ◌∙◌, ◌⊎◌}
use Rattle.td_cli_input.specs.Imports.{FrontError}
use Rattle.td_front.specs.declared.error.FrontError.TheVariants as front
use Rattle.td_front.specs.ModuleText.{IsModuleText, RefusedBy}
use Rattle.td_lexer.specs.Splits.{HasToken}
use Rattle.td_cli_input.specs.Causes.{HasCause, of_module}
use Rattle.td_cli_input.specs.Marker.{module_part}
use Rattle.td_cli_input.specs.Inputs.{RefusesText}
use Rattle.td_cli_input.proofs.Memory.{module_memory}
use Rattle.td_cli_input.proofs.Inputs.{text_there, text_not_refused, text_error}
use Rattle.td_cli_input.proofs.text.parse_module.Goals as goal
use Rattle.td_num.proofs.Equals.{same_error}

-- ---- the text is a module

pub returns-in-Ok-clause-stands : goal.returns-in-Ok-clause-stands
returns-in-Ok-clause-stands c = subst (λ (t : List ℕ). IsModuleText t c.in-Ok.«module») c.module_part.ensures c.in-Ok.ensures.stands

pub returns-in-Ok-clause-complete : goal.returns-in-Ok-clause-complete
returns-in-Ok-clause-complete c =
    λ n m marker stands.
    let here : IsModuleText (module_part c.args.input.now c.in-Some.place) m = text_there (λ (t : List ℕ). IsModuleText t m) c.args.input.now n c.in-Some.place marker c.in-Some.ensures stands in
    c.in-Ok.ensures.complete m (subst (λ (t : List ℕ). IsModuleText t m) (sym c.module_part.ensures) here)

pub returns-in-Ok-clause-refused : goal.returns-in-Ok-clause-refused
returns-in-Ok-clause-refused c =
    let never : (e : FrontError) → RefusedBy (module_part c.args.input.now c.in-Some.place) e → ⊥ =
    λ e h. c.in-Ok.ensures.exact e (subst (λ (t : List ℕ). RefusedBy t e) (sym c.module_part.ensures) h) in
    λ refusal h. absurd (text_not_refused c.args.input.now c.in-Some.place c.in-Some.ensures never refusal h)

-- ---- it is none

pub returns-in-Err-clause-cause : goal.returns-in-Err-clause-cause
returns-in-Err-clause-cause c =
    let R : List ℕ → Type 0 = λ t. (c.in-Err.error ≡ front.NoMemory) ⊎ RefusedBy t c.in-Err.error in
    subst (HasCause (RefusesText c.args.input.now)) (sym c.of_module.ensures) (text_error c.args.input.now c.in-Some.place c.in-Err.error c.in-Some.ensures (subst R c.module_part.ensures c.in-Err.ensures.refused))

pub returns-in-Err-clause-complete : goal.returns-in-Err-clause-complete
returns-in-Err-clause-complete c =
    λ n m marker stands.
    let here : IsModuleText (module_part c.args.input.now c.in-Some.place) m = text_there (λ (t : List ℕ). IsModuleText t m) c.args.input.now n c.in-Some.place marker c.in-Some.ensures stands in
    c.of_module.ensures ∙ ap of_module (c.in-Err.ensures.complete m (subst (λ (t : List ℕ). IsModuleText t m) (sym c.module_part.ensures) here))

pub returns-in-Err-clause-memory : goal.returns-in-Err-clause-memory
returns-in-Err-clause-memory c =
    λ same.
    let told = c.in-Err.ensures.memory (ap Err (module_memory c.in-Err.error c.of_module.result c.of_module.ensures (same_error _ _ same))) in
    (c.in-Some.place, c.in-Some.ensures, subst HasToken c.module_part.ensures told)
