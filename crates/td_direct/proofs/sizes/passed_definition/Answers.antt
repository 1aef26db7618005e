use Rattle.std.proofs.Common.{rules, ◌≡◌, ◌+◌, ◌≤◌, ℕ, List, None, Some, sym, ap, ◌∙◌}
use Rattle.td_direct.specs.Imports.{TypeDef, Struct}
use Rattle.td_core.specs.Outcome.{accepted}
use Rattle.td_meaning.specs.Words64.{below, definition_meaning}
use Rattle.td_direct.specs.Passing.{AreQuiet}
use Rattle.td_direct.proofs.PassingLemmas.{struct_pass, if_some_map}
use Rattle.td_direct.proofs.sizes.passed_definition.Goals as goal

pub returns-in-Struct : goal.returns-in-Struct
returns-in-Struct c =
    let a = c.args in
    let m = a.types.now.module.now in
    let d : TypeDef = a.definition.now in
    let none : d.guard ≡ None = search rules in
    if_some_map c.quiet_sum.result (AreQuiet m a.bound c.as_slice.result.now)
    (λ size. (args places cells b : List ℕ) (p end : ℕ) → p + size ≤ end → definition_meaning m.listed (below m.listed m.definitions a.bound) (Some d) args places cells b p end ≡ accepted (p + size) cells)
    c.quiet_sum.ensures
    (λ size quiet. struct_pass m a.bound d c.as_slice.result.now size none (c.in-Struct.is ∙ ap Struct (sym c.as_slice.ensures)) quiet)
