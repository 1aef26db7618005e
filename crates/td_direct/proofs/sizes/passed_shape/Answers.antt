use Rattle.std.proofs.Common.{rules, ◌≡◌, ℕ, true, subst}
use Rattle.std.specs.Prelude.{Option, IfSome}
use Rattle.td_meaning.specs.Meaning.{divides, equals}
use Rattle.td_direct.specs.Passing.{IsPassed, passes_all}
use Rattle.td_direct.proofs.PassingLemmas.{filled_pass, once_filled_pass}
use Rattle.td_direct.proofs.sizes.passed_shape.Goals as goal

pub returns-then-passes_all-clause-shape : goal.returns-then-passes_all-clause-shape
returns-then-passes_all-clause-shape c =
    let a = c.args in
    let m = a.types.now.module.now in
    let o = c.passed_size-then-divides.result in
    let n = c.in_ok-size-in-Filling.size in
    let literal = c.in_ok-size-in-Filling.ensures in
    let fits : divides c.in-Filling.step n ≡ true = search rules in
    let whole : passes_all o n ≡ true = search rules in
    filled_pass m a.bound a.element.now a.extent.now c.in-Filling.size c.in-Filling.step o n literal.0 c.in-Filling.is literal.1 fits whole
    (λ w e. subst (λ (o : Option ℕ). IfSome o (λ size. IsPassed m a.bound a.element.now size)) e c.passed_size-then-divides.ensures)

pub returns-then-one-size-clause-shape : goal.returns-then-one-size-clause-shape
returns-then-one-size-clause-shape c =
    let a = c.args in
    let m = a.types.now.module.now in
    let n = c.in_ok-size-in-OnceFilling.size in
    let literal = c.in_ok-size-in-OnceFilling.ensures in
    let fits : equals c.in-OnceFilling.step n ≡ true = search rules in
    once_filled_pass m a.bound a.element.now a.extent.now c.in-OnceFilling.size c.in-OnceFilling.step n literal.0 c.in-OnceFilling.is literal.1 fits
    (subst (λ size. IsPassed m a.bound a.element.now size) c.if-one-size.true c.in_ok-one-in-OnceFilling.ensures)
