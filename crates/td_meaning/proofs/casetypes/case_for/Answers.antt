use Rattle.std.proofs.Common.{◌≡◌, List, [], ◌∷◌, ◌+◌, drop, false, sym, ap, ◌∙◌, arith}
use Rattle.std.specs.Prelude.{Option}
use Rattle.std.proofs.lemmas.Bool.{ne_eqb}
use Rattle.std.proofs.lemmas.List.{drop_more, drop_all}
use Rattle.td_meaning.specs.Imports.{Case, Field}
use Rattle.td_meaning.specs.Meaning.{case_for}
use Rattle.td_meaning.proofs.Steps.{case_first}
use Rattle.td_meaning.proofs.casetypes.case_for.Goals as goal

pub loop-case-preserved : goal.loop-case-preserved
loop-case-preserved c =
    let cases : List Case = c.args.cases.now in
    let default : Option (List Field) = c.args.default.now in
    let i = c.loop-case.case-index in
    let here : Case = c.case-item.result in
    let split : drop i cases ≡ here ∷ drop (i + 1) cases = drop_more cases i here c.loop-case-test.true ∙ (λ k. sym c.case-item.is k ∷ drop (i + 1) cases) in
    c.loop-case.invariant ∙ case_first c.args.value (drop i cases) (drop (i + 1) cases) here default false split (ne_eqb here.value c.args.value c.if-case-value.false)

pub returns-in-Some : goal.returns-in-Some
returns-in-Some c =
    let cases : List Case = c.args.cases.now in
    let default : Option (List Field) = c.args.default.now in
    let none : drop c.loop-case.case-index cases ≡ [] = drop_all c.loop-case.case-index cases (omega (arith, c.loop-case-test.false)) in
    c.loop-case.invariant ∙ ap (λ cs. case_for c.args.value cs default) none ∙ c.in-Some.is

pub returns-in-None : goal.returns-in-None
returns-in-None c =
    let cases : List Case = c.args.cases.now in
    let default : Option (List Field) = c.args.default.now in
    let none : drop c.loop-case.case-index cases ≡ [] = drop_all c.loop-case.case-index cases (omega (arith, c.loop-case-test.false)) in
    c.loop-case.invariant ∙ ap (λ cs. case_for c.args.value cs default) none ∙ c.in-None.is
