use Rattle.std.proofs.Common.{◌≡◌, List, [], ◌∷◌, ◌+◌, drop, sym, ap, ◌∙◌, subst, arith, ℕ}
use Rattle.std.proofs.lemmas.List.{drop_more, drop_all}
use Rattle.td_meaning.specs.Imports.{Part, Verdict}
use Rattle.td_core.specs.Outcome.{plain, and_then}
use Rattle.td_meaning.specs.Words64.{parts_meaning, with_part}
use Rattle.td_meaning.specs.Meaning.{extended}
use Rattle.td_meaning.specs.Verdicts.{ending_of, IsAt}
use Rattle.td_meaning.proofs.Steps.{parts_next, parts_none}
use Rattle.td_meaning.proofs.checking.check_parts.Goals as goal

pub returns-in-Reject-clause-ending : goal.returns-in-Reject-clause-ending
returns-in-Reject-clause-ending c =
    let a = c.args in
    let l = c.loop-part in
    let n = l.part-index in
    let parts : List Part = a.parts.now in
    let part : Part = c.part-item.result in
    let env : List ℕ = l.env.items in
    let split : drop n parts ≡ part ∷ drop (n + 1) parts = drop_more parts n part c.loop-part-test.true ∙ (λ k. sym c.part-item.is k ∷ drop (n + 1) parts) in
    let e = c.in_ok-check_part.ensures in
    l.invariant.ending
    ∙ parts_next a.ty a.start a.value (drop n parts) (drop (n + 1) parts) part env a.places.now a.pos l.cells _ split e.ending
    ∙ ap (λ (v : Verdict). and_then (plain (ending_of v c.check_part.new.trace c.check_part.new.cells)) (parts_meaning a.ty a.start a.value (drop (n + 1) parts) (with_part env a.value part) a.places.now)) c.in-Reject.is

pub loop-part-preserved : goal.loop-part-preserved
loop-part-preserved c =
    let a = c.args in
    let l = c.loop-part in
    let n = l.part-index in
    let parts : List Part = a.parts.now in
    let part : Part = c.part-item.result in
    let env : List ℕ = l.env.items in
    let split : drop n parts ≡ part ∷ drop (n + 1) parts = drop_more parts n part c.loop-part-test.true ∙ (λ k. sym c.part-item.is k ∷ drop (n + 1) parts) in
    let e = c.in_ok-check_part.ensures in
    let at = subst (λ (v : Verdict). IsAt v a.pos c.check_part.new.trace) c.in-Accept.is e.at in
    record {
      empty_trace = at.1;
      ending = l.invariant.ending
          ∙ parts_next a.ty a.start a.value (drop n parts) (drop (n + 1) parts) part env a.places.now a.pos l.cells _ split e.ending
          ∙ ap (λ (v : Verdict). and_then (plain (ending_of v c.check_part.new.trace c.check_part.new.cells)) (parts_meaning a.ty a.start a.value (drop (n + 1) parts) (with_part env a.value part) a.places.now)) c.in-Accept.is
          ∙ (λ k. parts_meaning a.ty a.start a.value (drop (n + 1) parts) (sym e.scope k) a.places.now (at.0 k) c.check_part.new.cells);
      scope = l.invariant.scope
          ∙ ap (extended env a.value) split
          ∙ ap (λ vs. extended vs a.value (drop (n + 1) parts)) (sym e.scope);
    }

pub returns-clause-ending : goal.returns-clause-ending
returns-clause-ending c =
    let a = c.args in
    let l = c.loop-part in
    let parts : List Part = a.parts.now in
    let none : drop l.part-index parts ≡ [] = drop_all l.part-index parts (omega (arith, c.loop-part-test.false)) in
    l.invariant.ending ∙ parts_none a.ty a.start a.value (drop l.part-index parts) l.env.items a.places.now a.pos l.cells none
