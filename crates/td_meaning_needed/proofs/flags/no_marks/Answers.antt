use Rattle.std.proofs.Common.{rules, ◌≡◌, ◌+◌, ℕ, Bool, false, List, [], ◌∷◌, ◌++◌, length, length-append, drop, arith, subst, sym, ap, ◌∙◌}
use Rattle.td_meaning_needed.specs.Needed.{AreMarks}
use Rattle.td_meaning_needed.proofs.NeededLemmas.{marks_push}
use Rattle.td_meaning_needed.proofs.flags.no_marks.Goals as goal

pub loop-value-preserved : goal.loop-value-preserved
loop-value-preserved c =
    let l = c.loop-value in
    let old : List Bool = l.marks.items in
    let pushed : c.push.new.self.items ≡ old ++ false ∷ [] = search rules in
    record {
      long = ap (λ (xs : List Bool). length xs) pushed ∙ omega (arith, l.invariant.long, length-append old (false ∷ []));
      clear = subst (λ xs. AreMarks xs (λ (i : ℕ). false)) (sym pushed) (marks_push old l.invariant.clear);
    }
