use Rattle.std.proofs.Common.{length, sym, ap, ◌∙◌, subst}
use Rattle.td_core.specs.Outcome.{outcome_of}
use Rattle.td_expr.specs.Sound.{Sound}
use Rattle.td_meaning.specs.Meaning.{meaning}
use Rattle.td_meaning.specs.Throughout.{Throughout}
use Rattle.td_meaning_plain.proofs.Copied.{outcome_by}
use Rattle.td_meaning_plain.proofs.meaning.meaning.Goals as goal

pub returns-clause-ok : goal.returns-clause-ok
returns-clause-ok c = λ sound.
    let a = c.args in
    let b = a.bytes.now in
    let n = length a.cells.now in
    let e = c.in_ok-verdict.ensures in
    let after = c.verdict_of.new.slate in
    c.in_ok-outcome_from.ensures.ok
    ∙ outcome_by n b c.in_ok-verdict.verdict after.trace after.cells.items e.empty_trace
    ∙ ap (outcome_of n b) (sym (e.ending (subst (λ xs. Throughout Sound a.m.now a.entry a.args.now xs b) (sym c.in_ok-opened.ensures.ok) sound)) ∙ ap (λ xs. (meaning a.m.now a.entry a.args.now xs b).ending) c.in_ok-opened.ensures.ok)
