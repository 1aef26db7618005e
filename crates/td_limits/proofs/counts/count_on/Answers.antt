use Rattle.std.proofs.Common.{◌≡◌, ◌+◌, ◌++◌, List, [], Option, Some, None, drop, refl, sym, ap, ◌∙◌, arith}
use Rattle.td_num.proofs.Lists.{drop_next}
use Rattle.td_num.proofs.Truths.{all_dropped}
use Rattle.td_limits.specs.Imports.{Def}
use Rattle.td_limits.specs.declared.limits.Excess.{Excess}
use Rattle.td_limits.specs.Excesses.{first_excess}
use Rattle.td_limits.specs.Counts.{count_excesses}
use Rattle.td_limits.proofs.Counting.{CountTurn, count_stops, count_goes_on}
use Rattle.td_limits.proofs.counts.count_on.Goals as goal

pub loop-definition-preserved : goal.loop-definition-preserved
loop-definition-preserved c =
    let l = c.loop-definition in
    let d = c.definition-item.result in
    let ds = c.args.definitions.now in
    let turn : CountTurn l.count l.nodes c.saturating_add-count.result c.saturating_add-nodes.result d None = record {
      counted = omega arith;
      noded = omega arith;
      is_found = c.in-None.ensures;
    } in
    let next = λ (more : List Def). count_goes_on l.count l.nodes c.saturating_add-count.result c.saturating_add-nodes.result d (drop (l.definition-index + 1) ds ++ more) None turn refl in
    record {
      rest =
          λ more. (next more).0
          ∙ sym (ap (λ (rest : List Def). first_excess (count_excesses l.count l.nodes (rest ++ more))) (drop_next ds l.definition-index d (omega arith) c.definition-item.is))
          ∙ l.invariant.rest more;
      count = (next []).1.0;
      nodes = (next []).1.1;
    }

pub returns-in-Some-clause-passed : goal.returns-in-Some-clause-passed
returns-in-Some-clause-passed c =
    λ more.
    let l = c.loop-definition in
    let d = c.definition-item.result in
    let ds = c.args.definitions.now in
    let found : Option Excess = Some c.in-Some.excess in
    let turn : CountTurn l.count l.nodes c.saturating_add-count.result c.saturating_add-nodes.result d found = record {
      counted = omega arith;
      noded = omega arith;
      is_found = c.in-Some.ensures;
    } in
    sym (count_stops l.count l.nodes c.saturating_add-count.result c.saturating_add-nodes.result d (drop (l.definition-index + 1) ds ++ more) found c.in-Some.excess turn refl)
    ∙ sym (ap (λ (rest : List Def). first_excess (count_excesses l.count l.nodes (rest ++ more))) (drop_next ds l.definition-index d (omega arith) c.definition-item.is))
    ∙ l.invariant.rest more

pub returns-clause-passed : goal.returns-clause-passed
returns-clause-passed c =
    λ more.
    let l = c.loop-definition in
    ap (λ (rest : List Def). first_excess (count_excesses l.count l.nodes (rest ++ more))) (sym (all_dropped c.args.definitions.now l.definition-index (omega arith))) ∙ l.invariant.rest more
