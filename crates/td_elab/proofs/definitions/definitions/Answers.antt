use Rattle.std.proofs.Common.{None, sym, ap, ◌∙◌, ◌+◌, drop, arith}
use Rattle.td_elab_rules.specs.Breach.{first_of}
use Rattle.td_elab_rules.specs.Definitions.{definition_breaches, known_after}
use Rattle.td_elab.specs.Firsts.{breaches_each, earlier, first_among}
use Rattle.td_elab.proofs.definitions.definitions.Goals as goal
use Rattle.td_num.proofs.Truths.{all_dropped as done}
use Rattle.td_num.proofs.Lists.{drop_next as split}

pub loop-tree-preserved : goal.loop-tree-preserved
loop-tree-preserved c =
    let l = c.loop-tree in
    let names = c.args.names.now in
    let x = c.tree-item.result in
    let rest = drop (l.tree-index + 1) c.args.trees.now in
    let d = c.in_ok-definition.ensures in
    let s = split c.args.trees.now l.tree-index x (omega arith) c.tree-item.is in
    record {
      slots = d.slots;
      known = ap (λ k. known_after names k rest) d.known ∙ ap (λ r. known_after names l.known r) (sym s) ∙ l.invariant.known;
      first =
          ap (λ o. first_among o (breaches_each names c.definition.new.known rest)) (c.keep_earlier.ensures ∙ ap (λ o. earlier l.findings.first o) (d.first ∙ ap (λ o. first_of o (definition_breaches names l.known x)) c.new-own.ensures))
          ∙ ap (λ k. first_among (earlier l.findings.first (first_of None (definition_breaches names l.known x))) (breaches_each names k rest)) d.known
          ∙ ap (λ r. first_among l.findings.first (breaches_each names l.known r)) (sym s)
          ∙ l.invariant.first;
    }

pub returns-clause-known : goal.returns-clause-known
returns-clause-known c =
    let l = c.loop-tree in
    ap (λ r. known_after c.args.names.now l.known r) (sym (done c.args.trees.now l.tree-index (omega arith))) ∙ l.invariant.known

pub returns-clause-first : goal.returns-clause-first
returns-clause-first c =
    let l = c.loop-tree in
    ap (λ r. first_among l.findings.first (breaches_each c.args.names.now l.known r)) (sym (done c.args.trees.now l.tree-index (omega arith))) ∙ l.invariant.first
