use Rattle.std.proofs.Common.{sym, ap, ◌∙◌, ◌+◌, drop, arith}
use Rattle.td_elab_rules.specs.Breach.{first_of}
use Rattle.td_elab_rules.specs.Parameters.{with_param, head_of, param_breaches, params_breaches}
use Rattle.td_elab_exprs.proofs.Steps.{first_append}
use Rattle.td_elab_defs.proofs.parameters.head.Goals as goal
use Rattle.td_num.proofs.Lists.{drop_next as split}

pub loop-tree-preserved : goal.loop-tree-preserved
loop-tree-preserved c =
    let l = c.loop-tree in
    let names = c.args.names.now in
    let k = c.args.known.now in
    let x = c.tree-item.result in
    let rest = drop (l.tree-index + 1) c.args.trees.now in
    let s = sym (split c.args.trees.now l.tree-index x (omega arith) c.tree-item.is) in
    let next = with_param names k l.head x in
    record {
      core = ap (λ h. head_of names k h rest) c.in_ok-add_param.ensures ∙ ap (λ r. head_of names k l.head r) s ∙ l.invariant.core;
      first =
          ap (λ h. first_of c.check_param.new.findings.first (params_breaches names k h rest)) c.in_ok-add_param.ensures
          ∙ ap (λ o. first_of o (params_breaches names k next rest)) c.check_param.ensures
          ∙ sym (first_append l.findings.first (param_breaches k l.head x) (params_breaches names k next rest))
          ∙ ap (λ r. first_of l.findings.first (params_breaches names k l.head r)) s
          ∙ l.invariant.first;
    }
