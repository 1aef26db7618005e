use Rattle.std.proofs.Common.{sym, ap, ◌∙◌, ◌+◌, ◌∷◌, ◌++◌, drop, append_assoc, arith}
use Rattle.std.proofs.lemmas.List.{append-nil}
use Rattle.td_elab_rules.specs.Breach.{first_of}
use Rattle.td_elab_rules.specs.Types.{args_core, args_breaches}
use Rattle.td_elab_exprs.proofs.Steps.{first_append}
use Rattle.td_elab_types.specs.Runs.{term_of, arg_breaches}
use Rattle.td_elab_types.proofs.Sides.{core_step, breaches_step, core_out, breaches_out, next_at, none_at}
use Rattle.td_elab_types.proofs.arguments.add_terms.Goals as goal
use Rattle.td_num.proofs.Truths.{all_dropped as done}
use Rattle.td_num.proofs.Lists.{drop_next as split}

pub loop-i-preserved : goal.loop-i-preserved
loop-i-preserved c =
    let l = c.loop-i in
    let k = c.args.known.now in
    let s = c.args.scope.now in
    let p = c.in-Some.parameter in
    let x = c.index-args-i.result in
    let ps = drop (l.i + 1) c.args.parameters.now in
    let es = drop (l.i + 1) c.args.args.now in
    let own = sym (next_at c.args.parameters.now l.i p c.in-Some.ensures) in
    let arg = sym (split c.args.args.now l.i x (omega arith) c.index-args-i.is) in
    record {
      core =
          ap (λ t. t ++ args_core k s ps es) c.in_ok-add_term-in-Some.ensures.core
          ∙ append_assoc l.terms (term_of k s p x) (args_core k s ps es)
          ∙ ap (λ t. l.terms ++ t) (sym (core_step k s p ps x es))
          ∙ ap (λ q. l.terms ++ args_core k s q (x ∷ es)) own
          ∙ ap (λ q. l.terms ++ args_core k s (drop l.i c.args.parameters.now) q) arg
          ∙ l.invariant.core;
      first =
          ap (λ o. first_of o (args_breaches k s ps es)) c.in_ok-add_term-in-Some.ensures.first
          ∙ sym (first_append l.findings.first (arg_breaches k s p x) (args_breaches k s ps es))
          ∙ ap (λ b. first_of l.findings.first b) (sym (breaches_step k s p ps x es))
          ∙ ap (λ q. first_of l.findings.first (args_breaches k s q (x ∷ es))) own
          ∙ ap (λ q. first_of l.findings.first (args_breaches k s (drop l.i c.args.parameters.now) q)) arg
          ∙ l.invariant.first;
    }

pub returns-in-None-clause-core : goal.returns-in-None-clause-core
returns-in-None-clause-core c =
    let l = c.loop-i in
    let es = drop l.i c.args.args.now in
    sym (append-nil l.terms)
    ∙ ap (λ q. l.terms ++ args_core c.args.known.now c.args.scope.now q es) (sym (none_at c.args.parameters.now l.i c.in-None.ensures))
    ∙ l.invariant.core

pub returns-in-None-clause-first : goal.returns-in-None-clause-first
returns-in-None-clause-first c =
    let l = c.loop-i in
    let es = drop l.i c.args.args.now in
    ap (λ q. first_of l.findings.first (args_breaches c.args.known.now c.args.scope.now q es)) (sym (none_at c.args.parameters.now l.i c.in-None.ensures))
    ∙ l.invariant.first

pub returns-clause-core : goal.returns-clause-core
returns-clause-core c =
    let l = c.loop-i in
    let k = c.args.known.now in
    let s = c.args.scope.now in
    let ps = drop l.i c.args.parameters.now in
    sym (append-nil l.terms)
    ∙ ap (λ t. l.terms ++ t) (sym (core_out k s ps))
    ∙ ap (λ q. l.terms ++ args_core k s ps q) (sym (done c.args.args.now l.i (omega arith)))
    ∙ l.invariant.core

pub returns-clause-first : goal.returns-clause-first
returns-clause-first c =
    let l = c.loop-i in
    let k = c.args.known.now in
    let s = c.args.scope.now in
    let ps = drop l.i c.args.parameters.now in
    ap (λ b. first_of l.findings.first b) (sym (breaches_out k s ps))
    ∙ ap (λ q. first_of l.findings.first (args_breaches k s ps q)) (sym (done c.args.args.now l.i (omega arith)))
    ∙ l.invariant.first
