use Rattle.std.proofs.Common.{◌≡◌, sym, ap, ◌∙◌, ◌+◌, [], ◌∷◌, ◌++◌, drop, append_assoc, arith}
use Rattle.std.proofs.lemmas.List.{append-nil}
use Rattle.td_elab_rules.specs.Breach.{first_of}
use Rattle.td_elab_rules.specs.Known.{next_case}
use Rattle.td_elab_rules.specs.Constants.{constant_value, with_value_number, number_or_zero}
use Rattle.td_elab_rules.specs.Fields.{fields_breaches, fields_core}
use Rattle.td_elab_rules.specs.Casetypes.{case_breaches, case_taken, cases_breaches, cases_taken, cases_core}
use Rattle.td_elab_exprs.proofs.Steps.{first_append}
use Rattle.td_elab.proofs.casetypes.cases.Goals as goal
use Rattle.td_num.proofs.Truths.{all_dropped as done}
use Rattle.td_num.proofs.Lists.{drop_next as split}

pub loop-tree-preserved : goal.loop-tree-preserved
loop-tree-preserved c =
    let l = c.loop-tree in
    let x = c.tree-item.result in
    let names = c.args.names.now in
    let known = c.args.known.now in
    let scope = c.args.bindings.now.scope in
    let switch = c.args.switch in
    let rest = drop (l.tree-index + 1) c.args.trees.now in
    let s = sym (split c.args.trees.now l.tree-index x (omega arith) c.tree-item.is) in
    let e = c.in_ok-fields.ensures in
    let v = constant_value known scope x.constant in
    let value : c.constant_value-value.result ≡ v = c.constant_value-value.ensures ∙ ap (λ u. constant_value known u x.constant) l.invariant.scope in
    let inner : c.as_slice-inner.result.now ≡ x.fields = c.as_slice-inner.ensures in
    let number : c.number_or_zero.result ≡ number_or_zero v = c.number_or_zero.ensures ∙ ap number_or_zero value in
    let fields : c.in_ok-fields.fields ≡ fields_core names known scope x.fields =
    e.core
    ∙ ap (λ fs. fields_core names known l.bindings.scope fs) inner
    ∙ ap (λ u. fields_core names known u x.fields) l.invariant.scope in
    let taken : c.case_fields.new.bindings.taken ≡ case_taken l.bindings.taken x.fields = e.taken ∙ ap (λ fs. case_taken l.bindings.taken fs) inner in
    let before : c.add_value.new.before ≡ with_value_number l.before v = c.in_ok-add_value.ensures.values ∙ ap (λ u. with_value_number l.before u) value in
    let own = case_breaches known scope switch l.before x.constant in
    let under = fields_breaches known (next_case l.bindings.taken) scope x.fields in
    let more = cases_breaches known (case_taken l.bindings.taken x.fields) scope switch (with_value_number l.before v) rest in
    let checked : c.check_case.new.findings.first ≡ first_of l.findings.first own =
    c.check_case.ensures
    ∙ ap (λ u. first_of l.findings.first (case_breaches known u switch l.before x.constant)) l.invariant.scope in
    let found : c.case_fields.new.findings.first ≡ first_of c.check_case.new.findings.first under =
    e.first
    ∙ ap (λ fs. first_of c.check_case.new.findings.first (fields_breaches known (next_case l.bindings.taken) l.bindings.scope fs)) inner
    ∙ ap (λ u. first_of c.check_case.new.findings.first (fields_breaches known (next_case l.bindings.taken) u x.fields)) l.invariant.scope in
    let cases = cases_core names known scope rest in
    record {
      core =
          ap (λ p. p ++ cases) c.in_ok-push.ensures.ok
          ∙ append_assoc l.cases (record { value = c.number_or_zero.result; fields = c.in_ok-fields.fields } ∷ []) cases
          ∙ ap (λ n. l.cases ++ record { value = n; fields = c.in_ok-fields.fields } ∷ cases) number
          ∙ ap (λ fs. l.cases ++ record { value = number_or_zero v; fields = fs } ∷ cases) fields
          ∙ ap (λ r. l.cases ++ cases_core names known scope r) s
          ∙ l.invariant.core;
      first =
          ap (λ t. first_of c.case_fields.new.findings.first (cases_breaches known t scope switch c.add_value.new.before rest)) taken
          ∙ ap (λ b. first_of c.case_fields.new.findings.first (cases_breaches known (case_taken l.bindings.taken x.fields) scope switch b rest)) before
          ∙ ap (λ o. first_of o more) found
          ∙ ap (λ o. first_of (first_of o under) more) checked
          ∙ sym (first_append (first_of l.findings.first own) under more)
          ∙ sym (first_append l.findings.first own (under ++ more))
          ∙ ap (λ r. first_of l.findings.first (cases_breaches known l.bindings.taken scope switch l.before r)) s
          ∙ l.invariant.first;
      taken =
          ap (λ t. cases_taken t rest) taken
          ∙ ap (λ r. cases_taken l.bindings.taken r) s
          ∙ l.invariant.taken;
      scope = e.scope ∙ l.invariant.scope;
    }

pub returns-clause-core : goal.returns-clause-core
returns-clause-core c =
    let l = c.loop-tree in
    sym (append-nil l.cases) ∙ ap (λ r. l.cases ++ cases_core c.args.names.now c.args.known.now c.args.bindings.now.scope r) (sym (done c.args.trees.now l.tree-index (omega arith))) ∙ l.invariant.core

pub returns-clause-first : goal.returns-clause-first
returns-clause-first c =
    let l = c.loop-tree in
    ap (λ r. first_of l.findings.first (cases_breaches c.args.known.now l.bindings.taken c.args.bindings.now.scope c.args.switch l.before r)) (sym (done c.args.trees.now l.tree-index (omega arith))) ∙ l.invariant.first

pub returns-clause-taken : goal.returns-clause-taken
returns-clause-taken c =
    let l = c.loop-tree in
    ap (λ r. cases_taken l.bindings.taken r) (sym (done c.args.trees.now l.tree-index (omega arith))) ∙ l.invariant.taken
