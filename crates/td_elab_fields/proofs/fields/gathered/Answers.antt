use Rattle.std.proofs.Common.{sym, ap, ◌∙◌, ◌+◌, ◌∷◌, ◌++◌, drop, arith}
use Rattle.td_elab_rules.specs.Breach.{first_of}
use Rattle.td_elab_rules.specs.BitFields.{gathered}
use Rattle.td_elab_rules.specs.Fields.{with_field, field_breaches, field_taken, fields_breaches, fields_taken, flats_of}
use Rattle.td_elab_fields.specs.Scopes.{fields_scope}
use Rattle.td_elab_fields.proofs.fields.gathered.Goals as goal
use Rattle.td_num.proofs.Lists.{drop_next as split}
use Rattle.td_elab_exprs.proofs.Steps.{first_append}

pub loop-tree-preserved : goal.loop-tree-preserved
loop-tree-preserved c =
    let l = c.loop-tree in
    let x = c.tree-item.result in
    let names = c.args.names.now in
    let known = c.args.known.now in
    let rest = drop (l.tree-index + 1) c.args.trees.now in
    let s = sym (split c.args.trees.now l.tree-index x (omega arith) c.tree-item.is) in
    let e = c.in_ok-flat.ensures in
    let later = with_field known l.bindings.scope x in
    let taken = field_taken l.bindings.taken x in
    record {
      core =
          ap (λ u. c.gather.new.self.fields ++ gathered c.gather.new.self.unit (flats_of names known u rest)) e.scope
          ∙ c.in_ok-gather.ensures (flats_of names known later rest)
          ∙ ap (λ f. l.gathering.fields ++ gathered l.gathering.unit (f ∷ flats_of names known later rest)) e.core
          ∙ ap (λ r. l.gathering.fields ++ gathered l.gathering.unit (flats_of names known l.bindings.scope r)) s
          ∙ l.invariant.core;
      first =
          ap (λ u. first_of c.field.new.findings.first (fields_breaches known c.field.new.bindings.taken u rest)) e.scope
          ∙ ap (λ t. first_of c.field.new.findings.first (fields_breaches known t later rest)) e.taken
          ∙ ap (λ o. first_of o (fields_breaches known taken later rest)) e.first
          ∙ sym (first_append l.findings.first (field_breaches known l.bindings.taken l.bindings.scope x) (fields_breaches known taken later rest))
          ∙ ap (λ r. first_of l.findings.first (fields_breaches known l.bindings.taken l.bindings.scope r)) s
          ∙ l.invariant.first;
      taken =
          ap (λ t. fields_taken t rest) e.taken
          ∙ ap (λ r. fields_taken l.bindings.taken r) s
          ∙ l.invariant.taken;
      scope =
          ap (λ u. fields_scope known u rest) e.scope
          ∙ ap (λ r. fields_scope known l.bindings.scope r) s
          ∙ l.invariant.scope;
      shut = λ none. absurd (omega (arith, none));
    }
