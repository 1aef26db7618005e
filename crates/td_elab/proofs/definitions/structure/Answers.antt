use Rattle.std.proofs.Common.{◌≡◌, List, ◌++◌, ap, ◌∙◌, append_assoc}
use Rattle.td_ast.specs.declared.definitions.StructTree.{StructTree}
use Rattle.td_elab_rules.specs.declared.breach.Breach.{Breach}
use Rattle.td_elab_actions.specs.declared.scopes.Bindings.{Bindings}
use Rattle.td_elab_rules.specs.declared.known.Known.{Known}
use Rattle.td_elab_rules.specs.declared.known.Scope.{Scope}
use Rattle.td_elab_rules.specs.declared.known.Taken.{Taken}
use Rattle.td_elab_rules.specs.declared.parameters.Head.{Head}
use Rattle.td_elab_rules.specs.Breach.{first_of}
use Rattle.td_elab_rules.specs.ExprRules.{test_breaches}
use Rattle.td_elab_rules.specs.Fields.{fields_breaches}
use Rattle.td_elab_rules.specs.Constants.{global_breaches}
use Rattle.td_elab_rules.specs.Parameters.{no_head, head_of, params_breaches}
use Rattle.td_elab_rules.specs.Definitions.{struct_scope}
use Rattle.td_elab.proofs.Chains.{on_ok_always, three}
use Rattle.td_elab.proofs.definitions.structure.Goals as goal

abbrev tested : Known → StructTree → Scope → List Breach
tested k d s = test_breaches k (struct_scope k s d.fields) d.head.condition

abbrev under : Known → StructTree → Taken → Scope → List Breach
under k d t s = fields_breaches k t (struct_scope k s d.fields) d.fields

pub returns-in-Ok-clause-first : goal.returns-in-Ok-clause-first
returns-in-Ok-clause-first c =
    let k = c.args.known.now in
    let d = c.args.tree.now in
    let names = c.args.names.now in
    let o = c.args.findings.now.first in
    let h = c.in_ok-head.head in
    let b = c.parts_of-signature.ensures.bindings in
    let u = head_of names k no_head d.head.params in
    let head : h ≡ u = c.in_ok-head.ensures.core ∙ ap (λ ps. head_of names k no_head ps) c.as_slice.ensures in
    let own = params_breaches names k no_head d.head.params in
    let last = global_breaches k d.name in
    on_ok_always c.add_definition-added.result
    (c.add_definition-added.ensures.first
    ∙ ap (λ x. first_of x last) c.in-Ok.ensures.first
    ∙ ap (λ (x : Bindings). first_of (first_of c.head.new.findings.first (tested k d x.scope ++ under k d x.taken x.scope)) last) b
    ∙ ap (λ x. first_of (first_of x (tested k d h.scope ++ under k d h.taken h.scope)) last) c.in_ok-head.ensures.first
    ∙ ap (λ ps. first_of (first_of (first_of o (params_breaches names k no_head ps)) (tested k d h.scope ++ under k d h.taken h.scope)) last) c.as_slice.ensures
    ∙ ap (λ (g : Head). first_of (first_of (first_of o own) (tested k d g.scope ++ under k d g.taken g.scope)) last) head
    ∙ three o own (tested k d u.scope ++ under k d u.taken u.scope) last
    ∙ ap (λ x. first_of o (own ++ x)) (append_assoc (tested k d u.scope) (under k d u.taken u.scope) last))
