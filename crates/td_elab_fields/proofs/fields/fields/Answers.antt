use Rattle.std.proofs.Common.{length, ap, ◌∙◌}
use Rattle.td_elab_fields.specs.Scopes.{fields_scope}
use Rattle.td_elab_fields.proofs.Growing.{grows, cut}
use Rattle.td_elab_actions.specs.Scopes as back
use Rattle.td_elab_fields.proofs.fields.fields.Goals as goal

pub returns-clause-scope : goal.returns-clause-scope
returns-clause-scope c =
    let s = c.args.bindings.now.scope in
    let t = fields_scope c.args.known.now s c.args.trees.now in
    c.cut_back.ensures
    ∙ ap (λ n. back.cut_back n s.levels c.gathered.new.bindings.scope) c.len-locals.ensures
    ∙ ap (λ u. back.cut_back (length s.locals) s.levels u) c.in_ok-fields.ensures.scope
    ∙ cut s t (grows c.args.known.now s c.args.trees.now)
