use Rattle.std.proofs.Common.{◌∙◌, sym, subst}
use Rattle.td_elab_actions.specs.Scopes.{Grows}
use Rattle.td_elab_actions.proofs.Growing.{further}
use Rattle.td_elab_rules.specs.Fields.{with_field}
use Rattle.td_elab_fields.proofs.Growing.{grows_field}
use Rattle.td_elab_fields.proofs.SizeTurns.{size_next}
use Rattle.td_elab_fields.proofs.leading.sum.Goals as goal

pub loop-tree-preserved : goal.loop-tree-preserved
loop-tree-preserved c =
    let k = c.args.known.now in
    let s = c.loop-tree.scope in
    let f = c.tree-item.result in
    let so_far = c.loop-tree.invariant in
    let brought = c.in_ok-add_field-in-Some.ensures.scope in
    record {
      size =
          size_next k s c.add_field.new.scope c.loop-tree.room c.in-Some.after c.args.trees.now c.loop-tree.tree-index f c.loop-tree.total c.in-Some.size c.in_ok-total-in-Some.total _
          c.loop-tree-test.true c.tree-item.is (sym c.in-Some.is ∙ c.in_ok-size.ensures) brought c.in_ok-total-in-Some.ensures.size so_far.size;
      scope = subst (Grows c.args.scope.now) (sym brought) (further c.args.scope.now s (with_field k s f) so_far.scope (grows_field k s f));
    }
