use Rattle.std.proofs.Common.{◌∙◌, ap}
use Rattle.td_kinds.specs.Kinds.{kind_at, joined}
use Rattle.td_kinds.proofs.Joining.{joined_first, joined_next}
use Rattle.td_kinds.proofs.fields.fields_kind.Goals as goal
use Rattle.td_kinds.proofs.fields.fields_kind.Goals.{then-k-eq0, else-k-eq0}

pub loop-k-preserved : goal.loop-k-preserved
loop-k-preserved c =
    let kinds = kind_at c.args.kinds.now in
    let field = c.index-fields-fields in
    elim c.if-k-eq0.branch [
      | then-k-eq0 w ↦ w.kind-is ∙ c.field_kind-own.ensures ∙ joined_first kinds c.args.fields.now c.loop-k.k field.result w.if-k-eq0.true c.loop-k-test.true field.is
      | else-k-eq0 w ↦ w.kind-is ∙ w.joined-kind.ensures ∙ ap (λ k. joined k c.loop-k.kind) c.field_kind-own.ensures
          ∙ joined_next kinds c.args.fields.now c.loop-k.k field.result c.loop-k.kind w.if-k-eq0.false c.loop-k-test.true field.is c.loop-k.invariant
    ]
