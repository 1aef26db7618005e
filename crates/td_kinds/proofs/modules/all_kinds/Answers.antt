use Rattle.std.proofs.Common.{◌∙◌, ◌++◌, [], ◌∷◌, ap, sym, add-one}
use Rattle.td_kinds.specs.Kinds.{kind_at, body_kind, kinds_below}
use Rattle.td_kinds.specs.KindRules.{kinds_to}
use Rattle.td_kinds.proofs.Listing.{kind_at_kinds_to, kinds_to_next, got}
use Rattle.td_kinds.proofs.modules.all_kinds.Goals as goal

pub loop-definition-preserved : goal.loop-definition-preserved
loop-definition-preserved c =
    let ds = c.args.definitions.now in
    let i = c.loop-definition.definition-index in
    let d = c.definition-item in
    let so_far = c.loop-definition.invariant in
    c.in_ok-push.ensures.items
    ∙ ap (λ k. c.loop-definition.kinds.items ++ k ∷ [])
    (c.body_kind-kind.ensures ∙ ap (λ ks. body_kind (kind_at ks) d.result.body) (c.deref.ensures.value ∙ so_far) ∙ ap (λ f. body_kind f d.result.body) (kind_at_kinds_to ds i))
    ∙ ap (λ ks. ks ++ body_kind (kinds_below ds i) d.result.body ∷ []) so_far
    ∙ sym (kinds_to_next ds i d.result (got ds i d.result c.loop-definition-test.true d.is))
    ∙ ap (kinds_to ds) (sym (add-one i))
