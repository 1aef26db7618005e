use Rattle.std.proofs.Common.{◌≡◌, [], ◌∷◌, ◌++◌, ap, ◌∙◌}
use Rattle.td_kinds.specs.Kinds as kinds
use Rattle.td_elab_rules.specs.Known.{kind_at}
use Rattle.td_elab.proofs.definitions.push_type.Goals as goal
use Rattle.td_names.proofs.Naming.{on_ok as on_ok_then}

pub returns : goal.returns
returns c =
    let k = c.args.known.now in
    let d = c.args.definition in
    let kind : c.body_kind-kind.result ≡ kinds.body_kind (kind_at k) d.body = c.body_kind-kind.ensures ∙ ap (λ ks. kinds.body_kind (kinds.kind_at ks) d.body) c.as_slice.ensures in
    let more = c.in_ok-push-2.ensures.ok ∙ ap (λ x. k.kinds ++ x ∷ []) kind in
    on_ok_then c.push-3.result (λ e. λ i. record {
      count = k.count;
      globals = k.globals;
      used = k.used;
      records = k.records;
      signatures = e i;
      kinds = more i;
      definitions = c.in_ok-push.ensures.ok i;
      listed = k.listed;
      entries = k.entries;
    }) c.push-3.ensures.ok
