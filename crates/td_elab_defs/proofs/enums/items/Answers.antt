use Rattle.std.proofs.Common.{◌≡◌, sym, ap, ◌∙◌, ◌+◌, [], ◌∷◌, ◌++◌, drop, append_assoc, arith}
use Rattle.td_elab_rules.specs.declared.known.Meaning.TheVariants.{Member}
use Rattle.td_elab_rules.specs.Breach.{first_of}
use Rattle.td_elab_rules.specs.Constants.{with_global, with_value_number, number_or_zero}
use Rattle.td_elab_rules.specs.Enums.{next_value, item_value, item_breaches, with_item, items_breaches, items_after, item_values}
use Rattle.td_elab_exprs.proofs.Steps.{first_append}
use Rattle.td_elab_defs.proofs.enums.items.Goals as goal
use Rattle.td_num.proofs.Lists.{drop_next as split}

pub loop-tree-preserved : goal.loop-tree-preserved
loop-tree-preserved c =
    let l = c.loop-tree in
    let x = c.tree-item.result in
    let base = c.args.base in
    let rest = drop (l.tree-index + 1) c.args.trees.now in
    let s = sym (split c.args.trees.now l.tree-index x (omega arith) c.tree-item.is) in
    let v = item_value l.known l.next x in
    let number : c.number_or_zero-number.result ≡ number_or_zero v = c.number_or_zero-number.ensures ∙ ap number_or_zero c.item_value-value.ensures in
    let known : c.declare.new.known ≡ with_item l.known l.next x =
    c.in_ok-declare.ensures.known
    ∙ ap (λ t. with_global l.known t (Member c.number_or_zero-number.result)) c.as_slice.ensures
    ∙ ap (λ n. with_global l.known x.name.text (Member n)) number in
    let before : c.add_value.new.before ≡ with_value_number l.before v = c.in_ok-add_value.ensures.values ∙ ap (λ u. with_value_number l.before u) c.item_value-value.ensures in
    let next : c.next_value-next.result ≡ next_value v = c.next_value-next.ensures ∙ ap next_value c.item_value-value.ensures in
    let k = with_item l.known l.next x in
    record {
      values =
          ap (λ p. p ++ item_values c.declare.new.known c.next_value-next.result rest) c.in_ok-push.ensures.ok
          ∙ append_assoc l.numbers (c.number_or_zero-number.result ∷ []) (item_values c.declare.new.known c.next_value-next.result rest)
          ∙ ap (λ n. l.numbers ++ n ∷ item_values c.declare.new.known c.next_value-next.result rest) number
          ∙ ap (λ u. l.numbers ++ number_or_zero v ∷ item_values u c.next_value-next.result rest) known
          ∙ ap (λ n. l.numbers ++ number_or_zero v ∷ item_values k n rest) next
          ∙ ap (λ r. l.numbers ++ item_values l.known l.next r) s
          ∙ l.invariant.values;
      first =
          ap (λ u. first_of c.check_item.new.findings.first (items_breaches u base c.add_value.new.before c.next_value-next.result rest)) known
          ∙ ap (λ b. first_of c.check_item.new.findings.first (items_breaches k base b c.next_value-next.result rest)) before
          ∙ ap (λ n. first_of c.check_item.new.findings.first (items_breaches k base (with_value_number l.before v) n rest)) next
          ∙ ap (λ o. first_of o (items_breaches k base (with_value_number l.before v) (next_value v) rest)) c.check_item.ensures
          ∙ sym (first_append l.findings.first (item_breaches l.known base l.before l.next x) (items_breaches k base (with_value_number l.before v) (next_value v) rest))
          ∙ ap (λ r. first_of l.findings.first (items_breaches l.known base l.before l.next r)) s
          ∙ l.invariant.first;
      known =
          ap (λ u. items_after u c.next_value-next.result rest) known
          ∙ ap (λ n. items_after k n rest) next
          ∙ ap (λ r. items_after l.known l.next r) s
          ∙ l.invariant.known;
    }
