use Rattle.std.proofs.Common.{rules, ◌≡◌, ◌+◌, ◌∷◌, drop, sym, ◌∙◌, arith, Some}
use Rattle.std.proofs.lemmas.List.{drop_more}
use Rattle.serde_json.specs.Find.{as_str}
use Rattle.serde_json.specs.View.{view}
use Rattle.td_job.proofs.Forms.{part_depth, digits_form, no_digits_form}
use Rattle.td_job.proofs.written.+forms.Goals as goal

pub form_of-returns-then-spells_bytes : goal.form_of-returns-then-spells_bytes
form_of-returns-then-spells_bytes t c =
    let text : as_str (view c.args.value.now) ≡ Some c.in-Some-as_str.text.now = search rules in
    sym (digits_form (view c.args.value.now) c.in-Some-as_str.text.now text (sym c.if-spells_bytes.ensures))

pub form_of-returns-else-spells_bytes : goal.form_of-returns-else-spells_bytes
form_of-returns-else-spells_bytes t c =
    let text : as_str (view c.args.value.now) ≡ Some c.in-Some-as_str.text.now = search rules in
    sym (no_digits_form (view c.args.value.now) c.in-Some-as_str.text.now text (sym c.if-spells_bytes.ensures))

pub forms_of-form_of-requires : goal.forms_of-form_of-requires
forms_of-form_of-requires t c =
    let vs = c.args.values.now in
    let i = c.loop-value.value-index in
    let v = c.value-item.result in
    let split = drop_more vs i v c.loop-value-test.true ∙ (λ k. sym c.value-item.is k ∷ drop (i + 1) vs) in
    let less = part_depth vs (drop (i + 1) vs) i v split in
    (omega (arith, c.decreases, less), tt)
