use Rattle.std.proofs.Common.{◌+◌, ◌∙◌, ap, sym, nat_eq, length, drop}
use Rattle.td_kinds.specs.Kinds.{kind_at}
use Rattle.td_kinds.specs.KindRules.{field_faults, fields_faults, first_fault}
use Rattle.td_kinds.proofs.Faults.{found, passed, fields_next}
use Rattle.td_kinds.proofs.fields.fields_fault.Goals as goal

pub returns-in-Some : goal.returns-in-Some
returns-in-Some c =
    let kinds = kind_at c.args.kinds.now in
    let fs = c.args.fields.now in
    let i = c.loop-i.i in
    let f = c.index-fields-i in
    found (field_faults kinds f.result (nat_eq (i + 1) (length fs))) (fields_faults kinds (drop (i + 1) fs)) c.in-Some.fault (sym c.in-Some.is ∙ c.field_fault.ensures)
    ∙ ap first_fault (sym (fields_next kinds fs i f.result c.loop-i-test.true f.is)) ∙ c.loop-i.invariant

pub loop-i-preserved : goal.loop-i-preserved
loop-i-preserved c =
    let kinds = kind_at c.args.kinds.now in
    let fs = c.args.fields.now in
    let i = c.loop-i.i in
    let f = c.index-fields-i in
    sym (passed (field_faults kinds f.result (nat_eq (i + 1) (length fs))) (fields_faults kinds (drop (i + 1) fs)) (λ x h. c.in_default.not-Some x (c.field_fault.ensures ∙ h)))
    ∙ ap first_fault (sym (fields_next kinds fs i f.result c.loop-i-test.true f.is)) ∙ c.loop-i.invariant
