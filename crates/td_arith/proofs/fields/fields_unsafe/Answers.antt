use Rattle.std.proofs.Common.{◌+◌, ◌∙◌, ap, drop, length}
use Rattle.td_expr.specs.Safe.{first}
use Rattle.td_arith.specs.Known.{facts_in}
use Rattle.td_arith.specs.SafeModule.{field_unsafe, known_after_field, fields_unsafe}
use Rattle.td_arith.proofs.Finding.{found_more, fields_left}
use Rattle.td_arith.proofs.fields.fields_unsafe.Goals as goal

pub loop-field-preserved : goal.loop-field-preserved
loop-field-preserved c =
    let facts = facts_in c.loop-field.known.items in
    let here = c.loop-field.here in
    let fs = c.args.fields.now in
    let i = c.loop-field.field-index in
    let f = c.field-item in
    let more = c.first_of-found.result in
    ap (λ gs. first more (fields_unsafe c.in_ok-here.here gs (drop (i + 1) fs))) c.in_ok-own.ensures.learned
    ∙ ap (λ k. first more (fields_unsafe k (known_after_field here facts f.result) (drop (i + 1) fs))) (c.in_ok-here.ensures ∙ ap (λ n. here + n) c.len.ensures)
    ∙ found_more c.loop-field.found c.in_ok-own.own more (field_unsafe here facts f.result) (fields_unsafe (here + length f.result.parts) (known_after_field here facts f.result) (drop (i + 1) fs)) _
    c.first_of-found.ensures c.in_ok-own.ensures.first (fields_left here facts fs i f.result c.loop-field.found _ c.loop-field-test.true f.is c.loop-field.invariant)
