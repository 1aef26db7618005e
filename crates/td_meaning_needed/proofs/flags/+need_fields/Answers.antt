use Rattle.std.proofs.Common.{rules, ◌≡◌, ℕ, Bool, List, ◌∷◌, ◌||◌, refl, sym, ap, ◌∙◌}
use Rattle.td_core.specs.declared.module.Field.{Field}
use Rattle.td_meaning.specs.Naming.{parts_name, element_names, extent_names, fields_name}
use Rattle.td_meaning_needed.specs.Needed.{AreMarks}
use Rattle.td_meaning_needed.proofs.NeededLemmas.{marks_then, more_field}
use Rattle.td_meaning_needed.proofs.flags.+need_fields.Goals as goal

pub returns-clause-marks : goal.returns-clause-marks
returns-clause-marks t c =
    let a = c.args in
    let f : Field = c.in-Some.field.now in
    let later : List Field = c.in-Some.later.now in
    let fields : List Field = a.fields.now in
    let split : fields ≡ f ∷ later = search rules in
    let named = λ (i : ℕ). parts_name i c.as_slice-parts.result.now || fields_name i later in
    let with = λ (i : ℕ). named i || element_names i f.element in
    let parts : AreMarks c.need_parts-need.new.marks named = c.need_parts-need.ensures.marks later c.in_ok-need_fields.ensures.marks in
    let element : AreMarks c.mark_element.new.marks with = marks_then c.need_parts-need.new.marks c.mark_element.new.marks named (λ i. element_names i f.element) with parts c.mark_element.ensures (λ i. refl) in
    marks_then c.mark_element.new.marks c.mark_extent.new.marks with (λ i. extent_names i f.extent) (λ i. fields_name i fields) element c.mark_extent.ensures
    (λ i. ap (fields_name i) split
    ∙ more_field (element_names i f.element) (extent_names i f.extent) (parts_name i f.parts) (fields_name i later)
    ∙ (λ k. ((parts_name i (sym c.as_slice-parts.ensures k) || fields_name i later) || element_names i f.element) || extent_names i f.extent))
