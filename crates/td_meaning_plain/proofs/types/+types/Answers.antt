use Rattle.std.proofs.Common.{◌≡◌, ℕ, suc, ◌+◌, ◌-◌, List, [], ◌++◌, length, take, drop, None, Some, sym, ap, ◌∙◌, arith}
use Rattle.std.specs.Prelude.{slice_get}
use Rattle.std.proofs.lemmas.Option.{gets}
use Rattle.std.proofs.lemmas.Grind.{common_steps}
use Rattle.std.proofs.lemmas.List.{drop_all}
use Rattle.td_num.proofs.Lists.{lent}
use Rattle.td_core.specs.declared.module.Extent.{Extent}
use Rattle.td_core.specs.declared.module.Field.{Field as FieldDef}
use Rattle.td_core.specs.declared.outcome.Spot.TheVariants.{Field}
use Rattle.td_core.specs.declared.outcome.Reason.TheVariants.{Impossible}
use Rattle.td_core.specs.declared.outcome.Verdict.{Verdict}
use Rattle.td_core.specs.Outcome.{Ending, Behavior, Rejected, plain, and_then, ending_within}
use Rattle.td_meaning.specs.Meaning.{elements, filled, extended, field_place, first_name}
use Rattle.td_meaning.specs.Words64.{below, fields_meaning, content_meaning, shape_meaning, element_meaning, parts_meaning, field_number}
use Rattle.td_meaning.specs.Verdicts.{ending_of, frame_place}
use Rattle.td_meaning.proofs.Below.{below_past}
use Rattle.td_meaning_plain.proofs.Endings.{empty_at, then_same, field_by, elements_over, elements_on}
use Rattle.td_meaning_plain.proofs.types.+types.Goals as goal
use Rattle.td_meaning.proofs.Filling.{named_by, accepted_at, fields_none, elements_done}

pub all_elements-returns-then-position-walk-clause-ending : goal.all_elements-returns-then-position-walk-clause-ending
all_elements-returns-then-position-walk-clause-ending t c =
    let a = c.args in
    let l = c.loop-turn in
    let each = element_meaning a.walk.now.m.now.listed (below a.walk.now.m.now.listed a.walk.now.m.now.definitions a.walk.now.bound) a.element.now a.env.now a.walk.now.places.now a.walk.now.message.now a.start a.walk.now.end in
    let full = suc (a.walk.now.end - a.start) - l.turn in
    let more = a.walk.now.end - a.start - l.turn in
    let is : full ≡ suc more = omega (arith, c.loop-turn-test.true, c.saturating_sub-size.ensures) in
    l.invariant.ending ∙ elements_done each full more a.start a.walk.now.end l.position l.slate.cells.items is c.if-position-walk.true

pub all_elements-returns-in-Reject-clause-ending : goal.all_elements-returns-in-Reject-clause-ending
all_elements-returns-in-Reject-clause-ending t c =
    let a = c.args in
    let l = c.loop-turn in
    let each = element_meaning a.walk.now.m.now.listed (below a.walk.now.m.now.listed a.walk.now.m.now.definitions a.walk.now.bound) a.element.now a.env.now a.walk.now.places.now a.walk.now.message.now a.start a.walk.now.end in
    let full = suc (a.walk.now.end - a.start) - l.turn in
    let more = a.walk.now.end - a.start - l.turn in
    let is : full ≡ suc more = omega (arith, c.loop-turn-test.true, c.saturating_sub-size.ensures) in
    let o : Ending = ending_of c.in_ok-pos.field-0 c.one_element.new.slate.trace c.one_element.new.slate.cells.items in
    let on = elements_on each full more a.start a.walk.now.end l.position l.slate.cells.items o is c.if-position-walk.false c.in_ok-pos.ensures.ending in
    l.invariant.ending ∙ on ∙ ap (λ (v : Verdict). (and_then (plain (ending_of v c.one_element.new.slate.trace c.one_element.new.slate.cells.items)) (elements each more a.start a.walk.now.end)).ending) c.in-Reject.is

pub all_elements-loop-turn-preserved : goal.all_elements-loop-turn-preserved
all_elements-loop-turn-preserved t c =
    let a = c.args in
    let l = c.loop-turn in
    let each = element_meaning a.walk.now.m.now.listed (below a.walk.now.m.now.listed a.walk.now.m.now.definitions a.walk.now.bound) a.element.now a.env.now a.walk.now.places.now a.walk.now.message.now a.start a.walk.now.end in
    let full = suc (a.walk.now.end - a.start) - l.turn in
    let more = a.walk.now.end - a.start - l.turn in
    let is : full ≡ suc more = omega (arith, c.loop-turn-test.true, c.saturating_sub-size.ensures) in
    let o : Ending = ending_of c.in_ok-pos.field-0 c.one_element.new.slate.trace c.one_element.new.slate.cells.items in
    let on = elements_on each full more a.start a.walk.now.end l.position l.slate.cells.items o is c.if-position-walk.false c.in_ok-pos.ensures.ending in
    let fewer : more ≡ suc (a.walk.now.end - a.start) - (l.turn + 1) = omega arith in
    record {
      empty_trace = c.in_ok-pos.ensures.empty_trace c.in-Accept.pos c.in-Accept.is;
      ending = l.invariant.ending ∙ on ∙ ap (λ (v : Verdict). (and_then (plain (ending_of v c.one_element.new.slate.trace c.one_element.new.slate.cells.items)) (elements each more a.start a.walk.now.end)).ending) c.in-Accept.is ∙ ap (λ n. (elements each n a.start a.walk.now.end c.in-Accept.pos c.one_element.new.slate.cells.items).ending) fewer;
    }

pub all_elements-returns-clause-ending : goal.all_elements-returns-clause-ending
all_elements-returns-clause-ending t c =
    let a = c.args in
    let l = c.loop-turn in
    let each = element_meaning a.walk.now.m.now.listed (below a.walk.now.m.now.listed a.walk.now.m.now.definitions a.walk.now.bound) a.element.now a.env.now a.walk.now.places.now a.walk.now.message.now a.start a.walk.now.end in
    let full = suc (a.walk.now.end - a.start) - l.turn in
    let none : full ≡ 0 = omega (arith, c.loop-turn-test.false, c.saturating_sub-size.ensures) in
    l.invariant.ending ∙ elements_over each full a.start a.walk.now.end l.position l.slate.cells.items none ∙ ap (λ (t : Behavior). t.ending) (c.demand.ensures.ending l.slate.cells.items) ∙ (λ k. ending_of c.demand.result (sym l.invariant.empty_trace k) l.slate.cells.items)

pub defined-returns-in_ok-framed-in-None-clause-empty_trace : goal.defined-returns-in_ok-framed-in-None-clause-empty_trace
defined-returns-in_ok-framed-in-None-clause-empty_trace t c = λ q e. (accepted_at c.in_ok-framed-in-None.field-0 q q c.framed-in-None.new.trace e (c.in_ok-framed-in-None.ensures.at q tt)).1

pub fields_in_order-returns-clause-ending : goal.fields_in_order-returns-clause-ending
fields_in_order-returns-clause-ending t c =
    let a = c.args in
    let l = c.loop-field in
    let fields : List FieldDef = a.fields.now in
    let env : List ℕ = l.env.items in
    let none : drop l.field-index fields ≡ [] = drop_all l.field-index fields (omega (arith, c.loop-field-test.false)) in
    l.invariant.ending
    ∙ ap (λ fs. (fields_meaning a.walk.now.m.now.listed (below a.walk.now.m.now.listed a.walk.now.m.now.definitions a.walk.now.bound) a.ty fs env a.walk.now.places.now a.walk.now.message.now a.walk.now.end l.position l.slate.cells.items).ending) none
    ∙ ap (λ (t : Behavior). t.ending) (fields_none a.walk.now.m.now.listed (below a.walk.now.m.now.listed a.walk.now.m.now.definitions a.walk.now.bound) a.ty env a.walk.now.places.now a.walk.now.message.now a.walk.now.end l.position l.slate.cells.items)

pub named-returns-then-place-walk-clause-ending : goal.named-returns-then-place-walk-clause-ending
named-returns-then-place-walk-clause-ending t c =
    let a = c.args in
    ap (λ (t : Behavior). t.ending) (below_past a.walk.now.m.now.listed a.walk.now.m.now.definitions a.walk.now.bound a.place a.args.now a.walk.now.places.now a.slate.now.cells.items a.walk.now.message.now a.pos a.walk.now.end (omega (arith, c.if-place-walk.true)))
    ∙ ap (λ tr. Rejected Impossible a.pos tr a.slate.now.cells.items) (sym c.requires.empty_trace)

pub named-returns-in_ok-defined-in-Some-clause-ending : goal.named-returns-in_ok-defined-in-Some-clause-ending
named-returns-in_ok-defined-in-Some-clause-ending t c =
    let a = c.args in
    let it : slice_get a.walk.now.m.now.definitions a.place ≡ Some c.in-Some.definition.now = grind (arith, common_steps, gets) in
    ap (λ (t : Behavior). t.ending) (named_by a.walk.now.m.now.listed a.walk.now.m.now.definitions a.walk.now.bound a.place (Some c.in-Some.definition.now) a.args.now a.walk.now.places.now a.slate.now.cells.items a.walk.now.message.now a.pos a.walk.now.end (omega (arith, c.if-place-walk.false)) it)
    ∙ c.in_ok-defined-in-Some.ensures.ending

pub named-returns-in-None-clause-ending : goal.named-returns-in-None-clause-ending
named-returns-in-None-clause-ending t c =
    let a = c.args in
    let it : slice_get a.walk.now.m.now.definitions a.place ≡ None = grind (arith, common_steps, gets) in
    ap (λ (t : Behavior). t.ending) (named_by a.walk.now.m.now.listed a.walk.now.m.now.definitions a.walk.now.bound a.place (None) a.args.now a.walk.now.places.now a.slate.now.cells.items a.walk.now.message.now a.pos a.walk.now.end (omega (arith, c.if-place-walk.false)) it)
    ∙ ap (λ tr. Rejected Impossible a.pos tr a.slate.now.cells.items) (sym c.requires.empty_trace)

pub one_field-check_parts-requires : goal.one_field-check_parts-requires
one_field-check_parts-requires t c =
    let at = empty_at c.in_ok-verdict.verdict c.content.new.slate.trace c.in_ok-verdict.ensures.empty_trace in
    record { empty_trace = (accepted_at c.in_ok-pos.field-0 c.in-Accept.pos at.0 c.framed.new.trace c.in-Accept.is (c.in_ok-pos.ensures.at at.0 at.1)).1 }

pub one_field-returns-in-Reject-clause-ending : goal.one_field-returns-in-Reject-clause-ending
one_field-returns-in-Reject-clause-ending t c = λ later.
    let a = c.args in
    let f : FieldDef = a.field.now in
    let env : List ℕ = a.env.now.items in
    let cells = c.content.new.slate.cells.items in
    let v : Verdict = c.in_ok-verdict.verdict in
    let name : c.first_name.result ≡ first_name f.parts = c.first_name.ensures ∙ ap first_name c.as_slice-parts.ensures in
    let scope = ap (λ vs. (content_meaning a.walk.now.m.now.listed (below a.walk.now.m.now.listed a.walk.now.m.now.definitions a.walk.now.bound) f.element f.extent f.copy vs a.walk.now.places.now a.walk.now.message.now a.walk.now.end a.start a.slate.now.cells.items).ending) (sym c.as_slice-3.ensures.value) in
    let framed = ap (ending_within (field_place a.ty (first_name f.parts) a.start)) (scope ∙ c.in_ok-verdict.ensures.ending) ∙ (λ k. ending_within (frame_place a.ty (Field (sym name k)) a.start) (ending_of v c.content.new.slate.trace cells)) ∙ sym (c.in_ok-pos.ensures.ending cells) in
    let n = field_number f.element f.extent env a.walk.now.places.now a.walk.now.message.now a.walk.now.end a.start a.slate.now.cells.items in
    let rest = λ (q : ℕ) (cells : List ℕ). and_then (parts_meaning a.ty a.start n f.parts env a.walk.now.places.now q cells) (fields_meaning a.walk.now.m.now.listed (below a.walk.now.m.now.listed a.walk.now.m.now.definitions a.walk.now.bound) a.ty later (extended env n f.parts) a.walk.now.places.now a.walk.now.message.now a.walk.now.end) in
    field_by a.walk.now.m.now.listed (below a.walk.now.m.now.listed a.walk.now.m.now.definitions a.walk.now.bound) a.ty f later env a.walk.now.places.now a.walk.now.message.now a.walk.now.end a.start a.slate.now.cells.items _ framed
    ∙ ap (λ (w : Verdict). (and_then (plain (ending_of w c.framed.new.trace cells)) rest).ending) c.in-Reject.is

pub one_field-returns-in_ok-check_parts-in-Accept-clause-ending : goal.one_field-returns-in_ok-check_parts-in-Accept-clause-ending
one_field-returns-in_ok-check_parts-in-Accept-clause-ending t c = λ later.
    let a = c.args in
    let f : FieldDef = a.field.now in
    let env : List ℕ = a.env.now.items in
    let cells = c.content.new.slate.cells.items in
    let v : Verdict = c.in_ok-verdict.verdict in
    let name : c.first_name.result ≡ first_name f.parts = c.first_name.ensures ∙ ap first_name c.as_slice-parts.ensures in
    let scope = ap (λ vs. (content_meaning a.walk.now.m.now.listed (below a.walk.now.m.now.listed a.walk.now.m.now.definitions a.walk.now.bound) f.element f.extent f.copy vs a.walk.now.places.now a.walk.now.message.now a.walk.now.end a.start a.slate.now.cells.items).ending) (sym c.as_slice-3.ensures.value) in
    let framed = ap (ending_within (field_place a.ty (first_name f.parts) a.start)) (scope ∙ c.in_ok-verdict.ensures.ending) ∙ (λ k. ending_within (frame_place a.ty (Field (sym name k)) a.start) (ending_of v c.content.new.slate.trace cells)) ∙ sym (c.in_ok-pos.ensures.ending cells) in
    let n = field_number f.element f.extent env a.walk.now.places.now a.walk.now.message.now a.walk.now.end a.start a.slate.now.cells.items in
    let number : c.number_in-value.result ≡ n =
    c.number_in-value.ensures ∙ (λ k. field_number f.element f.extent (c.as_slice.ensures.value k) a.walk.now.places.now a.walk.now.message.now a.walk.now.end a.start (c.as_slice-2.ensures.value k)) in
    let next = λ (vs : List ℕ). fields_meaning a.walk.now.m.now.listed (below a.walk.now.m.now.listed a.walk.now.m.now.definitions a.walk.now.bound) a.ty later vs a.walk.now.places.now a.walk.now.message.now a.walk.now.end in
    let rest = λ (q : ℕ) (cells : List ℕ). and_then (parts_meaning a.ty a.start n f.parts env a.walk.now.places.now q cells) (next (extended env n f.parts)) in
    let e = c.in_ok-check_parts-in-Accept.ensures in
    let w : Verdict = c.in_ok-check_parts-in-Accept.field-0 in
    let given : cells ≡ c.as_mut_slice.result.now = sym c.as_mut_slice.ensures.value in
    let left : List ℕ = c.check_parts.new.cells in
    let back : left ≡ take c.content.new.slate.cells.len (left ++ drop (length left) cells) = sym (lent c.content.new.slate.cells.len left cells (c.check_parts.auto.cells ∙ c.as_mut_slice.ensures.len)) in
    let parts = (λ k. parts_meaning a.ty a.start (sym number k) (sym c.as_slice-parts.ensures k) env a.walk.now.places.now c.in-Accept.pos (given k)) ∙ e.ending in
    field_by a.walk.now.m.now.listed (below a.walk.now.m.now.listed a.walk.now.m.now.definitions a.walk.now.bound) a.ty f later env a.walk.now.places.now a.walk.now.message.now a.walk.now.end a.start a.slate.now.cells.items _ framed
    ∙ ap (λ (u : Verdict). (and_then (plain (ending_of u c.framed.new.trace cells)) rest).ending) c.in-Accept.is
    ∙ ap (λ (t : Behavior). (and_then t (next (extended env n f.parts))).ending) parts
    ∙ ap (λ (t : Behavior). t.ending) (then_same w c.check_parts.new.trace left (next (extended env n f.parts)) (next c.check_parts.new.env.items) (λ q g. ap (λ vs. next vs q left) ((λ k. extended env (sym number k) (sym c.as_slice-parts.ensures k)) ∙ sym (e.scope q g))))
    ∙ ap (λ xs. (and_then (plain (ending_of w c.check_parts.new.trace xs)) (next c.check_parts.new.env.items)).ending) back

pub shape-returns-in_ok-filling-in-Filling-clause-ending : goal.shape-returns-in_ok-filling-in-Filling-clause-ending
shape-returns-in_ok-filling-in-Filling-clause-ending t c =
    let a = c.args in
    ap (λ (x : Extent). (shape_meaning a.walk.now.m.now.listed (below a.walk.now.m.now.listed a.walk.now.m.now.definitions a.walk.now.bound) a.element.now x a.env.now a.walk.now.places.now a.walk.now.message.now a.walk.now.end a.start a.slate.now.cells.items).ending) c.in-Filling.is
    ∙ (λ k. (filled (element_meaning a.walk.now.m.now.listed (below a.walk.now.m.now.listed a.walk.now.m.now.definitions a.walk.now.bound) a.element.now a.env.now a.walk.now.places.now a.walk.now.message.now a.start) c.in-Filling.step (sym c.value_of.ensures k) a.walk.now.end a.start a.slate.now.cells.items).ending)
    ∙ c.in_ok-filling-in-Filling.ensures.ending
