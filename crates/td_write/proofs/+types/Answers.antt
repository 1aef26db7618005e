use Rattle.std.proofs.Common.{rules, ◌≡◌, ◌+◌, ◌-◌, ◌<◌, ℕ, Bool, true, List, [], ◌∷◌, ◌++◌, drop, length, false, refl, sym, ap, ◌∙◌, subst, arith, vec_len, IfOk, IfErr, Some, None}
use Rattle.std.proofs.lemmas.Option.{gets}
use Rattle.std.proofs.lemmas.Grind.{common_steps}
use Rattle.std.specs.Prelude.{nat_eq, slice_get}
use Rattle.std.proofs.lemmas.Bool.{eq-eqb}
use Rattle.td_core.specs.declared.module.Extent.{Extent}
use Rattle.std.proofs.lemmas.List.{drop_more, drop_all, append-nil}
use Rattle.td_write.specs.Imports.{Field, TypeDef, Shape, Size}
use Rattle.td_write_values.specs.Datum.{Datum, Sequence, Empty, data_of}
use Rattle.td_write_values.specs.DatumView.{datum_at}
use Rattle.td_write_values.specs.Bytes.{unit_type, is_byte}
use Rattle.td_write_values.specs.Spelling.{fills, fills_once, noted, number_in}
use Rattle.td_write_values.specs.Writing.{Later, Written, Done, Refused, after_writing, tested, of_size, agreed, settled, of_enum, is_listed, element_bytes, element_written, items_written, contents_written, shape_written, copied, field_written, fields_written, body_written, listed_written, writers_below, in_machine}
use Rattle.td_meaning.specs.Meaning.{divides, equals, extended}
use Rattle.td_meaning.specs.Words64 as words64
use Rattle.td_write.specs.Writes.{Wrote, Halts, Passes, claims_of}
use Rattle.td_write.specs.declared.halt.Halt.TheVariants as halt
use Rattle.td_write.proofs.Definitions.{data_back, writers_past, named_by, contents_are, fields_next, fields_end, fields_left, whole_total}
use Rattle.td_write.proofs.Totals.{copied_total, copied_halts, one_more, one_empty, all_written, halts_total, halts_items, halts_at}
use Rattle.td_write.proofs.Listed.{popped}
use Rattle.td_write.proofs.Settled.{all_ok, err_map, both_true, count_of, claims_kept, sized_wrote, settled_wrote, settled_wrong, listed_halts}
use Rattle.td_write.proofs.+types.Goals as goal

-- Definitions

pub types::named-returns-then-place-walk-clause-err : goal.types::named-returns-then-place-walk-clause-err
types::named-returns-then-place-walk-clause-err t c =
    let a = c.args in
    writers_past in_machine a.walk.now.m.now.listed a.walk.now.m.now.definitions a.walk.now.bound a.place a.args.now a.walk.now.places.now a.cells.now a.draft.now.path.items (length a.draft.now.out.items) a.value.now c.if-place-walk.true

pub types::named-returns-in-Some-clause-ok : goal.types::named-returns-in-Some-clause-ok
types::named-returns-in-Some-clause-ok t c =
    let a = c.args in
    let there : slice_get a.walk.now.m.now.definitions a.place ≡ Some c.in-Some.definition.now = grind (arith, common_steps, gets) in
    let less : a.place < a.walk.now.bound = omega (arith, c.if-place-walk.false) in
    let same = named_by in_machine a.walk.now.m.now.listed a.walk.now.m.now.definitions a.walk.now.bound a.place (Some c.in-Some.definition.now) a.args.now a.walk.now.places.now a.cells.now a.draft.now.path.items (length a.draft.now.out.items) a.value.now less there in
    subst (λ w. IfOk c.defined.result (λ x. Wrote w a.draft.now.out.items c.defined.new.draft.out.items a.draft.now.path.items c.defined.new.draft.path.items c.defined.new.cells (claims_of a.draft.now.claims.items) (claims_of c.defined.new.draft.claims.items))) (sym same) c.defined.ensures.ok

pub types::named-returns-in-Some-clause-err : goal.types::named-returns-in-Some-clause-err
types::named-returns-in-Some-clause-err t c =
    let a = c.args in
    let there : slice_get a.walk.now.m.now.definitions a.place ≡ Some c.in-Some.definition.now = grind (arith, common_steps, gets) in
    let less : a.place < a.walk.now.bound = omega (arith, c.if-place-walk.false) in
    let same = named_by in_machine a.walk.now.m.now.listed a.walk.now.m.now.definitions a.walk.now.bound a.place (Some c.in-Some.definition.now) a.args.now a.walk.now.places.now a.cells.now a.draft.now.path.items (length a.draft.now.out.items) a.value.now less there in
    subst (λ w. IfErr c.defined.result (λ h. Halts h c.defined.new.draft.path.items w)) (sym same) c.defined.ensures.err

pub types::named-returns-in-None-clause-err : goal.types::named-returns-in-None-clause-err
types::named-returns-in-None-clause-err t c =
    let a = c.args in
    let there : slice_get a.walk.now.m.now.definitions a.place ≡ None = grind (arith, common_steps, gets) in
    let less : a.place < a.walk.now.bound = omega (arith, c.if-place-walk.false) in
    named_by in_machine a.walk.now.m.now.listed a.walk.now.m.now.definitions a.walk.now.bound a.place None a.args.now a.walk.now.places.now a.cells.now a.draft.now.path.items (length a.draft.now.out.items) a.value.now less there

pub types::defined-returns-in-Ok-clause-ok : goal.types::defined-returns-in-Ok-clause-ok
types::defined-returns-in-Ok-clause-ok t c =
    let a = c.args in
    let d : TypeDef = a.definition.now in
    let sets = a.walk.now.m.now.listed in
    let writers = writers_below in_machine sets a.walk.now.m.now.definitions a.walk.now.bound in
    let p : ℕ = length a.draft.now.out.items in
    let xs : List Datum = c.as_slice-values.result.now in
    let is : a.value.now ≡ Sequence (data_of xs) = sym c.value.view_is ∙ ap datum_at c.in-List.is ∙ ap (λ ws. Sequence (data_of ws)) (sym c.as_slice-values.ensures) in
    let body = λ (ws : List Datum). body_written in_machine sets writers d d.body a.args.now a.walk.now.places.now a.draft.now.path.items p a.cells.now ws in
    let same : listed_written in_machine sets writers d a.args.now a.walk.now.places.now a.cells.now a.draft.now.path.items p a.value.now ≡ fields_written in_machine sets writers d.name c.in-Ok.fields.now a.args.now a.walk.now.places.now a.draft.now.path.items 0 p a.cells.now xs =
    ap (listed_written in_machine sets writers d a.args.now a.walk.now.places.now a.cells.now a.draft.now.path.items p) is ∙ ap body (data_back xs) ∙ c.in-Ok.ensures.ok sets writers a.walk.now.places.now a.draft.now.path.items p a.cells.now in
    subst (λ w. IfOk c.counted.result (λ x. Wrote w a.draft.now.out.items c.counted.new.draft.out.items a.draft.now.path.items c.counted.new.draft.path.items c.counted.new.cells (claims_of a.draft.now.claims.items) (claims_of c.counted.new.draft.claims.items))) (sym same) c.counted.ensures.ok

pub types::defined-returns-in-Ok-clause-err : goal.types::defined-returns-in-Ok-clause-err
types::defined-returns-in-Ok-clause-err t c =
    let a = c.args in
    let d : TypeDef = a.definition.now in
    let sets = a.walk.now.m.now.listed in
    let writers = writers_below in_machine sets a.walk.now.m.now.definitions a.walk.now.bound in
    let p : ℕ = length a.draft.now.out.items in
    let xs : List Datum = c.as_slice-values.result.now in
    let is : a.value.now ≡ Sequence (data_of xs) = sym c.value.view_is ∙ ap datum_at c.in-List.is ∙ ap (λ ws. Sequence (data_of ws)) (sym c.as_slice-values.ensures) in
    let body = λ (ws : List Datum). body_written in_machine sets writers d d.body a.args.now a.walk.now.places.now a.draft.now.path.items p a.cells.now ws in
    let same : listed_written in_machine sets writers d a.args.now a.walk.now.places.now a.cells.now a.draft.now.path.items p a.value.now ≡ fields_written in_machine sets writers d.name c.in-Ok.fields.now a.args.now a.walk.now.places.now a.draft.now.path.items 0 p a.cells.now xs =
    ap (listed_written in_machine sets writers d a.args.now a.walk.now.places.now a.cells.now a.draft.now.path.items p) is ∙ ap body (data_back xs) ∙ c.in-Ok.ensures.ok sets writers a.walk.now.places.now a.draft.now.path.items p a.cells.now in
    subst (λ w. IfErr c.counted.result (λ h. Halts h c.counted.new.draft.path.items w)) (sym same) c.counted.ensures.err

pub types::defined-returns-in-Err-clause-err : goal.types::defined-returns-in-Err-clause-err
types::defined-returns-in-Err-clause-err t c =
    let a = c.args in
    let d : TypeDef = a.definition.now in
    let sets = a.walk.now.m.now.listed in
    let writers = writers_below in_machine sets a.walk.now.m.now.definitions a.walk.now.bound in
    let p : ℕ = length a.draft.now.out.items in
    let xs : List Datum = c.as_slice-values.result.now in
    let is : a.value.now ≡ Sequence (data_of xs) = sym c.value.view_is ∙ ap datum_at c.in-List.is ∙ ap (λ ws. Sequence (data_of ws)) (sym c.as_slice-values.ensures) in
    let body = λ (ws : List Datum). body_written in_machine sets writers d d.body a.args.now a.walk.now.places.now a.draft.now.path.items p a.cells.now ws in
    let same : listed_written in_machine sets writers d a.args.now a.walk.now.places.now a.cells.now a.draft.now.path.items p a.value.now ≡ body xs =
    ap (listed_written in_machine sets writers d a.args.now a.walk.now.places.now a.cells.now a.draft.now.path.items p) is ∙ ap body (data_back xs) in
    subst (Halts c.in-Err.halt a.draft.now.path.items) (sym same) (c.in-Err.ensures.err sets writers a.walk.now.places.now a.draft.now.path.items p a.cells.now)

-- Fields

pub fields::counted-loop-field-preserved : goal.fields::counted-loop-field-preserved
fields::counted-loop-field-preserved t c =
    let a = c.args in
    let l = c.loop-field in
    let sets = a.walk.now.m.now.listed in
    let writers = writers_below in_machine sets a.walk.now.m.now.definitions a.walk.now.bound in
    let fs : List Field = a.fields.now in
    let f : Field = c.field-item.result in
    let later : List Field = drop (l.field-index + 1) fs in
    let split : drop l.field-index fs ≡ f ∷ later = drop_more fs l.field-index f c.loop-field-test.true ∙ (λ k. sym c.field-item.is k ∷ later) in
    let go : Later = λ env i p cells vs. fields_written in_machine sets writers a.ty later env a.walk.now.places.now a.draft.now.path.items i p cells vs in
    let own = λ (path : List ℕ). field_written in_machine sets writers a.ty (unit_type f.element f.extent) f l.env.items a.walk.now.places.now path l.index (length l.draft.out.items) l.cells (drop l.index a.values.now) go in
    record {
      room = c.in-Ok.ensures.room.0;
      back = c.in-Ok.ensures.room.1 ∙ l.invariant.back;
      total = l.invariant.total
          ∙ ap (after_writing l.draft.out.items (claims_of l.draft.claims.items)) (fields_next in_machine sets writers a.ty a.walk.now.places.now a.draft.now.path.items (drop l.field-index fs) later f l.env.items l.index (length l.draft.out.items) l.cells (drop l.index a.values.now) split)
          ∙ ap (λ path. after_writing l.draft.out.items (claims_of l.draft.claims.items) (own path)) (sym l.invariant.back)
          ∙ (c.in-Ok.ensures.ok go).total;
    }

pub fields::counted-returns-in-Err-clause-err : goal.fields::counted-returns-in-Err-clause-err
fields::counted-returns-in-Err-clause-err t c =
    let a = c.args in
    let l = c.loop-field in
    let sets = a.walk.now.m.now.listed in
    let writers = writers_below in_machine sets a.walk.now.m.now.definitions a.walk.now.bound in
    let fs : List Field = a.fields.now in
    let f : Field = c.field-item.result in
    let later : List Field = drop (l.field-index + 1) fs in
    let split : drop l.field-index fs ≡ f ∷ later = drop_more fs l.field-index f c.loop-field-test.true ∙ (λ k. sym c.field-item.is k ∷ later) in
    let go : Later = λ env i p cells vs. fields_written in_machine sets writers a.ty later env a.walk.now.places.now a.draft.now.path.items i p cells vs in
    let own = λ (path : List ℕ). field_written in_machine sets writers a.ty (unit_type f.element f.extent) f l.env.items a.walk.now.places.now path l.index (length l.draft.out.items) l.cells (drop l.index a.values.now) go in
    let here : Halts c.in-Err.halt c.one_field.new.draft.path.items (own a.draft.now.path.items) = subst (λ path. Halts c.in-Err.halt c.one_field.new.draft.path.items (own path)) l.invariant.back (c.in-Err.ensures.err go) in
    halts_total c.in-Err.halt c.one_field.new.draft.path.items a.draft.now.out.items l.draft.out.items (claims_of a.draft.now.claims.items) (claims_of l.draft.claims.items) _ (own a.draft.now.path.items)
    (l.invariant.total ∙ ap (after_writing l.draft.out.items (claims_of l.draft.claims.items)) (fields_next in_machine sets writers a.ty a.walk.now.places.now a.draft.now.path.items (drop l.field-index fs) later f l.env.items l.index (length l.draft.out.items) l.cells (drop l.index a.values.now) split))
    here

pub fields::counted-returns-then-index-values-clause-err : goal.fields::counted-returns-then-index-values-clause-err
fields::counted-returns-then-index-values-clause-err t c =
    let a = c.args in
    let l = c.loop-field in
    let sets = a.walk.now.m.now.listed in
    let writers = writers_below in_machine sets a.walk.now.m.now.definitions a.walk.now.bound in
    let fs : List Field = a.fields.now in
    let none : drop l.field-index fs ≡ [] = drop_all l.field-index fs (omega (arith, c.loop-field-test.false)) in
    let more : l.index < length a.values.now = omega (arith, c.if-index-values.true) in
    halts_total (halt.Broken Shape) l.draft.path.items a.draft.now.out.items l.draft.out.items (claims_of a.draft.now.claims.items) (claims_of l.draft.claims.items) _ (fields_written in_machine sets writers a.ty (drop l.field-index fs) l.env.items a.walk.now.places.now a.draft.now.path.items l.index (length l.draft.out.items) l.cells (drop l.index a.values.now))
    l.invariant.total
    (fields_left in_machine sets writers a.ty a.walk.now.places.now a.draft.now.path.items (drop l.field-index fs) l.env.items l.index (length l.draft.out.items) l.cells (drop l.index a.values.now) _ _ none (drop_more a.values.now l.index Empty more) ∙ ap (Refused Shape) (sym l.invariant.back))

pub fields::counted-returns-clause-ok : goal.fields::counted-returns-clause-ok
fields::counted-returns-clause-ok t c =
    let a = c.args in
    let l = c.loop-field in
    let sets = a.walk.now.m.now.listed in
    let writers = writers_below in_machine sets a.walk.now.m.now.definitions a.walk.now.bound in
    let fs : List Field = a.fields.now in
    let none : drop l.field-index fs ≡ [] = drop_all l.field-index fs (omega (arith, c.loop-field-test.false)) in
    let empty : drop l.index a.values.now ≡ [] = drop_all l.index a.values.now (omega (arith, c.if-index-values.false)) in
    record {
      total = l.invariant.total
          ∙ ap (after_writing l.draft.out.items (claims_of l.draft.claims.items)) (fields_end in_machine sets writers a.ty a.walk.now.places.now a.draft.now.path.items (drop l.field-index fs) l.env.items l.index (length l.draft.out.items) l.cells (drop l.index a.values.now) none empty)
          ∙ (λ k. Done (append-nil l.draft.out.items k) l.cells (append-nil (claims_of l.draft.claims.items) k));
      room = l.invariant.room;
      back = l.invariant.back;
    }

pub fields::one_field-returns-in-Ok-test_parts-clause-ok : goal.fields::one_field-returns-in-Ok-test_parts-clause-ok
fields::one_field-returns-in-Ok-test_parts-clause-ok t c = λ later.
    let a = c.args in
    let f : Field = a.field.now in
    let sets = a.walk.now.m.now.listed in
    let writers = writers_below in_machine sets a.walk.now.m.now.definitions a.walk.now.bound in
    let vs : List Datum = a.left.now.values.now in
    let v : Datum = c.index-values-index.result in
    let inside : a.left.now.index < length vs = omega (arith, c.if-index-values.false) in
    let split : drop a.left.now.index vs ≡ v ∷ drop (a.left.now.index + 1) vs = drop_more vs a.left.now.index v inside ∙ (λ k. sym c.index-values-index.is k ∷ drop (a.left.now.index + 1) vs) in
    let none : unit_type f.element f.extent ≡ None = sym c.unit_type.ensures ∙ c.in-None.is in
    let at : c.push.new.self.items ≡ a.draft.now.path.items ++ a.left.now.index ∷ [] = search rules in
    let p : ℕ = length a.draft.now.out.items in
    let new : List ℕ = c.content.new.draft.out.items in
    let own = c.in-Ok.ensures.ok in
    let before = claims_of a.draft.now.claims.items in
    let claims = claims_of c.content.new.draft.claims.items in
    let seen : a.env.now.items ≡ c.as_slice.result.now = sym c.as_slice.ensures.value in
    let scope : a.env.now.items ≡ c.as_slice-in-None.result.now = sym c.as_slice-in-None.ensures.value in
    let shape : after_writing a.draft.now.out.items before (copied f.copy a.walk.now.places.now p (shape_written in_machine sets writers f.element f.extent a.env.now.items a.walk.now.places.now (a.draft.now.path.items ++ a.left.now.index ∷ []) p a.cells.now v)) ≡ Done new c.content.new.cells claims =
    (λ k. after_writing a.draft.now.out.items before (copied f.copy a.walk.now.places.now p (shape_written in_machine sets writers f.element f.extent (scope k) a.walk.now.places.now (sym at k) p a.cells.now v))) ∙ own.total in
    let from : p ≡ c.len-start.result = sym (c.len-start.ensures ∙ a.draft.now.out.ok.0) in
    let to : length new ≡ c.len-end.result = sym (c.len-end.ensures ∙ c.content.new.draft.out.ok.0) in
    let n : ℕ = number_in words64.value_of f.element f.extent a.env.now.items a.walk.now.places.now a.cells.now v in
    let number : n ≡ c.number_in-number.result = (λ k. number_in words64.value_of f.element f.extent (seen k) a.walk.now.places.now a.cells.now v) ∙ sym c.number_in-number.ensures in
    let parts : f.parts ≡ c.as_slice-in-None-2.result.now = sym c.as_slice-in-None-2.ensures in
    let passes : Passes (words64.parts_meaning a.ty p n f.parts a.env.now.items a.walk.now.places.now (length new) c.content.new.cells).ending c.test_parts.new.cells = λ path go.
    (λ k. tested (words64.parts_meaning a.ty (from k) (number k) (parts k) a.env.now.items a.walk.now.places.now (to k) c.content.new.cells).ending path go) ∙ c.in-Ok-test_parts.ensures.ok path go in
    let after : extended a.env.now.items n f.parts ≡ c.test_parts.new.env.items = (λ k. extended a.env.now.items (number k) (parts k)) ∙ sym c.in-Ok-test_parts.ensures.scope in
    record {
      total = whole_total in_machine sets writers a.ty a.walk.now.places.now a.draft.now.path.items (unit_type f.element f.extent) f a.env.now.items a.left.now.index a.cells.now (drop a.left.now.index vs) (drop (a.left.now.index + 1) vs) v a.draft.now.out.items new c.content.new.cells c.test_parts.new.cells before claims later none split shape passes
          ∙ (λ k. after_writing new claims (later (after k) (a.left.now.index + 1) (length new) c.test_parts.new.cells (drop (a.left.now.index + 1) vs)));
    }

pub fields::content-returns-clause-ok : goal.fields::content-returns-clause-ok
fields::content-returns-clause-ok t c =
    let a = c.args in
    let f : Field = a.field.now in
    let own = c.in-Ok.ensures.ok in
    let from : length a.draft.now.out.items ≡ c.len-start.result = sym (c.len-start.ensures ∙ a.draft.now.out.ok.0) in
    let size : length c.shape.new.draft.out.items - length a.draft.now.out.items ≡ c.len.result - c.len-start.result = omega (arith, from, c.len.ensures, c.shape.new.draft.out.ok.0) in
    record {
      total = copied_total f.copy a.walk.now.places.now a.draft.now.out.items c.shape.new.draft.out.items c.shape.new.cells c.note_copy.new.cells (claims_of a.draft.now.claims.items) (claims_of c.shape.new.draft.claims.items) _ own.total
          (c.note_copy.ensures ∙ (λ k. noted f.copy a.walk.now.places.now (sym from k) (sym size k) c.shape.new.cells));
      room = own.room;
      back = own.back;
    }

pub fields::content-returns-in-Err-clause-err : goal.fields::content-returns-in-Err-clause-err
fields::content-returns-in-Err-clause-err t c =
    copied_halts c.in-Err.halt c.shape.new.draft.path.items c.args.field.now.copy c.args.walk.now.places.now (length c.args.draft.now.out.items) _ c.in-Err.ensures.err

-- Arrays

pub arrays::contents-returns-in-List-clause-ok : goal.arrays::contents-returns-in-List-clause-ok
arrays::contents-returns-in-List-clause-ok t c =
    let a = c.args in
    let each = element_written in_machine a.walk.now.m.now.listed (writers_below in_machine a.walk.now.m.now.listed a.walk.now.m.now.definitions a.walk.now.bound) a.element.now a.env.now a.walk.now.places.now in
    let p : ℕ = length a.draft.now.out.items in
    let xs : List Datum = c.as_slice.result.now in
    let is : a.value.now ≡ Sequence (data_of xs) = sym c.value.view_is ∙ ap datum_at c.in-List.is ∙ ap (λ ws. Sequence (data_of ws)) (sym c.as_slice.ensures) in
    let no_byte : is_byte a.element.now ≡ false = sym c.is_byte.ensures ∙ search rules in
    let same = contents_are a.draft.now.path.items p a.cells.now a.value.now xs (is_byte a.element.now) each no_byte is in
    subst (λ w. IfOk c.items.result (λ x. Wrote w a.draft.now.out.items c.items.new.draft.out.items a.draft.now.path.items c.items.new.draft.path.items c.items.new.cells (claims_of a.draft.now.claims.items) (claims_of c.items.new.draft.claims.items))) (sym same) c.items.ensures.ok

pub arrays::contents-returns-in-List-clause-err : goal.arrays::contents-returns-in-List-clause-err
arrays::contents-returns-in-List-clause-err t c =
    let a = c.args in
    let each = element_written in_machine a.walk.now.m.now.listed (writers_below in_machine a.walk.now.m.now.listed a.walk.now.m.now.definitions a.walk.now.bound) a.element.now a.env.now a.walk.now.places.now in
    let p : ℕ = length a.draft.now.out.items in
    let xs : List Datum = c.as_slice.result.now in
    let is : a.value.now ≡ Sequence (data_of xs) = sym c.value.view_is ∙ ap datum_at c.in-List.is ∙ ap (λ ws. Sequence (data_of ws)) (sym c.as_slice.ensures) in
    let no_byte : is_byte a.element.now ≡ false = sym c.is_byte.ensures ∙ search rules in
    let same = contents_are a.draft.now.path.items p a.cells.now a.value.now xs (is_byte a.element.now) each no_byte is in
    subst (λ w. IfErr c.items.result (λ h. Halts h c.items.new.draft.path.items w)) (sym same) c.items.ensures.err

pub arrays::items-returns-clause-ok : goal.arrays::items-returns-clause-ok
arrays::items-returns-clause-ok t c =
    let a = c.args in
    let l = c.loop-index in
    let each = element_written in_machine a.walk.now.m.now.listed (writers_below in_machine a.walk.now.m.now.listed a.walk.now.m.now.definitions a.walk.now.bound) a.element.now a.env.now a.walk.now.places.now in
    let none : drop l.index a.values.now ≡ [] = drop_all l.index a.values.now (omega (arith, c.loop-index-test.false)) in
    record {
      total = l.invariant.total ∙ all_written each a.draft.now.path.items l.draft.out.items l.index l.cells (claims_of l.draft.claims.items) (drop l.index a.values.now) none;
      room = l.invariant.room;
      back = l.invariant.back;
    }

pub arrays::items-loop-index-preserved : goal.arrays::items-loop-index-preserved
arrays::items-loop-index-preserved t c =
    let a = c.args in
    let l = c.loop-index in
    let each = element_written in_machine a.walk.now.m.now.listed (writers_below in_machine a.walk.now.m.now.listed a.walk.now.m.now.definitions a.walk.now.bound) a.element.now a.env.now a.walk.now.places.now in
    let vs : List Datum = a.values.now in
    let v : Datum = c.index-values-index.result in
    let split : drop l.index vs ≡ v ∷ drop (l.index + 1) vs = drop_more vs l.index v c.loop-index-test.true ∙ (λ k. sym c.index-values-index.is k ∷ drop (l.index + 1) vs) in
    let mid : c.push.new.self.items ≡ l.draft.path.items ++ l.index ∷ [] = search rules in
    let at : c.push.new.self.items ≡ a.draft.now.path.items ++ l.index ∷ [] = mid ∙ ap (λ x. x ++ l.index ∷ []) l.invariant.back in
    let own = c.in-Ok.ensures.ok in
    let one = ap (λ path. after_writing l.draft.out.items (claims_of l.draft.claims.items) (each path (length l.draft.out.items) l.cells v)) (sym at) ∙ own.total in
    let kept : c.one_element.new.draft.path.items ≡ l.draft.path.items ++ l.index ∷ [] = own.back ∙ mid in
    record {
      room = own.room;
      back = popped l.index l.draft.path.items c.one_element.new.draft.path.items c.pop.new.self.items (vec_len c.one_element.new.draft.path) kept c.one_element.new.draft.path.ok.0 c.pop.ensures.rest ∙ l.invariant.back;
      total = l.invariant.total
          ∙ one_more each a.draft.now.path.items l.draft.out.items c.one_element.new.draft.out.items l.index l.cells c.one_element.new.cells (claims_of l.draft.claims.items) (claims_of c.one_element.new.draft.claims.items) (drop l.index vs) (drop (l.index + 1) vs) v split one
          (λ e. c.if-len-start.false (omega (arith, e, c.len.ensures, c.len-start.ensures, c.one_element.new.draft.out.ok.0, l.draft.out.ok.0)));
    }

pub arrays::items-returns-in-Err-clause-err : goal.arrays::items-returns-in-Err-clause-err
arrays::items-returns-in-Err-clause-err t c =
    let a = c.args in
    let l = c.loop-index in
    let each = element_written in_machine a.walk.now.m.now.listed (writers_below in_machine a.walk.now.m.now.listed a.walk.now.m.now.definitions a.walk.now.bound) a.element.now a.env.now a.walk.now.places.now in
    let vs : List Datum = a.values.now in
    let v : Datum = c.index-values-index.result in
    let split : drop l.index vs ≡ v ∷ drop (l.index + 1) vs = drop_more vs l.index v c.loop-index-test.true ∙ (λ k. sym c.index-values-index.is k ∷ drop (l.index + 1) vs) in
    let mid : c.push.new.self.items ≡ l.draft.path.items ++ l.index ∷ [] = search rules in
    let at : c.push.new.self.items ≡ a.draft.now.path.items ++ l.index ∷ [] = mid ∙ ap (λ x. x ++ l.index ∷ []) l.invariant.back in
    let here : Halts c.in-Err.halt c.one_element.new.draft.path.items (each (a.draft.now.path.items ++ l.index ∷ []) (length l.draft.out.items) l.cells v) =
    subst (λ path. Halts c.in-Err.halt c.one_element.new.draft.path.items (each path (length l.draft.out.items) l.cells v)) at c.in-Err.ensures.err in
    halts_total c.in-Err.halt c.one_element.new.draft.path.items a.draft.now.out.items l.draft.out.items (claims_of a.draft.now.claims.items) (claims_of l.draft.claims.items) _ (items_written each a.draft.now.path.items l.index (length l.draft.out.items) l.cells (drop l.index vs)) l.invariant.total
    (halts_items c.in-Err.halt c.one_element.new.draft.path.items each a.draft.now.path.items l.index (length l.draft.out.items) l.cells (drop l.index vs) (drop (l.index + 1) vs) v split here)

pub arrays::items-returns-then-len-start-clause-err : goal.arrays::items-returns-then-len-start-clause-err
arrays::items-returns-then-len-start-clause-err t c =
    let a = c.args in
    let l = c.loop-index in
    let each = element_written in_machine a.walk.now.m.now.listed (writers_below in_machine a.walk.now.m.now.listed a.walk.now.m.now.definitions a.walk.now.bound) a.element.now a.env.now a.walk.now.places.now in
    let vs : List Datum = a.values.now in
    let v : Datum = c.index-values-index.result in
    let split : drop l.index vs ≡ v ∷ drop (l.index + 1) vs = drop_more vs l.index v c.loop-index-test.true ∙ (λ k. sym c.index-values-index.is k ∷ drop (l.index + 1) vs) in
    let mid : c.push.new.self.items ≡ l.draft.path.items ++ l.index ∷ [] = search rules in
    let at : c.push.new.self.items ≡ a.draft.now.path.items ++ l.index ∷ [] = mid ∙ ap (λ x. x ++ l.index ∷ []) l.invariant.back in
    let own = c.in-Ok.ensures.ok in
    let one = ap (λ path. after_writing l.draft.out.items (claims_of l.draft.claims.items) (each path (length l.draft.out.items) l.cells v)) (sym at) ∙ own.total in
    let kept : c.one_element.new.draft.path.items ≡ a.draft.now.path.items ++ l.index ∷ [] = own.back ∙ at in
    let same : length c.one_element.new.draft.out.items ≡ length l.draft.out.items = omega (arith, c.if-len-start.true, c.len.ensures, c.len-start.ensures, c.one_element.new.draft.out.ok.0, l.draft.out.ok.0) in
    let empty = one_empty each a.draft.now.path.items l.draft.out.items c.one_element.new.draft.out.items l.index l.cells c.one_element.new.cells (claims_of l.draft.claims.items) (claims_of c.one_element.new.draft.claims.items) (drop l.index vs) (drop (l.index + 1) vs) v split one same in
    let W = items_written each a.draft.now.path.items l.index (length l.draft.out.items) l.cells (drop l.index vs) in
    halts_total (halt.Broken Size) c.one_element.new.draft.path.items a.draft.now.out.items l.draft.out.items (claims_of a.draft.now.claims.items) (claims_of l.draft.claims.items) _ W l.invariant.total
    (halts_at (halt.Broken Size) c.one_element.new.draft.path.items (a.draft.now.path.items ++ l.index ∷ []) W W kept refl empty)

pub arrays::shape-returns-else-count-size-clause-err : goal.arrays::shape-returns-else-count-size-clause-err
arrays::shape-returns-else-count-size-clause-err t c =
    let a = c.args in
    let sets = a.walk.now.m.now.listed in
    let writers = writers_below in_machine sets a.walk.now.m.now.definitions a.walk.now.bound in
    let old : List ℕ = a.draft.now.out.items in
    let new : List ℕ = c.contents.new.draft.out.items in
    let path : List ℕ = a.draft.now.path.items in
    let p : ℕ = length old in
    let w : Written = contents_written in_machine sets writers a.element.now a.env.now a.walk.now.places.now path p a.cells.now a.value.now in
    let before = claims_of a.draft.now.claims.items in
    let claims = claims_of c.contents.new.draft.claims.items in
    let size : ℕ = c.value_of-size.result in
    let test : ℕ → Bool = fills c.in-Filling.step size in
    let count : length new - p ≡ size = omega (arith, c.len.ensures, c.contents.new.draft.out.ok.0, c.len-start.ensures, a.draft.now.out.ok.0, c.if-count-size.false) in
    let met : test (length new - p) ≡ true = both_true (divides c.in-Filling.step size) (nat_eq (length new - p) size) (sym c.if-not-divides.ensures) (eq-eqb (length new - p) size count) in
    let sized = sized_wrote w old new path path c.contents.new.draft.path.items c.contents.new.cells before claims test c.in-Ok.ensures.ok met in
    let first : c.len-first.result ≡ length before = (c.len-first.ensures ∙ a.draft.now.claims.ok.0) ∙ sym (count_of a.draft.now.claims.items) in
    let after : List ℕ = c.settle.new.draft.path.items in
    let same : shape_written in_machine sets writers a.element.now a.extent.now a.env.now a.walk.now.places.now path p a.cells.now a.value.now ≡ settled p (of_size test path w) =
    ap (λ (x : Extent). shape_written in_machine sets writers a.element.now x a.env.now a.walk.now.places.now path p a.cells.now a.value.now) c.in-Filling.is ∙ (λ k. settled p (of_size (fills c.in-Filling.step (sym c.value_of-size.ensures k)) path w)) in
    err_map c.settle.result (λ h. (next : Written) → Halts h after (agreed (length new) (drop c.len-first.result claims) next)) (λ h. Halts h after (shape_written in_machine sets writers a.element.now a.extent.now a.env.now a.walk.now.places.now path p a.cells.now a.value.now)) c.settle.ensures.err
    (λ h stops. subst (Halts h after) (sym same) (settled_wrong h after (of_size test path w) old new path c.contents.new.draft.path.items c.contents.new.cells before claims c.len-first.result sized first stops))

pub arrays::shape-returns-else-count-size-clause-ok : goal.arrays::shape-returns-else-count-size-clause-ok
arrays::shape-returns-else-count-size-clause-ok t c =
    let a = c.args in
    let sets = a.walk.now.m.now.listed in
    let writers = writers_below in_machine sets a.walk.now.m.now.definitions a.walk.now.bound in
    let old : List ℕ = a.draft.now.out.items in
    let new : List ℕ = c.contents.new.draft.out.items in
    let path : List ℕ = a.draft.now.path.items in
    let p : ℕ = length old in
    let w : Written = contents_written in_machine sets writers a.element.now a.env.now a.walk.now.places.now path p a.cells.now a.value.now in
    let before = claims_of a.draft.now.claims.items in
    let claims = claims_of c.contents.new.draft.claims.items in
    let size : ℕ = c.value_of-size.result in
    let test : ℕ → Bool = fills c.in-Filling.step size in
    let count : length new - p ≡ size = omega (arith, c.len.ensures, c.contents.new.draft.out.ok.0, c.len-start.ensures, a.draft.now.out.ok.0, c.if-count-size.false) in
    let met : test (length new - p) ≡ true = both_true (divides c.in-Filling.step size) (nat_eq (length new - p) size) (sym c.if-not-divides.ensures) (eq-eqb (length new - p) size count) in
    let sized = sized_wrote w old new path path c.contents.new.draft.path.items c.contents.new.cells before claims test c.in-Ok.ensures.ok met in
    let first : c.len-first.result ≡ length before = (c.len-first.ensures ∙ a.draft.now.claims.ok.0) ∙ sym (count_of a.draft.now.claims.items) in
    let after : List ℕ = c.settle.new.draft.path.items in
    let same : shape_written in_machine sets writers a.element.now a.extent.now a.env.now a.walk.now.places.now path p a.cells.now a.value.now ≡ settled p (of_size test path w) =
    ap (λ (x : Extent). shape_written in_machine sets writers a.element.now x a.env.now a.walk.now.places.now path p a.cells.now a.value.now) c.in-Filling.is ∙ (λ k. settled p (of_size (fills c.in-Filling.step (sym c.value_of-size.ensures k)) path w)) in
    let rest = claims_of c.settle.new.draft.claims.items in
    all_ok c.settle.result c.settle.ensures.ok c.settle.ensures.left c.settle.ensures.path
    (λ holds left way. subst (λ x. Wrote x old c.settle.new.draft.out.items path after c.contents.new.cells before rest) (sym same)
    (settled_wrote (of_size test path w) old new c.settle.new.draft.out.items path c.contents.new.draft.path.items after c.contents.new.cells before claims rest c.len-first.result sized first holds c.settle.ensures.out
    (ap claims_of left ∙ claims_kept c.len-first.result c.contents.new.draft.claims.items) way))

pub arrays::shape-returns-in-Err-settle-clause-err : goal.arrays::shape-returns-in-Err-settle-clause-err
arrays::shape-returns-in-Err-settle-clause-err t c =
    let a = c.args in
    let sets = a.walk.now.m.now.listed in
    let writers = writers_below in_machine sets a.walk.now.m.now.definitions a.walk.now.bound in
    let old : List ℕ = a.draft.now.out.items in
    let new : List ℕ = c.element_bytes.new.draft.out.items in
    let path : List ℕ = a.draft.now.path.items in
    let p : ℕ = length old in
    let w : Written = element_bytes in_machine writers a.element.now a.env.now a.walk.now.places.now path p a.cells.now a.value.now in
    let before = claims_of a.draft.now.claims.items in
    let claims = claims_of c.element_bytes.new.draft.claims.items in
    let size : ℕ = c.value_of-size-in-OnceFilling.result in
    let test : ℕ → Bool = fills_once c.in-OnceFilling.step size in
    let count : length new - p ≡ size = omega (arith, c.len-in-OnceFilling.ensures, c.element_bytes.new.draft.out.ok.0, c.len-start.ensures, a.draft.now.out.ok.0, c.if-count-size-2.false) in
    let met : test (length new - p) ≡ true = both_true (equals c.in-OnceFilling.step size) (nat_eq (length new - p) size) (sym c.if-not-equals.ensures) (eq-eqb (length new - p) size count) in
    let sized = sized_wrote w old new path path c.element_bytes.new.draft.path.items c.element_bytes.new.cells before claims test c.in-Ok-element_bytes.ensures.ok met in
    let first : c.len-first.result ≡ length before = (c.len-first.ensures ∙ a.draft.now.claims.ok.0) ∙ sym (count_of a.draft.now.claims.items) in
    let after : List ℕ = c.settle-in-OnceFilling.new.draft.path.items in
    let same : shape_written in_machine sets writers a.element.now a.extent.now a.env.now a.walk.now.places.now path p a.cells.now a.value.now ≡ of_enum (is_listed sets a.element.now a.value.now) path (settled p (of_size test path w)) =
    ap (λ (x : Extent). shape_written in_machine sets writers a.element.now x a.env.now a.walk.now.places.now path p a.cells.now a.value.now) c.in-OnceFilling.is ∙ (λ k. of_enum (is_listed sets a.element.now a.value.now) path (settled p (of_size (fills_once c.in-OnceFilling.step (sym c.value_of-size-in-OnceFilling.ensures k)) path w))) in
    let h = c.in-Err-settle.halt in
    subst (Halts h after) (sym same) (listed_halts h after path (is_listed sets a.element.now a.value.now) (settled p (of_size test path w))
    (settled_wrong h after (of_size test path w) old new path c.element_bytes.new.draft.path.items c.element_bytes.new.cells before claims c.len-first.result sized first c.in-Err-settle.ensures.err))

pub arrays::shape-returns-else-not-is_listed-clause-ok : goal.arrays::shape-returns-else-not-is_listed-clause-ok
arrays::shape-returns-else-not-is_listed-clause-ok t c =
    let a = c.args in
    let sets = a.walk.now.m.now.listed in
    let writers = writers_below in_machine sets a.walk.now.m.now.definitions a.walk.now.bound in
    let old : List ℕ = a.draft.now.out.items in
    let new : List ℕ = c.element_bytes.new.draft.out.items in
    let path : List ℕ = a.draft.now.path.items in
    let p : ℕ = length old in
    let w : Written = element_bytes in_machine writers a.element.now a.env.now a.walk.now.places.now path p a.cells.now a.value.now in
    let before = claims_of a.draft.now.claims.items in
    let claims = claims_of c.element_bytes.new.draft.claims.items in
    let size : ℕ = c.value_of-size-in-OnceFilling.result in
    let test : ℕ → Bool = fills_once c.in-OnceFilling.step size in
    let count : length new - p ≡ size = omega (arith, c.len-in-OnceFilling.ensures, c.element_bytes.new.draft.out.ok.0, c.len-start.ensures, a.draft.now.out.ok.0, c.if-count-size-2.false) in
    let met : test (length new - p) ≡ true = both_true (equals c.in-OnceFilling.step size) (nat_eq (length new - p) size) (sym c.if-not-equals.ensures) (eq-eqb (length new - p) size count) in
    let sized = sized_wrote w old new path path c.element_bytes.new.draft.path.items c.element_bytes.new.cells before claims test c.in-Ok-element_bytes.ensures.ok met in
    let first : c.len-first.result ≡ length before = (c.len-first.ensures ∙ a.draft.now.claims.ok.0) ∙ sym (count_of a.draft.now.claims.items) in
    let after : List ℕ = c.settle-in-OnceFilling.new.draft.path.items in
    let same : shape_written in_machine sets writers a.element.now a.extent.now a.env.now a.walk.now.places.now path p a.cells.now a.value.now ≡ of_enum (is_listed sets a.element.now a.value.now) path (settled p (of_size test path w)) =
    ap (λ (x : Extent). shape_written in_machine sets writers a.element.now x a.env.now a.walk.now.places.now path p a.cells.now a.value.now) c.in-OnceFilling.is ∙ (λ k. of_enum (is_listed sets a.element.now a.value.now) path (settled p (of_size (fills_once c.in-OnceFilling.step (sym c.value_of-size-in-OnceFilling.ensures k)) path w))) in
    let rest = claims_of c.settle-in-OnceFilling.new.draft.claims.items in
    let listed : is_listed sets a.element.now a.value.now ≡ true = (λ k. is_listed (sym c.as_slice.ensures k) a.element.now a.value.now) ∙ sym c.if-not-is_listed.ensures in
    let whole = same ∙ ap (λ b. of_enum b path (settled p (of_size test path w))) listed in
    subst (λ x. Wrote x old c.settle-in-OnceFilling.new.draft.out.items path after c.element_bytes.new.cells before rest) (sym whole)
    (settled_wrote (of_size test path w) old new c.settle-in-OnceFilling.new.draft.out.items path c.element_bytes.new.draft.path.items after c.element_bytes.new.cells before claims rest c.len-first.result sized first c.in-Ok-settle.ensures.ok c.settle-in-OnceFilling.ensures.out
    (ap claims_of c.in-Ok-settle.ensures.left ∙ claims_kept c.len-first.result c.element_bytes.new.draft.claims.items) c.in-Ok-settle.ensures.path)
