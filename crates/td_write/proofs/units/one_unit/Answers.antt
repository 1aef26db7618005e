use Rattle.std.proofs.Common.{rules, ◌≡◌, ◌+◌, ℕ, List, [], ◌∷◌, ◌++◌, drop, length, true, false, sym, ap, ◌∙◌, arith, append_assoc, length-append}
use Rattle.std.proofs.lemmas.List.{drop_more, drop_all}
use Rattle.td_write.specs.Imports.{Part, Range, Long}
use Rattle.td_write_values.specs.Datum.{Datum}
use Rattle.td_write_values.specs.Writing.{Written, parts_written, in_machine}
use Rattle.std.proofs.lemmas.List.{append-nil}
use Rattle.td_num.specs.Numbers.{bytes_in}
use Rattle.td_write_values.specs.Bytes.{number_bytes, unit_number, makes_unit}
use Rattle.td_write_values.specs.Writing.{Refused, after_writing, unit_then, has_room, wanted}
use Rattle.td_write.specs.Writes.{claims_of}
use Rattle.td_write.proofs.Pieces.{one_value, parts_none, all_left}
use Rattle.td_write.proofs.Totals.{twice_after}
use Rattle.td_write_values.proofs.Lengths.{number_length}
use Rattle.td_write.proofs.units.one_unit.Goals as goal

pub loop-part-preserved : goal.loop-part-preserved
loop-part-preserved c =
    let a = c.args in
    let l = c.loop-part in
    let parts : List Part = c.as_slice-parts.result.now in
    let part : Part = c.part-item.result in
    let split : drop l.part-index parts ≡ part ∷ drop (l.part-index + 1) parts = drop_more parts l.part-index part c.loop-part-test.true ∙ (λ k. sym c.part-item.is k ∷ drop (l.part-index + 1) parts) in
    let n = c.in-Ok.field-0 in
    let more = one_value a.env.now.items l.env.items c.one_part.new.env.items c.len-first.result n l.invariant.here l.invariant.scope c.in-Ok.ensures.scope in
    record {
      back = c.in-Ok.ensures.back.0 ∙ l.invariant.back;
      scope = more.1;
      here = l.invariant.here;
      rest = λ (go : List ℕ → List ℕ → ℕ → List ℕ → List Datum → Written).
          let done : List ℕ = drop c.len-first.result l.env.items in
          l.invariant.rest go
          ∙ (λ k. parts_written in_machine a.number_type (split k) l.env.items a.places.now (sym l.invariant.back k) l.next c.len-start.result l.cells (drop l.next a.left.now.values.now) (λ ns. go (done ++ ns)))
          ∙ c.in-Ok.ensures.ok (drop (l.part-index + 1) parts) (λ ns. go (done ++ ns))
          ∙ (λ k. parts_written in_machine a.number_type (drop (l.part-index + 1) parts) c.one_part.new.env.items a.places.now (l.invariant.back k) (l.next + 1) c.len-start.result c.one_part.new.cells (drop (l.next + 1) a.left.now.values.now) (λ ns. go ((sym (append_assoc done (n ∷ []) ns) ∙ ap (λ x. x ++ ns) (sym more.0)) k)));
    }

pub returns-in_default-clause-err : goal.returns-in_default-clause-err
returns-in_default-clause-err c = λ later.
    let a = c.args in
    let l = c.loop-part in
    let parts : List Part = c.as_slice-parts.result.now in
    let done : List ℕ = drop c.len-first.result l.env.items in
    let none : drop l.part-index parts ≡ [] = drop_all l.part-index parts (omega (arith, c.loop-part-test.false)) in
    let own : a.field.now.parts ≡ parts = sym c.as_slice-parts.ensures in
    let from : length a.draft.now.out.items ≡ c.len-start.result = sym (c.len-start.ensures ∙ a.draft.now.out.ok.0) in
    let go = unit_then a.number_type parts a.draft.now.path.items c.len-start.result later in
    let ended = (λ k. parts_written in_machine a.number_type (own k) a.env.now.items a.places.now a.draft.now.path.items a.left.now.index (from k) a.cells.now (drop a.left.now.index a.left.now.values.now) (unit_then a.number_type (own k) a.draft.now.path.items (from k) later))
    ∙ l.invariant.rest go
    ∙ parts_none in_machine a.number_type (drop l.part-index parts) l.env.items a.places.now a.draft.now.path.items l.next c.len-start.result l.cells (drop l.next a.left.now.values.now) (λ ns. go (done ++ ns)) none
    ∙ ap (λ ns. go ns l.env.items l.next l.cells (drop l.next a.left.now.values.now)) (append-nil done) in
    let put = after_writing (number_bytes a.number_type (unit_number parts done)) [] (later l.env.items l.next (c.len-start.result + bytes_in a.number_type.width) l.cells (drop l.next a.left.now.values.now)) in
    let m : makes_unit a.number_type parts done ≡ false = ap (makes_unit a.number_type parts) (sym (all_left c.len-first.result c.as_slice.result.now l.env.items c.as_slice.ensures.value)) ∙ c.in_default.ensures in
    ended ∙ ap (λ b. wanted b Range a.draft.now.path.items (wanted (has_room c.len-start.result (bytes_in a.number_type.width)) Long a.draft.now.path.items put)) m ∙ ap (Refused Range) (sym l.invariant.back)

pub returns-then-not-has_room-clause-err : goal.returns-then-not-has_room-clause-err
returns-then-not-has_room-clause-err c = λ later.
    let a = c.args in
    let l = c.loop-part in
    let parts : List Part = c.as_slice-parts.result.now in
    let done : List ℕ = drop c.len-first.result l.env.items in
    let none : drop l.part-index parts ≡ [] = drop_all l.part-index parts (omega (arith, c.loop-part-test.false)) in
    let own : a.field.now.parts ≡ parts = sym c.as_slice-parts.ensures in
    let from : length a.draft.now.out.items ≡ c.len-start.result = sym (c.len-start.ensures ∙ a.draft.now.out.ok.0) in
    let go = unit_then a.number_type parts a.draft.now.path.items c.len-start.result later in
    let ended = (λ k. parts_written in_machine a.number_type (own k) a.env.now.items a.places.now a.draft.now.path.items a.left.now.index (from k) a.cells.now (drop a.left.now.index a.left.now.values.now) (unit_then a.number_type (own k) a.draft.now.path.items (from k) later))
    ∙ l.invariant.rest go
    ∙ parts_none in_machine a.number_type (drop l.part-index parts) l.env.items a.places.now a.draft.now.path.items l.next c.len-start.result l.cells (drop l.next a.left.now.values.now) (λ ns. go (done ++ ns)) none
    ∙ ap (λ ns. go ns l.env.items l.next l.cells (drop l.next a.left.now.values.now)) (append-nil done) in
    let put = after_writing (number_bytes a.number_type (unit_number parts done)) [] (later l.env.items l.next (c.len-start.result + bytes_in a.number_type.width) l.cells (drop l.next a.left.now.values.now)) in
    let m : makes_unit a.number_type parts done ≡ true = ap (makes_unit a.number_type parts) (sym (all_left c.len-first.result c.as_slice.result.now l.env.items c.as_slice.ensures.value)) ∙ c.in-Some.ensures.0 in
    let r : has_room c.len-start.result (bytes_in a.number_type.width) ≡ false = ap (λ k. has_room c.len-start.result k) (sym c.byte_count.ensures) ∙ sym c.has_room.ensures ∙ search rules in
    ended ∙ (λ k. wanted (m k) Range a.draft.now.path.items (wanted (r k) Long a.draft.now.path.items put)) ∙ ap (Refused Long) (sym l.invariant.back)

pub returns-clause-ok : goal.returns-clause-ok
returns-clause-ok c = λ later.
    let a = c.args in
    let l = c.loop-part in
    let parts : List Part = c.as_slice-parts.result.now in
    let done : List ℕ = drop c.len-first.result l.env.items in
    let none : drop l.part-index parts ≡ [] = drop_all l.part-index parts (omega (arith, c.loop-part-test.false)) in
    let own : a.field.now.parts ≡ parts = sym c.as_slice-parts.ensures in
    let from : length a.draft.now.out.items ≡ c.len-start.result = sym (c.len-start.ensures ∙ a.draft.now.out.ok.0) in
    let go = unit_then a.number_type parts a.draft.now.path.items c.len-start.result later in
    let ended = (λ k. parts_written in_machine a.number_type (own k) a.env.now.items a.places.now a.draft.now.path.items a.left.now.index (from k) a.cells.now (drop a.left.now.index a.left.now.values.now) (unit_then a.number_type (own k) a.draft.now.path.items (from k) later))
    ∙ l.invariant.rest go
    ∙ parts_none in_machine a.number_type (drop l.part-index parts) l.env.items a.places.now a.draft.now.path.items l.next c.len-start.result l.cells (drop l.next a.left.now.values.now) (λ ns. go (done ++ ns)) none
    ∙ ap (λ ns. go ns l.env.items l.next l.cells (drop l.next a.left.now.values.now)) (append-nil done) in
    let put = after_writing (number_bytes a.number_type (unit_number parts done)) [] (later l.env.items l.next (c.len-start.result + bytes_in a.number_type.width) l.cells (drop l.next a.left.now.values.now)) in
    let m : makes_unit a.number_type parts done ≡ true = ap (makes_unit a.number_type parts) (sym (all_left c.len-first.result c.as_slice.result.now l.env.items c.as_slice.ensures.value)) ∙ c.in-Some.ensures.0 in
    let r : has_room c.len-start.result (bytes_in a.number_type.width) ≡ true = ap (λ k. has_room c.len-start.result k) (sym c.byte_count.ensures) ∙ sym c.has_room.ensures ∙ search rules in
    let n : ℕ = unit_number parts done in
    let bytes : List ℕ = number_bytes a.number_type n in
    let value : c.in-Some.number ≡ n = c.in-Some.ensures.1 ∙ ap (unit_number parts) (all_left c.len-first.result c.as_slice.result.now l.env.items c.as_slice.ensures.value) in
    let grown : a.draft.now.out.items ++ bytes ≡ c.push_number.new.out.items = sym (c.in_ok-push_number.ensures ∙ ap (λ k. a.draft.now.out.items ++ number_bytes a.number_type k) value) in
    let size : c.len-start.result + bytes_in a.number_type.width ≡ length c.push_number.new.out.items = omega (arith, from, number_length a.number_type n, ap length grown, length-append a.draft.now.out.items bytes) in
    let claims = claims_of a.draft.now.claims.items in
    record {
      total = ap (after_writing a.draft.now.out.items claims) (ended ∙ (λ k. wanted (m k) Range a.draft.now.path.items (wanted (r k) Long a.draft.now.path.items put)))
          ∙ twice_after a.draft.now.out.items bytes claims [] (later l.env.items l.next (c.len-start.result + bytes_in a.number_type.width) l.cells (drop l.next a.left.now.values.now))
          ∙ (λ k. after_writing (grown k) (append-nil claims k) (later l.env.items l.next (size k) l.cells (drop l.next a.left.now.values.now)));
    }
