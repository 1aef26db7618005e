use Rattle.std.proofs.Common.{rules, ◌≡◌, ◌/◌, ◌<◌, ◌≤◌, List, [], length, true, false, sym, ap, ◌∙◌, arith}
use Rattle.std.proofs.lemmas.Bool.{le-leb, lt-leb}
use Rattle.td_num.specs.Numbers.{bytes_in}
use Rattle.td_write_values.specs.Datum.{Datum, Sequence, data_of}
use Rattle.td_write_values.specs.DatumView.{datum_at}
use Rattle.td_write_values.specs.Spelling.{ends_in_zero}
use Rattle.td_write_values.specs.Writing.{Refused}
use Rattle.td_write.specs.Imports.{Broken, Constraint}
use Rattle.td_write.proofs.Listed.{up_to_zero_shape, up_to_zero_halts, up_to_zero_bound, up_to_zero_done}
use Rattle.td_write.proofs.leaves.write_up_to_zero.Goals as goal

pub returns-then-not-ends_in_zero-clause-err : goal.returns-then-not-ends_in_zero-clause-err
returns-then-not-ends_in_zero-clause-err c = λ cells.
    let a = c.args in
    let xs : List Datum = c.as_slice-values.result.now in
    let is : a.value.now ≡ Sequence (data_of xs) = sym c.value.view_is ∙ ap datum_at c.in-List.is ∙ ap (λ ws. Sequence (data_of ws)) (sym c.as_slice-values.ensures) in
    let z : ends_in_zero xs ≡ false = sym c.ends_in_zero.ensures ∙ search rules in
    up_to_zero_shape a.number_type a.size a.path.now.items cells a.value.now xs is (length a.out.now.items) z

pub returns-in-Err-clause-err : goal.returns-in-Err-clause-err
returns-in-Err-clause-err c = λ cells.
    let a = c.args in
    let xs : List Datum = c.as_slice-values.result.now in
    let is : a.value.now ≡ Sequence (data_of xs) = sym c.value.view_is ∙ ap datum_at c.in-List.is ∙ ap (λ ws. Sequence (data_of ws)) (sym c.as_slice-values.ensures) in
    let z : ends_in_zero xs ≡ true = sym c.ends_in_zero.ensures ∙ search rules in
    up_to_zero_halts a.number_type a.size a.path.now.items cells a.value.now xs is c.in-Err.halt c.write_numbers.new.path.items (length a.out.now.items) z (c.in-Err.ensures.err cells)

pub returns-then-values-bound-clause-err : goal.returns-then-values-bound-clause-err
returns-then-values-bound-clause-err c = λ cells.
    let a = c.args in
    let xs : List Datum = c.as_slice-values.result.now in
    let is : a.value.now ≡ Sequence (data_of xs) = sym c.value.view_is ∙ ap datum_at c.in-List.is ∙ ap (λ ws. Sequence (data_of ws)) (sym c.as_slice-values.ensures) in
    let width : a.size / c.byte_count.result ≡ a.size / bytes_in a.number_type.width = ap (λ k. a.size / k) c.byte_count.ensures in
    let z : ends_in_zero xs ≡ true = sym c.ends_in_zero.ensures ∙ search rules in
    let wrote = c.in-Ok.ensures.ok cells [] in
    let past : a.size / bytes_in a.number_type.width < length xs = omega (arith, width) in
    up_to_zero_bound a.number_type a.size a.path.now.items cells a.value.now xs is a.out.now.items c.write_numbers.new.out.items [] z wrote.total (lt-leb (length xs) (a.size / bytes_in a.number_type.width) past)
    ∙ ap (Refused (Broken Constraint)) (sym wrote.back)

pub returns-else-values-bound-clause-ok : goal.returns-else-values-bound-clause-ok
returns-else-values-bound-clause-ok c = λ cells claims.
    let a = c.args in
    let xs : List Datum = c.as_slice-values.result.now in
    let is : a.value.now ≡ Sequence (data_of xs) = sym c.value.view_is ∙ ap datum_at c.in-List.is ∙ ap (λ ws. Sequence (data_of ws)) (sym c.as_slice-values.ensures) in
    let width : a.size / c.byte_count.result ≡ a.size / bytes_in a.number_type.width = ap (λ k. a.size / k) c.byte_count.ensures in
    let z : ends_in_zero xs ≡ true = sym c.ends_in_zero.ensures ∙ search rules in
    let wrote = c.in-Ok.ensures.ok cells claims in
    let within : length xs ≤ a.size / bytes_in a.number_type.width = omega (arith, width) in
    record {
      total = up_to_zero_done a.number_type a.size a.path.now.items cells a.value.now xs is a.out.now.items c.write_numbers.new.out.items claims z wrote.total (le-leb (length xs) (a.size / bytes_in a.number_type.width) within);
      room = wrote.room;
      back = wrote.back;
    }
