use Rattle.std.proofs.Common.{rules, ◌≡◌, ◌+◌, List, [], ◌∷◌, ◌++◌, drop, true, false, sym, ap, ◌∙◌, subst, arith}
use Rattle.std.proofs.lemmas.List.{drop_more, drop_all}
use Rattle.td_num.specs.Numbers.{bytes_in}
use Rattle.td_core.specs.declared.outcome.Verdict.{Verdict}
use Rattle.td_core.specs.Outcome.{Behavior}
use Rattle.td_meaning.specs.Words64.{checked}
use Rattle.td_meaning.specs.Verdicts.{ending_of}
use Rattle.td_write.specs.Imports.{Shape, Range, Broken, Long}
use Rattle.td_write_values.specs.Datum.{Datum, Number}
use Rattle.td_write_values.specs.Bytes.{fits}
use Rattle.td_write_values.specs.Writing.{Refused, has_room, parts_written, in_machine}
use Rattle.td_write.specs.declared.halt.Halt.{Halt}
use Rattle.td_write.specs.Writes.{Halts}
use Rattle.td_write.proofs.Pieces.{part_missing, part_shape, part_range, part_long, part_broken, part_passed}
use Rattle.td_write.proofs.units.one_part.Goals as goal

pub returns-then-index-values-clause-err : goal.returns-then-index-values-clause-err
returns-then-index-values-clause-err c = λ parts go.
    let a = c.args in
    part_missing in_machine a.unit.number_type a.part.now parts a.env.now.items a.places.now a.path.now.items a.left.now.index a.unit.start a.cells.now go (drop a.left.now.index a.left.now.values.now) (drop_all a.left.now.index a.left.now.values.now (omega (arith, c.if-index-values.true)))

pub returns-in-Err-clause-err : goal.returns-in-Err-clause-err
returns-in-Err-clause-err c = λ parts go.
    let a = c.args in
    let vs : List Datum = a.left.now.values.now in
    let v : Datum = c.index-values-index.result in
    let split : drop a.left.now.index vs ≡ v ∷ drop (a.left.now.index + 1) vs = drop_more vs a.left.now.index v (omega (arith, c.if-index-values.false)) ∙ (λ k. sym c.index-values-index.is k ∷ drop (a.left.now.index + 1) vs) in
    let at : c.push.new.self.items ≡ a.path.now.items ++ a.left.now.index ∷ [] = search rules in
    let w = parts_written in_machine a.unit.number_type (a.part.now ∷ parts) a.env.now.items a.places.now a.path.now.items a.left.now.index a.unit.start a.cells.now (drop a.left.now.index vs) go in
    let is : w ≡ Refused Shape c.push.new.self.items = part_shape in_machine a.unit.number_type a.part.now parts a.env.now.items a.places.now a.path.now.items a.left.now.index a.unit.start a.cells.now go (drop a.left.now.index vs) (drop (a.left.now.index + 1) vs) v split c.in-Err.ensures.err.0 ∙ ap (Refused Shape) (sym at) in
    subst (λ (h : Halt). Halts h c.push.new.self.items w) (sym c.in-Err.ensures.err.1) is

pub returns-then-not-fits-clause-err : goal.returns-then-not-fits-clause-err
returns-then-not-fits-clause-err c = λ parts go.
    let a = c.args in
    let vs : List Datum = a.left.now.values.now in
    let v : Datum = c.index-values-index.result in
    let n = c.in-Ok.number in
    let split : drop a.left.now.index vs ≡ Number n ∷ drop (a.left.now.index + 1) vs = drop_more vs a.left.now.index v (omega (arith, c.if-index-values.false)) ∙ (λ k. (sym c.index-values-index.is ∙ c.in-Ok.ensures.ok) k ∷ drop (a.left.now.index + 1) vs) in
    let at : c.push.new.self.items ≡ a.path.now.items ++ a.left.now.index ∷ [] = search rules in
    let f : fits a.unit.number_type a.part.now.bits n ≡ false = sym c.fits.ensures ∙ search rules in
    part_range in_machine a.unit.number_type a.part.now parts a.env.now.items a.places.now a.path.now.items a.left.now.index a.unit.start a.cells.now go (drop a.left.now.index vs) (drop (a.left.now.index + 1) vs) n split f ∙ ap (Refused Range) (sym at)

pub returns-then-not-has_room-clause-err : goal.returns-then-not-has_room-clause-err
returns-then-not-has_room-clause-err c = λ parts go.
    let a = c.args in
    let vs : List Datum = a.left.now.values.now in
    let v : Datum = c.index-values-index.result in
    let n = c.in-Ok.number in
    let split : drop a.left.now.index vs ≡ Number n ∷ drop (a.left.now.index + 1) vs = drop_more vs a.left.now.index v (omega (arith, c.if-index-values.false)) ∙ (λ k. (sym c.index-values-index.is ∙ c.in-Ok.ensures.ok) k ∷ drop (a.left.now.index + 1) vs) in
    let at : c.push.new.self.items ≡ a.path.now.items ++ a.left.now.index ∷ [] = search rules in
    let f : fits a.unit.number_type a.part.now.bits n ≡ true = sym c.fits.ensures ∙ search rules in
    let r : has_room a.unit.start (bytes_in a.unit.number_type.width) ≡ false = ap (λ k. has_room a.unit.start k) (sym c.byte_count-width.ensures) ∙ sym c.has_room.ensures ∙ search rules in
    part_long in_machine a.unit.number_type a.part.now parts a.env.now.items a.places.now a.path.now.items a.left.now.index a.unit.start a.cells.now go (drop a.left.now.index vs) (drop (a.left.now.index + 1) vs) n split f r ∙ ap (Refused Long) (sym at)

pub returns-in-Reject-clause-err : goal.returns-in-Reject-clause-err
returns-in-Reject-clause-err c = λ parts go.
    let a = c.args in
    let vs : List Datum = a.left.now.values.now in
    let v : Datum = c.index-values-index.result in
    let n = c.in-Ok.number in
    let split : drop a.left.now.index vs ≡ Number n ∷ drop (a.left.now.index + 1) vs = drop_more vs a.left.now.index v (omega (arith, c.if-index-values.false)) ∙ (λ k. (sym c.index-values-index.is ∙ c.in-Ok.ensures.ok) k ∷ drop (a.left.now.index + 1) vs) in
    let at : c.push.new.self.items ≡ a.path.now.items ++ a.left.now.index ∷ [] = search rules in
    let f : fits a.unit.number_type a.part.now.bits n ≡ true = sym c.fits.ensures ∙ search rules in
    let r : has_room a.unit.start (bytes_in a.unit.number_type.width) ≡ true = ap (λ k. has_room a.unit.start k) (sym c.byte_count-width.ensures) ∙ sym c.has_room.ensures ∙ search rules in
    let scope : c.push-2.new.self.items ≡ a.env.now.items ++ n ∷ [] = search rules in
    let o = (λ k. (checked a.part.now (sym scope k) a.places.now a.unit.start (a.unit.start + sym c.byte_count-width.ensures k) a.cells.now).ending) ∙ ap (λ (t : Behavior). t.ending) c.in_ok-part_verdict.ensures.ending ∙ ap (λ (x : Verdict). ending_of x [] c.part_verdict.new.cells) c.in-Reject.is in
    part_broken in_machine a.unit.number_type a.part.now parts a.env.now.items a.places.now a.path.now.items a.left.now.index a.unit.start a.cells.now go (drop a.left.now.index vs) (drop (a.left.now.index + 1) vs) n c.in-Reject.pos c.in-Reject.reason [] c.part_verdict.new.cells split f r o ∙ ap (Refused (Broken c.in-Reject.reason)) (sym at)

pub returns-in-Accept-clause-ok : goal.returns-in-Accept-clause-ok
returns-in-Accept-clause-ok c = λ parts go.
    let a = c.args in
    let vs : List Datum = a.left.now.values.now in
    let v : Datum = c.index-values-index.result in
    let n = c.in-Ok.number in
    let split : drop a.left.now.index vs ≡ Number n ∷ drop (a.left.now.index + 1) vs = drop_more vs a.left.now.index v (omega (arith, c.if-index-values.false)) ∙ (λ k. (sym c.index-values-index.is ∙ c.in-Ok.ensures.ok) k ∷ drop (a.left.now.index + 1) vs) in
    let f : fits a.unit.number_type a.part.now.bits n ≡ true = sym c.fits.ensures ∙ search rules in
    let r : has_room a.unit.start (bytes_in a.unit.number_type.width) ≡ true = ap (λ k. has_room a.unit.start k) (sym c.byte_count-width.ensures) ∙ sym c.has_room.ensures ∙ search rules in
    let scope : c.push-2.new.self.items ≡ a.env.now.items ++ n ∷ [] = search rules in
    let o = (λ k. (checked a.part.now (sym scope k) a.places.now a.unit.start (a.unit.start + sym c.byte_count-width.ensures k) a.cells.now).ending) ∙ ap (λ (t : Behavior). t.ending) c.in_ok-part_verdict.ensures.ending ∙ ap (λ (x : Verdict). ending_of x [] c.part_verdict.new.cells) c.in-Accept.is in
    part_passed in_machine a.unit.number_type a.part.now parts a.env.now.items a.places.now a.path.now.items a.left.now.index a.unit.start a.cells.now go (drop a.left.now.index vs) (drop (a.left.now.index + 1) vs) n c.in-Accept.pos c.part_verdict.new.cells split f r o
    ∙ ap (λ e. parts_written in_machine a.unit.number_type parts e a.places.now a.path.now.items (a.left.now.index + 1) a.unit.start c.part_verdict.new.cells (drop (a.left.now.index + 1) vs) (λ ns. go (n ∷ ns))) (sym (c.in_ok-part_verdict.ensures.scope ∙ scope))
