use Rattle.std.proofs.Common.{rules, ◌≡◌, ◌+◌, List, [], ◌∷◌, ◌++◌, drop, length, refl, sym, ap, ◌∙◌, arith, vec_len}
use Rattle.std.proofs.lemmas.List.{drop_more, drop_all}
use Rattle.td_write_values.specs.Datum.{Datum}
use Rattle.td_write_values.specs.Writing.{items_written, number_written}
use Rattle.td_write.specs.Imports.{Size}
use Rattle.td_write.specs.declared.halt.Halt.TheVariants as halt
use Rattle.td_write.proofs.Totals.{one_more, one_empty, all_written, halts_total, halts_items, halts_at}
use Rattle.td_write.proofs.Listed.{popped}
use Rattle.td_write.proofs.leaves.write_numbers.Goals as goal

pub returns-clause-ok : goal.returns-clause-ok
returns-clause-ok c = λ cells claims.
    let a = c.args in
    let l = c.loop-index in
    let none : drop l.index a.values.now ≡ [] = drop_all l.index a.values.now (omega (arith, c.loop-index-test.false)) in
    record {
      total = l.invariant.total cells claims ∙ all_written (number_written a.number_type) a.path.now.items l.out.items l.index cells claims (drop l.index a.values.now) none;
      room = l.invariant.room;
      back = l.invariant.back;
    }

pub loop-index-preserved : goal.loop-index-preserved
loop-index-preserved c =
    let a = c.args in
    let l = c.loop-index in
    let vs : List Datum = a.values.now in
    let v : Datum = c.index-values-index.result in
    let split : drop l.index vs ≡ v ∷ drop (l.index + 1) vs = drop_more vs l.index v c.loop-index-test.true ∙ (λ k. sym c.index-values-index.is k ∷ drop (l.index + 1) vs) in
    let mid : c.push.new.self.items ≡ l.path.items ++ l.index ∷ [] = search rules in
    record {
      room = c.in-Ok.ensures.room;
      back = popped l.index l.path.items c.push.new.self.items c.pop.new.self.items (vec_len c.push.new.self) mid c.push.new.self.ok.0 c.pop.ensures.rest ∙ l.invariant.back;
      total = λ cells claims.
          l.invariant.total cells claims
          ∙ one_more (number_written a.number_type) a.path.now.items l.out.items c.write_number.new.out.items l.index cells cells claims claims (drop l.index vs) (drop (l.index + 1) vs) v split (c.in-Ok.ensures.ok (a.path.now.items ++ l.index ∷ []) cells claims)
          (λ e. c.if-len-start.false (omega (arith, e, c.len.ensures, c.len-start.ensures, c.write_number.new.out.ok.0, l.out.ok.0)));
    }

pub returns-in-Err-clause-err : goal.returns-in-Err-clause-err
returns-in-Err-clause-err c = λ cells.
    let a = c.args in
    let l = c.loop-index in
    let vs : List Datum = a.values.now in
    let v : Datum = c.index-values-index.result in
    let each = number_written a.number_type in
    let split : drop l.index vs ≡ v ∷ drop (l.index + 1) vs = drop_more vs l.index v c.loop-index-test.true ∙ (λ k. sym c.index-values-index.is k ∷ drop (l.index + 1) vs) in
    let mid : c.push.new.self.items ≡ l.path.items ++ l.index ∷ [] = search rules in
    let at : c.push.new.self.items ≡ a.path.now.items ++ l.index ∷ [] = mid ∙ ap (λ x. x ++ l.index ∷ []) l.invariant.back in
    let here = halts_at c.in-Err.halt c.push.new.self.items (a.path.now.items ++ l.index ∷ []) (each (a.path.now.items ++ l.index ∷ []) (length l.out.items) cells v) (each (a.path.now.items ++ l.index ∷ []) (length l.out.items) cells v) at refl (c.in-Err.ensures.err (a.path.now.items ++ l.index ∷ []) cells) in
    halts_total c.in-Err.halt c.push.new.self.items a.out.now.items l.out.items [] [] _ (items_written each a.path.now.items l.index (length l.out.items) cells (drop l.index vs)) (l.invariant.total cells [])
    (halts_items c.in-Err.halt c.push.new.self.items each a.path.now.items l.index (length l.out.items) cells (drop l.index vs) (drop (l.index + 1) vs) v split here)

pub returns-then-len-start-clause-err : goal.returns-then-len-start-clause-err
returns-then-len-start-clause-err c = λ cells.
    let a = c.args in
    let l = c.loop-index in
    let vs : List Datum = a.values.now in
    let v : Datum = c.index-values-index.result in
    let each = number_written a.number_type in
    let split : drop l.index vs ≡ v ∷ drop (l.index + 1) vs = drop_more vs l.index v c.loop-index-test.true ∙ (λ k. sym c.index-values-index.is k ∷ drop (l.index + 1) vs) in
    let mid : c.push.new.self.items ≡ l.path.items ++ l.index ∷ [] = search rules in
    let at : c.push.new.self.items ≡ a.path.now.items ++ l.index ∷ [] = mid ∙ ap (λ x. x ++ l.index ∷ []) l.invariant.back in
    let same : length c.write_number.new.out.items ≡ length l.out.items = omega (arith, c.if-len-start.true, c.len.ensures, c.len-start.ensures, c.write_number.new.out.ok.0, l.out.ok.0) in
    let empty = one_empty each a.path.now.items l.out.items c.write_number.new.out.items l.index cells cells [] [] (drop l.index vs) (drop (l.index + 1) vs) v split (c.in-Ok.ensures.ok (a.path.now.items ++ l.index ∷ []) cells []) same in
    let W = items_written each a.path.now.items l.index (length l.out.items) cells (drop l.index vs) in
    halts_total (halt.Broken Size) c.push.new.self.items a.out.now.items l.out.items [] [] _ W (l.invariant.total cells [])
    (halts_at (halt.Broken Size) c.push.new.self.items (a.path.now.items ++ l.index ∷ []) W W at refl empty)
