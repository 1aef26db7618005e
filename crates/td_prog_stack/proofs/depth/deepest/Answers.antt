use Rattle.std.proofs.Common.{◌≡◌, ℕ, suc, ◌+◌, ◌-◌, ◌*◌, ◌^◌, ◌<◌, ◌≤◌, max, length, slice_index, sym, ap, ◌∙◌, subst, arith}
use Rattle.td_ir.specs.declared.tables.Routine.{Routine}
use Rattle.td_ir.specs.Tables.{first_of, end_of}
use Rattle.td_verify.specs.Shape.{shapes_of}
use Rattle.td_vm.specs.Need.{greatest, room_below, most as most_of}
use Rattle.td_prog_stack.proofs.Rooms.{end_is, end_in, room_told, told_more, told_small, small_more}
use Rattle.td_prog_stack.specs.Counted.{counted_of}
use Rattle.td_prog_stack.proofs.depth.deepest.Goals as goal

pub overflow_add-to : goal.overflow_add-to
overflow_add-to c =
    let C = c.args.parts.now in
    let n = c.loop-n.n in
    let l : n < length C.routines = omega (arith, c.loop-n-test.true, c.len-n-end.ensures) in
    let r = ap (λ (x : Routine). x.length) c.routine_at.ensures in
    let e = end_is C n in
    let w = end_in C n c.requires l in
    omega (arith, c.loop-n.invariant.from, r, e, w, c.len-count.ensures, c.len-count.type_inv)

pub greatest_called-requires-clause-within : goal.greatest_called-requires-clause-within
greatest_called-requires-clause-within c =
    let C = c.args.parts.now in
    let n = c.loop-n.n in
    let l : n < length C.routines = omega (arith, c.loop-n-test.true, c.len-n-end.ensures) in
    let r = ap (λ (x : Routine). x.length) c.routine_at.ensures in
    let e = end_is C n in
    let w = end_in C n c.requires l in
    omega (arith, c.loop-n.invariant.from, r, e, w)

pub overflow_add-all : goal.overflow_add-all
overflow_add-all c =
    let i = c.loop-n.invariant in
    let bound = 196605 * 4294967296 in
    let small = c.greatest_called.ensures.small bound (λ m l. subst (λ ys. slice_index ys m ≤ bound) (sym c.deref.ensures.value) (told_small c.loop-n.table.items c.loop-n.n bound i.count i.small m (λ q. omega (arith, l)))) in
    omega (arith, small, c.own.ensures.small)

pub loop-n-preserved : goal.loop-n-preserved
loop-n-preserved c =
    let C = c.args.parts.now in
    let n = c.loop-n.n in
    let i = c.loop-n.invariant in
    let f = counted_of c.args.counted C in
    let F : ℕ → ℕ = λ m. f m + room_below f C m in
    let l : n < length C.routines = omega (arith, c.loop-n-test.true, c.len-n-end.ensures) in
    let s : suc n ≡ n + 1 = omega arith in
    let length_is = ap (λ (x : Routine). x.length) c.routine_at.ensures in
    let to = c.loop-n.from + c.routine_at.result.now.length in
    let to_is : to ≡ end_of C n = (let e = end_is C n in omega (arith, i.from, length_is, e)) in
    let from : to ≡ first_of C (n + 1) = to_is ∙ ap (first_of C) s in
    let told = room_told f C n c.loop-n.from to c.loop-n.table.items c.requires l i.each i.from to_is in
    let room : c.greatest_called.result ≡ room_below f C n = c.greatest_called.ensures.is ∙ ap (λ ys. greatest (shapes_of C) (λ m. slice_index ys m) c.loop-n.from (to - c.loop-n.from)) c.deref.ensures.value ∙ told in
    let all = c.own.result + c.greatest_called.result in
    let is : all ≡ F n = omega (arith, room, c.own.ensures.is) in
    let items = c.in_ok-push.ensures.items in
    let bound = 196605 * 4294967296 in
    let small = c.greatest_called.ensures.small bound (λ m q. subst (λ ys. slice_index ys m ≤ bound) (sym c.deref.ensures.value) (told_small c.loop-n.table.items n bound i.count i.small m (λ w. omega (arith, q)))) in
    let low = c.greatest_called.ensures.small (196605 * n) (λ m z. subst (λ ys. slice_index ys m ≤ 196605 * n) (sym c.deref.ensures.value) (told_small c.loop-n.table.items n (196605 * n) i.count i.small m (λ w. omega (arith, w)))) in
    record {
      from = from;
      count = omega (arith, i.count, c.in_ok-push.ensures.len);
      each = λ m z. subst (λ ys. slice_index ys m ≡ F m) (sym items) (told_more F c.loop-n.table.items n all i.count i.each is m z);
      small = λ m z. subst (λ ys. slice_index ys m ≤ 196605 * (m + 1)) (sym items) (small_more c.loop-n.table.items n all i.count i.small (omega (arith, low, c.own.ensures.small)) m z);
      most = c.greater-most.ensures ∙ ap (λ x. max x all) i.most ∙ ap (max (most_of f C n)) is ∙ ap (most_of f C) s;
      low = (let g = c.greater-most.ensures in omega (arith, g, i.low, small, c.own.ensures.small));
    }
