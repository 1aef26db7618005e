use Rattle.std.proofs.Common.{◌≡◌, suc, ◌+◌, ◌<◌, length, slice_index, sym, ap, subst, arith}
use Rattle.td_ir.specs.Tables.{first_of}
use Rattle.td_vm.proofs.Turns.{end_is, end_in}
use Rattle.td_vm.proofs.Rooms.{told_more}
use Rattle.td_vm.proofs.arm.begins_of.Goals as goal

pub overflow_add-from : goal.overflow_add-from
overflow_add-from c =
    let C = c.args.parts.now in
    let n = c.loop-n.n in
    let i = c.loop-n.invariant in
    let l : n < length C.routines = omega (arith, c.loop-n-test.true, c.len-n-end.ensures) in
    let r = ap (λ x. x.length) c.routine_at.ensures in
    let e = end_is C n in
    let w = end_in C n c.requires l in
    omega (arith, i.from, r, e, w, c.len-count.ensures, c.len-count.type_inv)

pub loop-n-preserved : goal.loop-n-preserved
loop-n-preserved c =
    let C = c.args.parts.now in
    let n = c.loop-n.n in
    let i = c.loop-n.invariant in
    let r = ap (λ x. x.length) c.routine_at.ensures in
    let s : suc n ≡ n + 1 = omega arith in
    let e = end_is C n in
    let q = ap (first_of C) s in
    let from : c.loop-n.from + c.routine_at.result.now.length ≡ first_of C (n + 1) = omega (arith, i.from, r, e, q) in
    let items = c.push_reserved-in-loop-n.ensures.items in
    record {
      from = from;
      count = omega (arith, i.count, c.push_reserved-in-loop-n.ensures.len);
      each = λ m z. subst (λ ys. slice_index ys m ≡ first_of C m) (sym items) (told_more (first_of C) c.loop-n.begins.items (n + 1) (c.loop-n.from + c.routine_at.result.now.length) i.count (λ k l. i.each k (omega (arith, l))) from m (omega (arith, z)));
      memory = omega (arith, i.memory, c.push_reserved-in-loop-n.ensures.capacity);
    }
