use Rattle.std.proofs.Common.{◌≡◌, ℕ, suc, ◌+◌, ◌-◌, ◌*◌, ◌<◌, ◌≤◌, max, length, slice_index, sym, ap, ◌∙◌, subst, arith}
use Rattle.td_ir.specs.Tables.{first_of}
use Rattle.td_verify.specs.Shape.{shapes_of}
use Rattle.td_vm.specs.Need.{greatest, room_below, most as most_of}
use Rattle.td_vm.specs.Arm.{own_of}
use Rattle.td_vm.proofs.Turns.{end_is, end_in}
use Rattle.td_vm.proofs.Rooms.{room_told, told_more, told_small, small_more}
use Rattle.td_vm.proofs.arm.need_of.Goals as goal

pub room_of-room-requires-clause-within : goal.room_of-room-requires-clause-within
room_of-room-requires-clause-within c =
    let C = c.args.parts.now in
    let n = c.loop-n.n in
    let l : n < length C.routines = omega (arith, c.loop-n-test.true, c.len-n-end.ensures) in
    let q : n + 1 ≡ suc n = omega arith in
    let f = c.requires.begins.each (n + 1) (omega (arith, l)) ∙ ap (first_of C) q in
    omega (arith, f, end_in C n c.requires.runnable l)

pub room_of-room-requires-clause-order : goal.room_of-room-requires-clause-order
room_of-room-requires-clause-order c =
    let C = c.args.parts.now in
    let n = c.loop-n.n in
    let l : n < length C.routines = omega (arith, c.loop-n-test.true, c.len-n-end.ensures) in
    let q : n + 1 ≡ suc n = omega arith in
    let b = c.requires.begins.each n (omega (arith, l)) in
    let f = c.requires.begins.each (n + 1) (omega (arith, l)) ∙ ap (first_of C) q in
    omega (arith, b, f, end_is C n)

pub overflow_add-need : goal.overflow_add-need
overflow_add-need c =
    let i = c.loop-n.invariant in
    let C = c.args.parts.now in
    let f = own_of c.args.kind C in
    let small = c.room_of-room.ensures.small (196605 * 4294967296) (λ m l. subst (λ ys. slice_index ys m ≤ 196605 * 4294967296) (sym c.deref.ensures.value) (told_small c.loop-n.needs.items c.loop-n.n (196605 * 4294967296) i.count i.small m (λ q. omega (arith, l)))) in
    omega (arith, small, c.own.ensures.small)

pub loop-n-preserved : goal.loop-n-preserved
loop-n-preserved c =
    let C = c.args.parts.now in
    let n = c.loop-n.n in
    let i = c.loop-n.invariant in
    let f = own_of c.args.kind C in
    let F : ℕ → ℕ = λ m. f m + room_below f C m in
    let l : n < length C.routines = omega (arith, c.loop-n-test.true, c.len-n-end.ensures) in
    let q : n + 1 ≡ suc n = omega arith in
    let r : suc n ≡ n + 1 = omega arith in
    let b = c.requires.begins.each n (omega (arith, l)) in
    let e = c.requires.begins.each (n + 1) (omega (arith, l)) ∙ ap (first_of C) q in
    let told = room_told f C n _ _ c.loop-n.needs.items c.requires.runnable l i.each b e in
    let room : c.room_of-room.result ≡ room_below f C n = c.room_of-room.ensures.is ∙ ap (λ ys. greatest (shapes_of C) (λ m. slice_index ys m) (slice_index c.args.begins.now n) (slice_index c.args.begins.now (n + 1) - slice_index c.args.begins.now n)) c.deref.ensures.value ∙ told in
    let own : c.own.result ≡ f n = c.own.ensures.is in
    let need = c.own.result + c.room_of-room.result in
    let is : need ≡ F n = omega (arith, room, own) in
    let items = c.in_ok-push.ensures.items in
    let low = c.room_of-room.ensures.small (196605 * n) (λ m z. subst (λ ys. slice_index ys m ≤ 196605 * n) (sym c.deref.ensures.value) (told_small c.loop-n.needs.items n (196605 * n) i.count i.small m (λ w. omega (arith, w)))) in
    record {
      count = omega (arith, i.count, c.in_ok-push.ensures.len);
      each = λ m z. subst (λ ys. slice_index ys m ≡ F m) (sym items) (told_more F c.loop-n.needs.items n need i.count i.each is m z);
      small = λ m z. subst (λ ys. slice_index ys m ≤ 196605 * (m + 1)) (sym items) (small_more c.loop-n.needs.items n need i.count i.small (omega (arith, low, c.own.ensures.small)) m z);
      most = c.greater-most.ensures ∙ ap (λ x. max x need) i.most ∙ ap (max (most_of f C n)) is ∙ ap (most_of f C) r;
    }
