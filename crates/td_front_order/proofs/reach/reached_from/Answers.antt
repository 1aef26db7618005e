use Rattle.std.proofs.Common.{rules, ◌≡◌, ◌+◌, ◌<◌, ◌≤◌, length, false, replicate, slice_index_or, sym, ap, subst, ◌∙◌, arith}
use Rattle.std.proofs.lemmas.Option.{slice_get-get_or}
use Rattle.td_front_order.specs.Order.{used_by}
use Rattle.td_front_order.specs.Flags.{AreFlags, AreBelow, add_new}
use Rattle.td_front_order.proofs.Reached.{no_flags, used_are_below, counted_within, longer, IsUpTo, up_to_more, whole_reached}
use Rattle.td_front_order.proofs.reach.reached_from.Goals as goal

pub add_one-requires-clause-flags : goal.add_one-requires-clause-flags
add_one-requires-clause-flags c =
    let items : c.in_ok-room.room.items ≡ replicate (length c.args.graph.now) false = search rules in
    rw (c.as_mut_slice-flags.ensures.value, items, c.new-reached.ensures) (no_flags (length c.args.graph.now))

pub add_all-requires-clause-below : goal.add_all-requires-clause-below
add_all-requires-clause-below c =
    let below = used_are_below c.args.graph.now (slice_index_or c.as_slice.result.now c.loop-cursor.cursor 0) c.requires.within in
    subst (λ n. AreBelow n c.used_by.result.now) (sym c.loop-cursor.invariant.size) (subst (λ us. AreBelow (length c.args.graph.now) us) (sym c.used_by.ensures) below)

pub loop-cursor-smaller : goal.loop-cursor-smaller
loop-cursor-smaller c =
    let l = c.loop-cursor in
    omega (arith, counted_within l.flags, l.invariant.flags.count, l.invariant.size, c.loop-cursor-test.true, c.len.ensures)

pub loop-cursor-preserved : goal.loop-cursor-preserved
loop-cursor-preserved c =
    let l = c.loop-cursor in
    let graph = c.args.graph.now in
    let number = slice_index_or l.reached l.cursor 0 in
    let lt : l.cursor < length l.reached = omega (arith, c.loop-cursor-test.true, c.len.ensures) in
    let used : c.used_by.result.now ≡ used_by graph number = c.used_by.ensures ∙ ap (λ r. used_by graph (slice_index_or r l.cursor 0)) c.as_slice.ensures in
    let new : c.add_all.new.reached ≡ add_new l.reached (used_by graph number) = c.in_ok-add_all.ensures.reached ∙ ap (λ us. add_new l.reached us) used in
    let long = longer l.reached (used_by graph number) in
    record {
      flags = c.in_ok-add_all.ensures.flags;
      size = c.in_ok-add_all.ensures.length ∙ l.invariant.size;
      within = subst (λ r. l.cursor + 1 ≤ length r) (sym new) (omega (arith, lt, long));
      up_to = subst (λ r. IsUpTo graph c.args.from (l.cursor + 1) r) (sym new) (up_to_more graph c.args.from l.cursor number l.reached lt (slice_get-get_or l.reached l.cursor 0 lt) l.invariant.up_to);
    }

pub returns-clause-whole : goal.returns-clause-whole
returns-clause-whole c = λ j r. whole_reached c.args.graph.now c.args.from c.loop-cursor.cursor c.loop-cursor.reached (omega (arith, c.loop-cursor-test.false, c.len.ensures)) c.loop-cursor.invariant.up_to j r
