use Rattle.std.proofs.Common.{◌≡◌, ℕ, ◌+◌, ◌-◌, ◌<◌, length, true, Some, None, sym, ap, ◌∙◌, arith}
use Rattle.std.proofs.lemmas.List.{length-set}
use Rattle.td_num.specs.Lists.{is_among}
use Rattle.td_front_order.specs.Order.{next, taken_after}
use Rattle.td_front_order.specs.Flags.{flag_at}
use Rattle.td_front_order.proofs.Ready.{next_is, turn_last, turn_more, turns_left, flagged_more}
use Rattle.td_front_order.proofs.Listed.{least_ready, none_ready, no_keys, first_in, now_here, sound_taken, listed_taken}
use Rattle.td_front_order.proofs.order.take_all.Goals as goal

pub returns-in_default : goal.returns-in_default
returns-in_default c =
    let l = c.loop-turn in
    let graph = c.args.graph.now in
    let none : next graph l.taken ≡ None =
    sym (next_is graph l.flags l.taken l.invariant.flags)
    ∙ none_ready graph (flag_at l.flags) l.waiting l.ready.keys l.invariant.listed (no_keys l.ready.keys c.pop_first.result c.in_default.is c.pop_first.ensures.variant.1)
    in
    sym (turn_last (length graph - l.turn) graph l.taken none) ∙ l.invariant.rest

pub bounds-flags-number : goal.bounds-flags-number
bounds-flags-number c =
    let l = c.loop-turn in
    let at = l.invariant.sound c.in-Some.number (first_in c.in-Some.number l.ready.keys c.pop_first.new.self.keys c.in-Some.ensures.removal) in
    omega (arith, at.0, l.invariant.size)

pub release-requires-clause-number : goal.release-requires-clause-number
release-requires-clause-number c =
    let l = c.loop-turn in
    let at = l.invariant.sound c.in-Some.number (first_in c.in-Some.number l.ready.keys c.pop_first.new.self.keys c.in-Some.ensures.removal) in
    at.0

pub release-requires-clause-taken : goal.release-requires-clause-taken
release-requires-clause-taken c =
    let l = c.loop-turn in
    let at = l.invariant.sound c.in-Some.number (first_in c.in-Some.number l.ready.keys c.pop_first.new.self.keys c.in-Some.ensures.removal) in
    now_here c.args.graph.now l.flags c.in-Some.number (omega (arith, at.0, l.invariant.size))

pub release-requires-clause-sound : goal.release-requires-clause-sound
release-requires-clause-sound c =
    let l = c.loop-turn in
    let at = l.invariant.sound c.in-Some.number (first_in c.in-Some.number l.ready.keys c.pop_first.new.self.keys c.in-Some.ensures.removal) in
    sound_taken c.args.graph.now l.flags c.in-Some.number (omega (arith, at.0, l.invariant.size)) l.ready.keys c.pop_first.new.self.keys c.in-Some.ensures.updates.0 l.invariant.sound

pub release-requires-clause-listed : goal.release-requires-clause-listed
release-requires-clause-listed c =
    let l = c.loop-turn in
    let at = l.invariant.sound c.in-Some.number (first_in c.in-Some.number l.ready.keys c.pop_first.new.self.keys c.in-Some.ensures.removal) in
    listed_taken c.args.graph.now l.flags c.in-Some.number (omega (arith, at.0, l.invariant.size)) l.waiting l.ready.keys c.pop_first.new.self.keys c.in-Some.ensures.updates.0 l.invariant.listed

pub loop-turn-preserved : goal.loop-turn-preserved
loop-turn-preserved c =
    let l = c.loop-turn in
    let graph = c.args.graph.now in
    let n = length graph in
    let m = c.in-Some.number in
    let there = first_in m l.ready.keys c.pop_first.new.self.keys c.in-Some.ensures.removal in
    let at = l.invariant.sound m there in
    let inside : m < length l.flags = omega (arith, at.0, l.invariant.size) in
    let some : next graph l.taken ≡ Some m =
    sym (next_is graph l.flags l.taken l.invariant.flags)
    ∙ least_ready graph (flag_at l.flags) l.waiting l.ready.keys m l.invariant.sound l.invariant.listed there c.in-Some.ensures.least
    in
    record {
      within = omega (arith, c.loop-turn-test.true);
      size = length-set l.flags m true ∙ l.invariant.size;
      lists = c.in_ok-release.ensures.lists;
      flags = λ j. flagged_more l.flags l.taken m inside l.invariant.flags j ∙ ap (λ t. is_among t j) (sym c.in_ok-push.ensures.ok);
      sound = c.in_ok-release.ensures.sound;
      listed = c.in_ok-release.ensures.listed;
      rest =
          ap (λ t. taken_after (n - (l.turn + 1)) graph t) c.in_ok-push.ensures.ok
          ∙ sym (turn_more (n - (l.turn + 1)) graph l.taken m some)
          ∙ ap (λ k. taken_after k graph l.taken) (sym (turns_left n l.turn (omega (arith, c.loop-turn-test.true))))
          ∙ l.invariant.rest;
    }
