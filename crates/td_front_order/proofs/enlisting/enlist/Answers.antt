use Rattle.std.proofs.Common.{◌≡◌, ◌<◌, ◌∷◌, ◌++◌, true, false, length, set, sym, ap, subst, ◌∙◌, arith}
use Rattle.std.specs.List.{list_all}
use Rattle.td_num.specs.Lists.{is_among}
use Rattle.td_front_order.specs.Order.{used_by}
use Rattle.td_front_order.specs.Flags.{flag_at}
use Rattle.td_front_order.specs.Waiting.{IsListed}
use Rattle.td_front_order.proofs.Listed.{kept_waiting, new_waiting, kept_ready, sound_ready}
use Rattle.td_front_order.proofs.enlisting.enlist.Goals as goal

pub returns-in_ok-add_to-in-Some-clause-kept : goal.returns-in_ok-add_to-in-Some-clause-kept
returns-in_ok-add_to-in-Some-clause-kept c =
    let graph = c.args.graph.now in
    let other = c.in-Some.other in
    let u : is_among (used_by graph c.args.number) other ≡ true = subst (λ us. is_among us other ≡ true) c.used_by.ensures c.in-Some.ensures.0 in
    let inside = c.requires.within c.args.number other u in
    let lt : other < length c.args.waiting.now = omega (arith, inside, c.requires.lists) in
    λ k l. subst (λ w. IsListed graph (flag_at c.args.flags.now) w c.args.ready.now.keys k) (sym c.in_ok-add_to-in-Some.ensures)
    (kept_waiting graph (flag_at c.args.flags.now) c.args.waiting.now c.args.ready.now.keys other c.args.number lt k l)

pub returns-in_ok-add_to-in-Some-clause-listed : goal.returns-in_ok-add_to-in-Some-clause-listed
returns-in_ok-add_to-in-Some-clause-listed c =
    let graph = c.args.graph.now in
    let other = c.in-Some.other in
    let u : is_among (used_by graph c.args.number) other ≡ true = subst (λ us. is_among us other ≡ true) c.used_by.ensures c.in-Some.ensures.0 in
    let inside = c.requires.within c.args.number other u in
    let lt : other < length c.args.waiting.now = omega (arith, inside, c.requires.lists) in
    λ l e. subst (λ w. IsListed graph (flag_at c.args.flags.now) w c.args.ready.now.keys c.args.number) (sym c.in_ok-add_to-in-Some.ensures)
    (new_waiting graph (flag_at c.args.flags.now) c.args.waiting.now c.args.ready.now.keys other c.args.number lt u c.in-Some.ensures.1)

pub returns-in_ok-insert-in-None-clause-sound : goal.returns-in_ok-insert-in-None-clause-sound
returns-in_ok-insert-in-None-clause-sound c =
    let graph = c.args.graph.now in
    sound_ready graph (flag_at c.args.flags.now) c.args.ready.now.keys c.insert.new.self.keys c.args.number c.in_ok-insert-in-None.ensures.updates.0 (omega (arith, c.if-number-graph.false))
    (sym c.is_flagged.ensures ∙ c.if-is_flagged.false) (ap (λ us. list_all (flag_at c.args.flags.now) us) (sym c.used_by.ensures) ∙ c.in-None.ensures) c.requires.sound

pub returns-in_ok-insert-in-None-clause-kept : goal.returns-in_ok-insert-in-None-clause-kept
returns-in_ok-insert-in-None-clause-kept c =
    kept_ready c.args.graph.now (flag_at c.args.flags.now) c.args.waiting.now c.args.ready.now.keys c.insert.new.self.keys c.args.number c.in_ok-insert-in-None.ensures.updates.0
