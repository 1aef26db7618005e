use Rattle.std.proofs.Common.{rules, ◌≡◌, suc, ◌+◌, ◌-◌, ◌*◌, ◌/◌, ◌<◌, ◌≤◌, min, true, false, cond, sym, ap, ◌∙◌, arith, subst}
use Rattle.std.specs.Prelude.{nat_eq, nat_le}
use Rattle.td_num.specs.Numbers.{bytes_in, number_at}
use Rattle.td_core.specs.declared.outcome.Reason.TheVariants.{Constraint, NotEnough}
use Rattle.td_core.specs.Outcome.{Behavior, Accepted}
use Rattle.td_meaning.specs.Meaning.{up_to_zero}
use Rattle.td_meaning.proofs.Zeros.{zero_turns, turns_of, turns_none, turns_on}
use Rattle.td_meaning_plain.proofs.arrays.numbers_up_to_zero.Goals as goal
use Rattle.td_meaning.proofs.Filling.{room_for, one_fewer}

pub loop-turn-init : goal.loop-turn-init
loop-turn-init c =
    let a = c.args in
    let w = bytes_in a.number_type.width in
    let bound = a.size / c.byte_count-width.result in
    let room : c.saturating_sub.result / c.byte_count-width.result ≡ (a.end - a.start) / w = λ k. c.saturating_sub.ensures k / c.byte_count-width.ensures k in
    record {
      left = subst (λ r. (min bound r - 0) * w ≤ a.end - a.start) (sym room) (room_for bound (a.end - a.start) w);
      ending = λ cells.
          let m = min bound (c.saturating_sub.result / c.byte_count-width.result) in
          let same : m ≡ m - 0 = omega arith in
          ap (λ n. (zero_turns a.number_type a.message.now c.missing-reason.result a.start n a.start cells).ending) same;
    }

pub returns-then-number_at-eq0 : goal.returns-then-number_at-eq0
returns-then-number_at-eq0 c =
    let a = c.args in
    let l = c.loop-turn in
    let w = bytes_in a.number_type.width in
    let reason = c.missing-reason.result in
    let bound = a.size / c.byte_count-width.result in
    let room = c.saturating_sub.result / c.byte_count-width.result in
    let n = min bound room - l.turn in
    let is : n ≡ suc (n - 1) = omega (arith, c.loop-turn-test.true, c.min-turn-end.ensures) in
    let value : nat_eq c.number_at.result 0 ≡ true = search rules in
    let zero : nat_eq (number_at a.number_type a.message.now l.pos) 0 ≡ true = ap (λ v. nat_eq v 0) (sym c.number_at.ensures) ∙ value in
    let at : l.pos + w ≡ l.pos + c.byte_count-width.result = ap (λ x. l.pos + x) (sym c.byte_count-width.ensures) in
    record {
      ending = λ cells.
          let bounds : (up_to_zero a.number_type a.size a.message.now a.end a.start cells).ending ≡ (zero_turns a.number_type a.message.now reason a.start (min bound room) a.start cells).ending = ap (λ (t : Behavior). t.ending) (turns_of a.number_type a.size a.message.now a.end a.start cells) ∙ (λ k. (zero_turns a.number_type a.message.now (cond (nat_le (a.size / sym c.byte_count-width.ensures k) (sym c.saturating_sub.ensures k / sym c.byte_count-width.ensures k)) Constraint NotEnough) a.start (min (a.size / sym c.byte_count-width.ensures k) (sym c.saturating_sub.ensures k / sym c.byte_count-width.ensures k)) a.start cells).ending) ∙ ap (λ r. (zero_turns a.number_type a.message.now r a.start (min bound room) a.start cells).ending) (sym c.missing-reason.ensures) in
          bounds ∙ l.invariant.ending cells ∙ ap (λ (t : Behavior). t.ending) (turns_on a.number_type a.message.now reason a.start n (n - 1) l.pos cells true is zero) ∙ ap (λ q. Accepted q cells) at;
    }

pub loop-turn-preserved : goal.loop-turn-preserved
loop-turn-preserved c =
    let a = c.args in
    let l = c.loop-turn in
    let w = bytes_in a.number_type.width in
    let reason = c.missing-reason.result in
    let bound = a.size / c.byte_count-width.result in
    let room = c.saturating_sub.result / c.byte_count-width.result in
    let n = min bound room - l.turn in
    let more : l.turn < min bound room = omega (arith, c.loop-turn-test.true, c.min-turn-end.ensures) in
    let is : n ≡ suc (n - 1) = omega (arith, more) in
    let fewer = one_fewer (min bound room) l.turn (a.end - l.pos) w more l.invariant.left in
    let at : l.pos + w ≡ l.pos + c.byte_count-width.result = ap (λ x. l.pos + x) (sym c.byte_count-width.ensures) in
    let gone : a.end - l.pos - w ≡ a.end - (l.pos + c.byte_count-width.result) = omega (arith, c.byte_count-width.ensures) in
    let next : n - 1 ≡ min bound room - (l.turn + 1) = omega arith in
    record {
      left = subst (λ x. (min bound room - (l.turn + 1)) * w ≤ x) gone fewer.1;
      ending = λ cells.
          let value : nat_eq c.number_at.result 0 ≡ false = search rules in
          let other : nat_eq (number_at a.number_type a.message.now l.pos) 0 ≡ false = ap (λ v. nat_eq v 0) (sym c.number_at.ensures) ∙ value in
          l.invariant.ending cells ∙ ap (λ (t : Behavior). t.ending) (turns_on a.number_type a.message.now reason a.start n (n - 1) l.pos cells false is other) ∙ (λ k. (zero_turns a.number_type a.message.now reason a.start (next k) (at k) cells).ending);
    }

pub returns : goal.returns
returns c =
    let a = c.args in
    let l = c.loop-turn in
    let w = bytes_in a.number_type.width in
    let reason = c.missing-reason.result in
    let bound = a.size / c.byte_count-width.result in
    let room = c.saturating_sub.result / c.byte_count-width.result in
    let none : min bound room - l.turn ≡ 0 = omega (arith, c.loop-turn-test.false, c.min-turn-end.ensures) in
    record {
      ending = λ cells.
          let bounds : (up_to_zero a.number_type a.size a.message.now a.end a.start cells).ending ≡ (zero_turns a.number_type a.message.now reason a.start (min bound room) a.start cells).ending = ap (λ (t : Behavior). t.ending) (turns_of a.number_type a.size a.message.now a.end a.start cells) ∙ (λ k. (zero_turns a.number_type a.message.now (cond (nat_le (a.size / sym c.byte_count-width.ensures k) (sym c.saturating_sub.ensures k / sym c.byte_count-width.ensures k)) Constraint NotEnough) a.start (min (a.size / sym c.byte_count-width.ensures k) (sym c.saturating_sub.ensures k / sym c.byte_count-width.ensures k)) a.start cells).ending) ∙ ap (λ r. (zero_turns a.number_type a.message.now r a.start (min bound room) a.start cells).ending) (sym c.missing-reason.ensures) in
          bounds ∙ l.invariant.ending cells ∙ ap (λ (t : Behavior). t.ending) (turns_none a.number_type a.message.now reason a.start (min bound room - l.turn) l.pos cells none);
    }
