use Rattle.std.proofs.Common.{rules, ◌≡◌, suc, ◌+◌, ◌-◌, ◌*◌, ◌/◌, ◌<◌, ◌≤◌, min, true, false, cond, refl, sym, ap, ◌∙◌, arith, subst}
use Rattle.std.specs.Prelude.{nat_eq, nat_le}
use Rattle.td_num.specs.Numbers.{bytes_in, number_at, places_from}
use Rattle.td_direct.specs.Imports.{Constraint, NotEnough}
use Rattle.td_core.specs.Outcome.{rejected, accepted}
use Rattle.td_stream.proofs.Stages.{later_trans, carried}
use Rattle.td_meaning.specs.Meaning.{up_to_zero}
use Rattle.td_direct.specs.Validates.{Reads}
use Rattle.td_direct.proofs.Stepping.{step_trans, step_to, step_from, step_still}
use Rattle.td_meaning.proofs.Zeros.{zero_turns, turns_none, turns_on, turns_of}
use Rattle.td_direct.proofs.zero_ended.validate_up_to_zero.Goals as goal
use Rattle.td_meaning.proofs.Filling.{room_for, one_fewer}

pub loop-turn-init : goal.loop-turn-init
loop-turn-init g c =
    let s = c.args.stream.now in
    let w = bytes_in c.args.number_type.width in
    let bound = c.args.size / c.byte_count-width.result in
    let room : (c.end.result - c.pos-start.result) / c.byte_count-width.result ≡ (s.end - s.pos) / w = λ k. (c.end.ensures k - c.pos-start.ensures k) / c.byte_count-width.ensures k in
    record {
      later = search rules;
      whole = c.requires.whole;
      end = refl;
      left = subst (λ r. (min bound r - 0) * w ≤ s.end - s.pos) (sym room) (room_for bound (s.end - s.pos) w);
      step = λ b cells h.
          let m = min bound ((c.end.result - c.pos-start.result) / c.byte_count-width.result) in
          let same : m ≡ m - 0 = omega arith in
          step_to s s _ _ _ (step_still s s (zero_turns c.args.number_type b c.missing-reason.result s.pos m s.pos cells) refl refl) (ap (λ n. zero_turns c.args.number_type b c.missing-reason.result s.pos n s.pos cells) same);
    }

pub returns-then-value-eq0-clause-step : goal.returns-then-value-eq0-clause-step
returns-then-value-eq0-clause-step g c = λ b cells h.
    let l = c.loop-turn in
    let i = l.invariant in
    let s0 = c.args.stream.now in
    let s = l.stream in
    let t = c.take-value.new.self in
    let e = c.take-value.ensures in
    let kind = c.args.number_type in
    let w = bytes_in kind.width in
    let reason = c.missing-reason.result in
    let bound = c.args.size / c.byte_count-width.result in
    let room = (c.end.result - c.pos-start.result) / c.byte_count-width.result in
    let n = min bound room - l.turn in
    let both = carried s0 s t b i.later e.moves.later h in
    let is : n ≡ suc (n - 1) = omega (arith, c.loop-turn-test.true, c.min-turn-end.ensures) in
    let value : nat_eq c.take-value.result 0 ≡ true = search rules in
    let zero : nat_eq (number_at kind b s.pos) 0 ≡ true = ap (λ v. nat_eq v 0) (sym (e.value b both.1)) ∙ value in
    let step : Reads g.W.Words.loads s t (zero_turns kind b reason s0.pos n s.pos cells) (accepted (s.pos + w) cells) = record { seen = places_from s.pos w; looked = e.moves.looked; is = turns_on kind b reason s0.pos n (n - 1) s.pos cells true is zero } in
    let at : s.pos + w ≡ c.pos.result = sym (c.pos.ensures ∙ e.moves.at) in
    let bounds : up_to_zero kind c.args.size b s0.end s0.pos cells ≡ zero_turns kind b reason s0.pos (min bound room) s0.pos cells = turns_of kind c.args.size b s0.end s0.pos cells ∙ (λ k. zero_turns kind b (cond (nat_le (c.args.size / sym c.byte_count-width.ensures k) ((sym c.end.ensures k - sym c.pos-start.ensures k) / sym c.byte_count-width.ensures k)) Constraint NotEnough) s0.pos (min (c.args.size / sym c.byte_count-width.ensures k) ((sym c.end.ensures k - sym c.pos-start.ensures k) / sym c.byte_count-width.ensures k)) s0.pos cells) ∙ ap (λ r. zero_turns kind b r s0.pos (min bound room) s0.pos cells) (sym c.missing-reason.ensures) in
    step_from s0 t _ _ _ bounds (step_to s0 t _ _ _ (step_trans s0 s t _ _ _ (i.step b cells both.0) step) (λ k. accepted (at k) cells))

pub loop-turn-preserved : goal.loop-turn-preserved
loop-turn-preserved g c =
    let l = c.loop-turn in
    let i = l.invariant in
    let s0 = c.args.stream.now in
    let s = l.stream in
    let t = c.take-value.new.self in
    let e = c.take-value.ensures in
    let kind = c.args.number_type in
    let w = bytes_in kind.width in
    let reason = c.missing-reason.result in
    let bound = c.args.size / c.byte_count-width.result in
    let room = (c.end.result - c.pos-start.result) / c.byte_count-width.result in
    let n = min bound room - l.turn in
    let more : l.turn < min bound room = omega (arith, c.loop-turn-test.true, c.min-turn-end.ensures) in
    let is : n ≡ suc (n - 1) = omega (arith, more) in
    let fewer = one_fewer (min bound room) l.turn (s.end - s.pos) w more i.left in
    let gone : s.end - s.pos - w ≡ t.end - t.pos = omega (arith, e.moves.at, e.moves.ends) in
    let next : n - 1 ≡ min bound room - (l.turn + 1) = omega arith in
    record {
      later = later_trans g.met.W.Words.reaches_on s0 s t i.later e.moves.later;
      whole = e.moves.whole;
      end = e.moves.ends ∙ i.end;
      left = subst (λ x. (min bound room - (l.turn + 1)) * w ≤ x) gone fewer.1;
      step = λ b cells h.
          let both = carried s0 s t b i.later e.moves.later h in
          let value : nat_eq c.take-value.result 0 ≡ false = search rules in
          let other : nat_eq (number_at kind b s.pos) 0 ≡ false = ap (λ v. nat_eq v 0) (sym (e.value b both.1)) ∙ value in
          let step : Reads g.W.Words.loads s t (zero_turns kind b reason s0.pos n s.pos cells) (zero_turns kind b reason s0.pos (n - 1) (s.pos + w) cells) = record { seen = places_from s.pos w; looked = e.moves.looked; is = turns_on kind b reason s0.pos n (n - 1) s.pos cells false is other } in
          step_to s0 t _ _ _ (step_trans s0 s t _ _ _ (i.step b cells both.0) step) (λ k. zero_turns kind b reason s0.pos (next k) (sym e.moves.at k) cells);
    }

pub returns-clause-step : goal.returns-clause-step
returns-clause-step g c = λ b cells h.
    let l = c.loop-turn in
    let i = l.invariant in
    let s0 = c.args.stream.now in
    let s = l.stream in
    let kind = c.args.number_type in
    let w = bytes_in kind.width in
    let reason = c.missing-reason.result in
    let bound = c.args.size / c.byte_count-width.result in
    let room = (c.end.result - c.pos-start.result) / c.byte_count-width.result in
    let none : min bound room - l.turn ≡ 0 = omega (arith, c.loop-turn-test.false, c.min-turn-end.ensures) in
    let bounds : up_to_zero kind c.args.size b s0.end s0.pos cells ≡ zero_turns kind b reason s0.pos (min bound room) s0.pos cells = turns_of kind c.args.size b s0.end s0.pos cells ∙ (λ k. zero_turns kind b (cond (nat_le (c.args.size / sym c.byte_count-width.ensures k) ((sym c.end.ensures k - sym c.pos-start.ensures k) / sym c.byte_count-width.ensures k)) Constraint NotEnough) s0.pos (min (c.args.size / sym c.byte_count-width.ensures k) ((sym c.end.ensures k - sym c.pos-start.ensures k) / sym c.byte_count-width.ensures k)) s0.pos cells) ∙ ap (λ r. zero_turns kind b r s0.pos (min bound room) s0.pos cells) (sym c.missing-reason.ensures) in
    step_from s0 s _ _ _ bounds (step_to s0 s _ _ _ (i.step b cells h) (turns_none kind b reason s0.pos (min bound room - l.turn) s.pos cells none ∙ (λ k. rejected reason (sym c.pos-start.ensures k) cells)))
