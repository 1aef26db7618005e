use Rattle.std.proofs.Common.{rules, ◌≡◌, suc, ◌+◌, ◌-◌, ◌<◌, [], ◌∷◌, false, sym, ap, ◌∙◌, arith}
use Rattle.std.specs.Prelude.{nat_eq, slice_index}
use Rattle.td_direct.specs.Imports.{Padding}
use Rattle.td_core.specs.Outcome.{rejected, accepted}
use Rattle.td_stream.proofs.Stages.{later_trans, carried}
use Rattle.td_meaning.specs.Meaning.{zeros_meaning}
use Rattle.td_direct.specs.Validates.{Reads}
use Rattle.td_direct.proofs.Stepping.{step_trans, step_to}
use Rattle.td_meaning.proofs.Zeros.{zeros_none, zeros_on, zeros_stop}
use Rattle.td_direct.proofs.zeros.validate_zeros.Goals as goal

pub returns-then-byte-ne0-clause-step : goal.returns-then-byte-ne0-clause-step
returns-then-byte-ne0-clause-step g c = λ b cells h.
    let l = c.loop-turn in
    let i = l.invariant in
    let s0 = c.args.stream.now in
    let s = l.stream in
    let t = c.byte.new.self in
    let both = carried s0 s t b i.later c.byte.ensures.moves.later h in
    let some : s.pos < s.end = omega (arith, i.left, c.loop-turn-test.true) in
    let is : s.end - s.pos ≡ suc (s.end - s.pos - 1) = omega (arith, some) in
    let byte : nat_eq c.byte.result 0 ≡ false = search rules in
    let other : nat_eq (slice_index b s.pos) 0 ≡ false = ap (λ v. nat_eq v 0) (sym (c.byte.ensures.value b both.1)) ∙ byte in
    let step : Reads g.W.Words.loads s t (zeros_meaning b s.end s.pos cells) (rejected Padding s.pos cells) = record { seen = s.pos ∷ []; looked = c.byte.ensures.moves.looked; is = zeros_stop b s.end s.pos (s.end - s.pos - 1) cells is other } in
    step_to s0 t _ _ _ (step_trans s0 s t _ _ _ (i.step b cells both.0) step) (λ k. rejected Padding (sym c.pos-pos.ensures k) cells)

pub loop-turn-preserved : goal.loop-turn-preserved
loop-turn-preserved g c =
    let l = c.loop-turn in
    let i = l.invariant in
    let s0 = c.args.stream.now in
    let s = l.stream in
    let t = c.byte.new.self in
    let e = c.byte.ensures in
    let some : s.pos < s.end = omega (arith, i.left, c.loop-turn-test.true) in
    let is : s.end - s.pos ≡ suc (s.end - s.pos - 1) = omega (arith, some) in
    record {
      later = later_trans g.met.W.Words.reaches_on s0 s t i.later e.moves.later;
      whole = e.moves.whole;
      end = e.moves.ends ∙ i.end;
      left = omega (arith, i.left, e.moves.at, e.moves.ends, some);
      step = λ b cells h.
          let both = carried s0 s t b i.later e.moves.later h in
          let byte : c.byte.result ≡ 0 = search rules in
          let zero : slice_index b s.pos ≡ 0 = sym (e.value b both.1) ∙ byte in
          let at : s.pos + 1 ≡ t.pos = sym e.moves.at in
          let n : s.end ≡ t.end = sym e.moves.ends in
          let step : Reads g.W.Words.loads s t (zeros_meaning b s.end s.pos cells) (zeros_meaning b s.end (s.pos + 1) cells) = record { seen = s.pos ∷ []; looked = e.moves.looked; is = zeros_on b s.end s.pos (s.end - s.pos - 1) cells is zero } in
          step_to s0 t _ _ _ (step_trans s0 s t _ _ _ (i.step b cells both.0) step) (λ k. zeros_meaning b (n k) (at k) cells);
    }

pub returns-clause-step : goal.returns-clause-step
returns-clause-step g c = λ b cells h.
    let l = c.loop-turn in
    let i = l.invariant in
    let s0 = c.args.stream.now in
    let s = l.stream in
    let none : s.pos ≡ s.end = omega (arith, i.left, c.loop-turn-test.false, i.whole.within) in
    step_to s0 s _ _ _ (i.step b cells h) (zeros_none b s.end s.pos cells none ∙ (λ k. accepted (sym c.pos-2.ensures k) cells))
