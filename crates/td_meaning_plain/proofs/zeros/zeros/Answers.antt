use Rattle.std.proofs.Common.{rules, ◌≡◌, suc, ◌+◌, ◌-◌, false, sym, ap, ◌∙◌, arith}
use Rattle.std.specs.Prelude.{nat_eq, slice_index}
use Rattle.td_core.specs.Outcome.{Behavior}
use Rattle.td_meaning.specs.Meaning.{zeros_meaning}
use Rattle.td_meaning.proofs.Zeros.{zeros_on, zeros_stop}
use Rattle.td_meaning_plain.proofs.Endings.{zeros_over}
use Rattle.td_meaning_plain.proofs.zeros.zeros.Goals as goal

pub returns-then-byte_at-ne0 : goal.returns-then-byte_at-ne0
returns-then-byte_at-ne0 c =
    let a = c.args in
    let p = a.pos + c.loop-turn.turn in
    let is : a.end - p ≡ suc (a.end - p - 1) = omega (arith, c.loop-turn-test.true, c.saturating_sub-count.ensures) in
    let byte : nat_eq c.byte_at.result 0 ≡ false = search rules in
    let other : nat_eq (slice_index a.message.now p) 0 ≡ false = ap (λ v. nat_eq v 0) (sym c.byte_at.ensures) ∙ byte in
    record { ending = λ cells. c.loop-turn.invariant cells ∙ ap (λ (t : Behavior). t.ending) (zeros_stop a.message.now a.end p (a.end - p - 1) cells is other) }

pub loop-turn-preserved : goal.loop-turn-preserved
loop-turn-preserved c = λ cells.
    let a = c.args in
    let p = a.pos + c.loop-turn.turn in
    let is : a.end - p ≡ suc (a.end - p - 1) = omega (arith, c.loop-turn-test.true, c.saturating_sub-count.ensures) in
    let byte : c.byte_at.result ≡ 0 = search rules in
    let zero : slice_index a.message.now p ≡ 0 = sym c.byte_at.ensures ∙ byte in
    let on : p + 1 ≡ a.pos + (c.loop-turn.turn + 1) = omega arith in
    c.loop-turn.invariant cells ∙ ap (λ (t : Behavior). t.ending) (zeros_on a.message.now a.end p (a.end - p - 1) cells is zero) ∙ (λ k. (zeros_meaning a.message.now a.end (on k) cells).ending)

pub returns : goal.returns
returns c =
    let a = c.args in
    let p = a.pos + c.loop-turn.turn in
    let none : a.end - p ≡ 0 = omega (arith, c.loop-turn-test.false, c.saturating_sub-count.ensures) in
    record { ending = λ cells. c.loop-turn.invariant cells ∙ ap (λ (t : Behavior). t.ending) (zeros_over a.message.now a.end p cells none) }
