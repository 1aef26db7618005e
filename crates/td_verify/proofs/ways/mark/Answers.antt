use Rattle.std.proofs.Common.{◌≡◌, ℕ, ◌<◌, ◌≤◌, ◌⊎◌, ⊎_elim, List, Bool, true, false, slice_set, sym, subst, ◌∙◌, arith, length-set}
use Rattle.std.proofs.lemmas.List.{get_or-set_same, get_or-set_other}
use Rattle.std.proofs.lemmas.Bool.{cases_eq}
use Rattle.td_verify.specs.declared.shape.Shape.{Shape}
use Rattle.td_verify.specs.Brackets.{shape_at, opened, innermost}
use Rattle.td_verify.specs.Ways.{Leads, IsIdle, IdleWay}
use Rattle.td_verify.specs.Marks.{IsEmptyBy, marked}
use Rattle.td_verify.proofs.Marking.{way_here, handed_more, sound_more, way_marked}
use Rattle.td_verify.proofs.ways.mark.Goals as goal

first_sound : (s : List Shape) (E : ℕ → Type 0) (marks : List Bool) (from to : ℕ) → ((k : ℕ) → from ≤ k → k ≤ to → marked marks k ≡ false) → (q : ℕ) → from ≤ q → q ≤ to → marked (slice_set marks from true) q ≡ true → IdleWay s E from q
first_sound s E marks from to none q a b m = ⊎_elim
    (λ (same : q ≡ from). subst (IdleWay s E from) (sym same) (way_here s E from))
    (λ (other : (q ≡ from) → ⊥). let e = none q a b in let f = get_or-set_other marks from q true false other in absurd (cc))
    (cases_eq q from)

pub loop-at-init : goal.loop-at-init
loop-at-init c = record {
  length = length-set c.clear.new.marks c.args.from true ∙ (c.clear.ensures.length ∙ c.requires.size);
  begins = get_or-set_same c.clear.new.marks c.args.from true false (let e = c.clear.ensures.length in omega (arith, c.requires));
  sound = first_sound c.args.shapes.now (IsEmptyBy c.args.empties.now) c.clear.new.marks c.args.from c.args.to c.clear.ensures.clear;
  closed = λ p q a b. absurd (omega arith);
}

pub loop-at-preserved : goal.loop-at-preserved
loop-at-preserved c =
    let s = c.args.shapes.now in
    let at = c.loop-at.at in
    let now : c.context.result ≡ innermost (opened s at) = c.context.ensures ∙ c.requires.contexts at (omega (arith, c.requires)) in
    let shape : c.read.result ≡ shape_at s at = c.read.ensures in
    let E = IsEmptyBy c.args.empties.now in
    record {
      length = c.pass.ensures.length ∙ c.loop-at.invariant.length;
      begins = c.pass.ensures.kept c.args.from c.loop-at.invariant.begins;
      sound = sound_more s E c.loop-at.marks c.pass.new.marks c.args.from at c.args.to (omega arith) (omega arith) c.loop-at.invariant.sound
          (subst (λ (i : Shape). (k : ℕ) → marked c.pass.new.marks k ≡ true → (marked c.loop-at.marks k ≡ true) ⊎ (Leads at i k × (at < k) × IsIdle E (opened s at) i × (marked c.loop-at.marks at ≡ true))) shape (c.pass.ensures.only (opened s at) now));
      closed = handed_more s E c.loop-at.marks c.pass.new.marks c.args.from at c.args.to (omega arith) (omega arith) c.loop-at.invariant.closed c.pass.ensures.kept c.pass.ensures.low
          (subst (λ (i : Shape). (q : ℕ) → Leads at i q → at < q → q ≤ c.args.to → IsIdle E (opened s at) i → marked c.loop-at.marks at ≡ true → marked c.pass.new.marks q ≡ true) shape (c.pass.ensures.on (opened s at) now));
    }

pub returns-clause-marked : goal.returns-clause-marked
returns-clause-marked c =
    let s = c.args.shapes.now in
    let same : c.loop-at.at ≡ c.args.to = omega arith in
    λ q a b. (
      c.loop-at.invariant.sound q a b,
      way_marked s (IsEmptyBy c.args.empties.now) c.loop-at.marks c.args.from c.args.to
          (λ p r h k. c.loop-at.invariant.closed p r h (omega arith)) c.loop-at.invariant.begins q a b,
    )
