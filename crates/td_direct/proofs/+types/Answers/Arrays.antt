-- The answers of elements and arrays.
use Rattle.std.proofs.Common.{◌≡◌, ℕ, suc, ◌+◌, ◌-◌, ◌*◌, ◌<◌, ◌≤◌, List, [], length, true, false, refl, sym, ap, ◌∙◌, subst, arith}
use Rattle.std.specs.Prelude.{slice_index, map, nat_eq, Option, IfSome}
use Rattle.std.proofs.lemmas.Result.{err_from_is_err_and}
use Rattle.td_direct.specs.Imports.{Element, Extent, TypeDef, NotEnough, ListSize, TraceFrame, Verdict, Accept, Reject}
use Rattle.td_core.specs.Outcome.{plain, and_then, accepted}
use Rattle.td_meaning.specs.Meaning.{values_of, taken, zeros_meaning, elements, element_up_to_zero, filled, filled_once, demanded, divides, equals}
use Rattle.td_meaning.specs.Words64.{values, listed_meaning, shape_meaning, element_meaning}
use Rattle.td_meaning.specs.Verdicts.{ending_of, IsAt}
use Rattle.td_stream.specs.Copies.{rooms_of}
use Rattle.td_stream.specs.StreamInvariant.{Moves, position}
use Rattle.td_direct.specs.Arrays.{once_rest}
use Rattle.td_direct.specs.Passing.{IsPassed, passes_all}
use Rattle.td_direct.specs.Placing.{IsElementPlaced}
use Rattle.td_direct.specs.Validates.{senses}
use Rattle.td_direct.proofs.TypeLemmas.{filled_unfit, filled_fit, once_short, once_unfit, once_fit, elements_over, elements_done, elements_on, window_pass}
use Rattle.td_direct.proofs.Validations.{lent_self, lent_size, from, to, then, followed, still, rejects, accepts, unwritten, passed, windowed, out_from, out_then, out_after, out_still, out_windowed}
use Rattle.td_direct.proofs.Results.{with_one, or_err}
use Rattle.td_direct.proofs.+types.Goals as goal
use Rattle.td_meaning.proofs.Filling.{filled_short, accepted_at}

-- Elements of an array

pub arrays::validate_elements-loop-turn-init : goal.arrays::validate_elements-loop-turn-init
arrays::validate_elements-loop-turn-init g t c =
    let a = c.args in
    let s = a.stream.now in
    let m = a.walk.now.types.now.module.now in
    let same : suc (s.end - s.pos) ≡ suc (s.end - s.pos) - 0 = omega arith in
    record {
      led = still g.met.W.Words.reaches_itself s (Accept s.pos) _ _ c.requires.whole (lent_self a.slate.now) refl refl (refl, c.requires.empty_trace)
          (λ b. ap (λ k. elements (element_meaning m.listed (senses m a.walk.now.bound) a.element.now a.env.now a.walk.now.places.now b a.start s.end) k a.start s.end s.pos a.slate.now.cells.now) same);
    }

pub arrays::validate_elements-validate_element-requires : goal.arrays::validate_elements-validate_element-requires
arrays::validate_elements-validate_element-requires g t c =
    let a = c.args in
    let l = c.loop-turn in
    let i = l.invariant.led in
    let ds : List TypeDef = a.walk.now.types.now.module.now.definitions in
    let whole = i.stream in
    let empty_trace = i.at.1 in
    let size : length l.slate.cells.now ≡ a.walk.now.first + 2 * length l.slate.copies.now = lent_size a.slate.now l.slate a.walk.now.first i.lent c.requires.size in
    let placed : IsElementPlaced ds a.walk.now.places.now a.walk.now.first (rooms_of l.slate.copies.now) a.element.now = subst (λ rooms. IsElementPlaced ds a.walk.now.places.now a.walk.now.first rooms a.element.now) (sym i.lent.rooms) c.requires.placed in
    λ lives live. (omega (arith, c.decreases), (live, (whole, (empty_trace, (c.requires.given, (size, placed))))))

pub arrays::validate_elements-returns-then-pos-end-clause-decides : goal.arrays::validate_elements-returns-then-pos-end-clause-decides
arrays::validate_elements-returns-then-pos-end-clause-decides g t c =
    let a = c.args in
    let s0 = a.stream.now in
    let l = c.loop-turn in
    let i = l.invariant.led in
    let s = l.stream in
    let m = a.walk.now.types.now.module.now in
    let full = suc (s0.end - s0.pos) - l.turn in
    let more = s0.end - s0.pos - l.turn in
    let is : full ≡ suc more = omega (arith, c.loop-turn-test.true, c.end.ensures, c.pos.ensures) in
    let at : s.pos ≡ s0.end = sym c.pos-in-loop-turn.ensures ∙ c.if-pos-end.true ∙ c.end-in-loop-turn.ensures ∙ i.ends in
    to (Accept c.pos-then-pos-end.result) _ (c.pos-then-pos-end.ensures, i.at.1)
    (λ b. elements_done (element_meaning m.listed (senses m a.walk.now.bound) a.element.now a.env.now a.walk.now.places.now b a.start s0.end) full more a.start s0.end s.pos l.slate.cells.now is at ∙ (λ k. accepted (sym c.pos-then-pos-end.ensures k) l.slate.cells.now)) i

pub arrays::validate_elements-returns-in-Reject-clause-decides : goal.arrays::validate_elements-returns-in-Reject-clause-decides
arrays::validate_elements-returns-in-Reject-clause-decides g t c =
    let a = c.args in
    let s0 = a.stream.now in
    let l = c.loop-turn in
    let i = l.invariant.led in
    let s = l.stream in
    let m = a.walk.now.types.now.module.now in
    let y = c.validate_element.new.slate in
    let each = λ (b : List ℕ). element_meaning m.listed (senses m a.walk.now.bound) a.element.now a.env.now a.walk.now.places.now b a.start s0.end in
    let full = suc (s0.end - s0.pos) - l.turn in
    let more = s0.end - s0.pos - l.turn in
    let is : full ≡ suc more = omega (arith, c.loop-turn-test.true, c.end.ensures, c.pos.ensures) in
    let apart : s.pos ≡ s0.end → ⊥ = λ e. c.if-pos-end.false (c.pos-in-loop-turn.ensures ∙ e ∙ sym (c.end-in-loop-turn.ensures ∙ i.ends)) in
    to (Reject c.in-Reject.reason c.in-Reject.pos) _ tt (λ b. ap (λ (v : Verdict). and_then (plain (ending_of v y.trace.now y.cells.now)) (elements (each b) more a.start s0.end)) c.in-Reject.is)
    (then g.met.W.Words.reaches_on i
    (from _ (λ b. elements_on (each b) full more a.start s0.end s.pos l.slate.cells.now is apart)
    (followed (λ b. elements (each b) more a.start s0.end)
    (from _ (λ b. ap (λ e. element_meaning m.listed (senses m a.walk.now.bound) a.element.now a.env.now a.walk.now.places.now b a.start e s.pos l.slate.cells.now) (sym i.ends)) c.in_ok-validate_element.ensures.decides))))

pub arrays::validate_elements-returns-in_err-validate_element-clause-runs_out : goal.arrays::validate_elements-returns-in_err-validate_element-clause-runs_out
arrays::validate_elements-returns-in_err-validate_element-clause-runs_out g t c = let p = err_from_is_err_and c.from_residual.result c.from_residual.ensures.1 in rw p.1 (
    let a = c.args in
    let s0 = a.stream.now in
    let l = c.loop-turn in
    let i = l.invariant.led in
    let s = l.stream in
    let m = a.walk.now.types.now.module.now in
    let each = λ (b : List ℕ). element_meaning m.listed (senses m a.walk.now.bound) a.element.now a.env.now a.walk.now.places.now b a.start s0.end in
    let full = suc (s0.end - s0.pos) - l.turn in
    let more = s0.end - s0.pos - l.turn in
    let is : full ≡ suc more = omega (arith, c.loop-turn-test.true, c.end.ensures, c.pos.ensures) in
    let apart : s.pos ≡ s0.end → ⊥ = λ e. c.if-pos-end.false (c.pos-in-loop-turn.ensures ∙ e ∙ sym (c.end-in-loop-turn.ensures ∙ i.ends)) in
    out_after g.met.W.Words.reaches_on i
    (out_from _ (λ b. elements_on (each b) full more a.start s0.end s.pos l.slate.cells.now is apart)
    (out_then (λ b. elements (each b) more a.start s0.end)
    (out_from _ (λ b. ap (λ e. element_meaning m.listed (senses m a.walk.now.bound) a.element.now a.env.now a.walk.now.places.now b a.start e s.pos l.slate.cells.now) (sym i.ends)) c.in_err-validate_element.ensures.runs_out))))

pub arrays::validate_elements-loop-turn-preserved : goal.arrays::validate_elements-loop-turn-preserved
arrays::validate_elements-loop-turn-preserved g t c =
    let a = c.args in
    let s0 = a.stream.now in
    let l = c.loop-turn in
    let i = l.invariant.led in
    let s = l.stream in
    let m = a.walk.now.types.now.module.now in
    let n = c.validate_element.new.stream in
    let y = c.validate_element.new.slate in
    let each = λ (b : List ℕ). element_meaning m.listed (senses m a.walk.now.bound) a.element.now a.env.now a.walk.now.places.now b a.start s0.end in
    let full = suc (s0.end - s0.pos) - l.turn in
    let more = s0.end - s0.pos - l.turn in
    let is : full ≡ suc more = omega (arith, c.loop-turn-test.true, c.end.ensures, c.pos.ensures) in
    let apart : s.pos ≡ s0.end → ⊥ = λ e. c.if-pos-end.false (c.pos-in-loop-turn.ensures ∙ e ∙ sym (c.end-in-loop-turn.ensures ∙ i.ends)) in
    let e = c.in_ok-validate_element.ensures.decides in
    let at = accepted_at c.in_ok-validate_element.field-0 c.in-Accept.pos n.pos y.trace.now c.in-Accept.is e.at in
    let fewer : more ≡ suc (s0.end - s0.pos) - (l.turn + 1) = omega arith in
    record {
      led =
          to (Accept n.pos) _ (refl, at.1)
          (λ b. ap (λ (v : Verdict). and_then (plain (ending_of v y.trace.now y.cells.now)) (elements (each b) more a.start s0.end)) c.in-Accept.is ∙ (λ k. elements (each b) (fewer k) a.start s0.end (at.0 k) y.cells.now))
          (then g.met.W.Words.reaches_on i
          (from _ (λ b. elements_on (each b) full more a.start s0.end s.pos l.slate.cells.now is apart)
          (followed (λ b. elements (each b) more a.start s0.end)
          (from _ (λ b. ap (λ e. element_meaning m.listed (senses m a.walk.now.bound) a.element.now a.env.now a.walk.now.places.now b a.start e s.pos l.slate.cells.now) (sym i.ends)) e))));
    }

pub arrays::validate_elements-returns-clause-decides : goal.arrays::validate_elements-returns-clause-decides
arrays::validate_elements-returns-clause-decides g t c =
    let a = c.args in
    let s0 = a.stream.now in
    let l = c.loop-turn in
    let i = l.invariant.led in
    let s = l.stream in
    let m = a.walk.now.types.now.module.now in
    let each = λ (b : List ℕ). element_meaning m.listed (senses m a.walk.now.bound) a.element.now a.env.now a.walk.now.places.now b a.start s0.end in
    let full = suc (s0.end - s0.pos) - l.turn in
    let none : full ≡ 0 = omega (arith, c.loop-turn-test.false, c.end.ensures, c.pos.ensures) in
    to c.demand.result _ (subst (λ (k : ℕ × List TraceFrame). IsAt c.demand.result k.0 k.1) (λ j. (c.pos-pos.ensures j, sym i.at.1 j)) c.demand.ensures.at)
    (λ b. elements_over (each b) full a.start s0.end s.pos l.slate.cells.now none
    ∙ (λ k. demanded ListSize (nat_eq (sym c.pos-pos.ensures k) (sym (c.end-2.ensures ∙ i.ends) k)) a.start (sym c.pos-pos.ensures k) l.slate.cells.now)
    ∙ c.demand.ensures.ending l.slate.cells.now ∙ (λ k. plain (ending_of c.demand.result (sym i.at.1 k) l.slate.cells.now))) i

-- One element

pub elements::validate_element-returns-in-Number-clause-decides : goal.elements::validate_element-returns-in-Number-clause-decides
elements::validate_element-returns-in-Number-clause-decides g t c =
    let a = c.args in
    let s = a.stream.now in
    let m = a.walk.now.types.now.module.now in
    let cells = a.slate.now.cells.now in
    let e = c.pass.ensures in
    unwritten _ (λ b. taken c.byte_count.result a.start s.end s.pos cells) c.requires.empty_trace e.later e.whole e.end e.at
    (λ b. ap (λ (x : Element). element_meaning m.listed (senses m a.walk.now.bound) x a.env.now a.walk.now.places.now b a.start s.end s.pos cells) c.in-Number.is ∙ (λ k. taken (sym c.byte_count.ensures k) a.start s.end s.pos cells)) (λ b h. e.step cells)

pub elements::validate_element-returns-in-Listed-clause-decides : goal.elements::validate_element-returns-in-Listed-clause-decides
elements::validate_element-returns-in-Listed-clause-decides g t c =
    let a = c.args in
    let s = a.stream.now in
    let m = a.walk.now.types.now.module.now in
    let cells = a.slate.now.cells.now in
    let e = c.validate_listed.ensures in
    unwritten _ (λ b. listed_meaning c.in-Listed.base c.values_at-values.result.now b a.start s.end s.pos cells) c.requires.empty_trace e.later e.whole e.end e.at
    (λ b. ap (λ (x : Element). element_meaning m.listed (senses m a.walk.now.bound) x a.env.now a.walk.now.places.now b a.start s.end s.pos cells) c.in-Listed.is
    ∙ (λ k. listed_meaning c.in-Listed.base (values_of (sym c.as_slice.ensures k) c.in-Listed.values) b a.start s.end s.pos cells)
    ∙ (λ k. listed_meaning c.in-Listed.base (sym c.values_at-values.ensures k) b a.start s.end s.pos cells)) (λ b h. e.step b cells h)

pub elements::validate_element-returns-in_err-args-in-Named-clause-runs_out : goal.elements::validate_element-returns-in_err-args-in-Named-clause-runs_out
elements::validate_element-returns-in_err-args-in-Named-clause-runs_out g t c = let p = err_from_is_err_and c.from_residual.result c.from_residual.ensures.1 in rw p.1 (
    out_still g.met.W.Words.reaches_itself c.args.stream.now _ c.requires.whole (lent_self c.args.slate.now))

pub elements::validate_element-returns-in_err-own-in-Named-clause-runs_out : goal.elements::validate_element-returns-in_err-own-in-Named-clause-runs_out
elements::validate_element-returns-in_err-own-in-Named-clause-runs_out g t c = let p = err_from_is_err_and c.from_residual-in_err-own-in-Named.result c.from_residual-in_err-own-in-Named.ensures.1 in rw p.1 (
    out_still g.met.W.Words.reaches_itself c.args.stream.now _ c.requires.whole (lent_self c.args.slate.now))

pub elements::validate_element-returns-in_ok-own-in-Named-clause-decides : goal.elements::validate_element-returns-in_ok-own-in-Named-clause-decides
elements::validate_element-returns-in_ok-own-in-Named-clause-decides g t c =
    let a = c.args in
    let s = a.stream.now in
    let m = a.walk.now.types.now.module.now in
    let cells = a.slate.now.cells.now in
    let args : values c.in-Named.args a.env.now ≡ c.as_slice-in-Named-4.result.now = (λ k. values (sym c.as_slice-in-Named.ensures k) a.env.now) ∙ sym c.in_ok-args-in-Named.ensures.ok ∙ sym c.as_slice-in-Named-4.ensures.value in
    let own : map (slice_index a.walk.now.places.now) c.in-Named.own ≡ c.as_slice-in-Named-3.result.now = (λ k. map (slice_index a.walk.now.places.now) (sym c.as_slice-in-Named-2.ensures k)) ∙ sym c.in_ok-own-in-Named.ensures.ok ∙ sym c.as_slice-in-Named-3.ensures.value in
    with_one c.validate_named-told.result c.validate_named-told.ensures.decides (λ v. from _ (λ b. ap (λ (x : Element). element_meaning m.listed (senses m a.walk.now.bound) x a.env.now a.walk.now.places.now b a.start s.end s.pos cells) c.in-Named.is ∙ (λ k. senses m a.walk.now.bound c.in-Named.definition (args k) (own k) cells b s.pos s.end)))

pub elements::validate_element-returns-in_ok-own-in-Named-clause-runs_out : goal.elements::validate_element-returns-in_ok-own-in-Named-clause-runs_out
elements::validate_element-returns-in_ok-own-in-Named-clause-runs_out g t c =
    let a = c.args in
    let s = a.stream.now in
    let m = a.walk.now.types.now.module.now in
    let cells = a.slate.now.cells.now in
    let args : values c.in-Named.args a.env.now ≡ c.as_slice-in-Named-4.result.now = (λ k. values (sym c.as_slice-in-Named.ensures k) a.env.now) ∙ sym c.in_ok-args-in-Named.ensures.ok ∙ sym c.as_slice-in-Named-4.ensures.value in
    let own : map (slice_index a.walk.now.places.now) c.in-Named.own ≡ c.as_slice-in-Named-3.result.now = (λ k. map (slice_index a.walk.now.places.now) (sym c.as_slice-in-Named-2.ensures k)) ∙ sym c.in_ok-own-in-Named.ensures.ok ∙ sym c.as_slice-in-Named-3.ensures.value in
    or_err c.validate_named-told.result c.validate_named-told.ensures.runs_out (out_from _ (λ b. ap (λ (x : Element). element_meaning m.listed (senses m a.walk.now.bound) x a.env.now a.walk.now.places.now b a.start s.end s.pos cells) c.in-Named.is ∙ (λ k. senses m a.walk.now.bound c.in-Named.definition (args k) (own k) cells b s.pos s.end)))

pub elements::validate_element-returns-in-Unit-clause-decides : goal.elements::validate_element-returns-in-Unit-clause-decides
elements::validate_element-returns-in-Unit-clause-decides g t c =
    let a = c.args in
    let s = a.stream.now in
    let m = a.walk.now.types.now.module.now in
    accepts g.met.W.Words.reaches_itself s c.pos.result _ c.requires.whole c.requires.empty_trace c.pos.ensures
    (λ b. ap (λ (x : Element). element_meaning m.listed (senses m a.walk.now.bound) x a.env.now a.walk.now.places.now b a.start s.end s.pos a.slate.now.cells.now) c.in-Unit.is)

pub elements::validate_element-returns-in-Rest-clause-decides : goal.elements::validate_element-returns-in-Rest-clause-decides
elements::validate_element-returns-in-Rest-clause-decides g t c =
    let a = c.args in
    let s = a.stream.now in
    let m = a.walk.now.types.now.module.now in
    let last : s.end ≡ s.pos + (c.end.result - c.pos-in-Rest.result) = omega (arith, c.end.ensures, c.pos-in-Rest.ensures, c.requires.whole.within) in
    passed c.pos-in-Rest-2.result (s.pos + (c.end.result - c.pos-in-Rest.result)) _ c.requires.empty_trace c.skip.ensures.moves c.pos-in-Rest-2.ensures
    (λ b. ap (λ (x : Element). element_meaning m.listed (senses m a.walk.now.bound) x a.env.now a.walk.now.places.now b a.start s.end s.pos a.slate.now.cells.now) c.in-Rest.is ∙ (λ k. accepted (last k) a.slate.now.cells.now))

pub elements::validate_element-returns-in-Zeros-clause-decides : goal.elements::validate_element-returns-in-Zeros-clause-decides
elements::validate_element-returns-in-Zeros-clause-decides g t c =
    let a = c.args in
    let s = a.stream.now in
    let m = a.walk.now.types.now.module.now in
    let cells = a.slate.now.cells.now in
    let e = c.validate_zeros.ensures in
    unwritten _ (λ b. zeros_meaning b s.end s.pos cells) c.requires.empty_trace e.later e.whole e.end e.at
    (λ b. ap (λ (x : Element). element_meaning m.listed (senses m a.walk.now.bound) x a.env.now a.walk.now.places.now b a.start s.end s.pos cells) c.in-Zeros.is) (λ b h. e.step b cells h)

pub arrays::validate_single-returns-in_err-pos-clause-runs_out : goal.arrays::validate_single-returns-in_err-pos-clause-runs_out
arrays::validate_single-returns-in_err-pos-clause-runs_out g t c = let p = err_from_is_err_and c.from_residual.result c.from_residual.ensures.1 in rw p.1 (out_then (λ b. once_rest c.args.start c.args.stream.now.end) c.in_err-pos.ensures.runs_out)

pub arrays::validate_single-returns-in-Reject-clause-decides : goal.arrays::validate_single-returns-in-Reject-clause-decides
arrays::validate_single-returns-in-Reject-clause-decides g t c =
    let a = c.args in
    let s = a.stream.now in
    let y = c.validate_element.new.slate in
    to (Reject c.in-Reject.reason c.in-Reject.pos) _ tt (λ b. ap (λ (v : Verdict). and_then (plain (ending_of v y.trace.now y.cells.now)) (once_rest a.start s.end)) c.in-Reject.is)
    (followed (λ b. once_rest a.start s.end) c.in_ok-pos.ensures.decides)

pub arrays::validate_single-returns-in-Accept-clause-decides : goal.arrays::validate_single-returns-in-Accept-clause-decides
arrays::validate_single-returns-in-Accept-clause-decides g t c =
    let a = c.args in
    let s = a.stream.now in
    let n = c.validate_element.new.stream in
    let y = c.validate_element.new.slate in
    let e = c.in_ok-pos.ensures.decides in
    let at = accepted_at c.in_ok-pos.field-0 c.in-Accept.pos n.pos y.trace.now c.in-Accept.is e.at in
    to c.demand.result _ (subst (λ (k : ℕ × List TraceFrame). IsAt c.demand.result k.0 k.1) (λ j. (at.0 j, sym at.1 j)) c.demand.ensures.at)
    (λ b. ap (λ (v : Verdict). and_then (plain (ending_of v y.trace.now y.cells.now)) (once_rest a.start s.end)) c.in-Accept.is
    ∙ (λ k. demanded ListSize (nat_eq c.in-Accept.pos (sym (c.end.ensures ∙ e.ends) k)) a.start c.in-Accept.pos y.cells.now)
    ∙ c.demand.ensures.ending y.cells.now ∙ (λ k. plain (ending_of c.demand.result (sym at.1 k) y.cells.now)))
    (followed (λ b. once_rest a.start s.end) e)

-- Elements that fill so many bytes

pub arrays::validate_filling-returns-then-size-end-clause-decides : goal.arrays::validate_filling-returns-then-size-end-clause-decides
arrays::validate_filling-returns-then-size-end-clause-decides g t c =
    let a = c.args in
    let s = a.stream.now in
    let m = a.walk.now.types.now.module.now in
    let less : s.end < s.pos + a.size = omega (arith, c.if-size-end.true, c.pos-pos.ensures, c.end-end.ensures, c.requires.whole.within) in
    rejects g.met.W.Words.reaches_itself s NotEnough c.pos-pos.result s.pos _ c.requires.whole c.requires.empty_trace c.pos-pos.ensures
    (λ b. filled_short (element_meaning m.listed (senses m a.walk.now.bound) a.element.now a.env.now a.walk.now.places.now b s.pos) a.step a.size s.end s.pos a.slate.now.cells.now less)

pub arrays::validate_filling-returns-then-not-divides-clause-decides : goal.arrays::validate_filling-returns-then-not-divides-clause-decides
arrays::validate_filling-returns-then-not-divides-clause-decides g t c =
    let a = c.args in
    let s = a.stream.now in
    let m = a.walk.now.types.now.module.now in
    let long : s.pos + a.size ≤ s.end = omega (arith, c.if-size-end.false, c.pos-pos.ensures, c.end-end.ensures, c.requires.whole.within) in
    let bad : divides a.step a.size ≡ false = sym c.divides.ensures ∙ c.if-not-divides.true in
    rw c.unfit.ensures (rejects g.met.W.Words.reaches_itself s ListSize c.pos-pos.result s.pos _ c.requires.whole c.requires.empty_trace c.pos-pos.ensures
    (λ b. filled_unfit (element_meaning m.listed (senses m a.walk.now.bound) a.element.now a.env.now a.walk.now.places.now b s.pos) a.step a.size s.end s.pos a.slate.now.cells.now long bad))

pub arrays::validate_filling-returns-then-passes_all-clause-decides : goal.arrays::validate_filling-returns-then-passes_all-clause-decides
arrays::validate_filling-returns-then-passes_all-clause-decides g t c =
    let a = c.args in
    let s = a.stream.now in
    let m = a.walk.now.types.now.module.now in
    let cells = a.slate.now.cells.now in
    let each = λ (b : List ℕ). element_meaning m.listed (senses m a.walk.now.bound) a.element.now a.env.now a.walk.now.places.now b s.pos in
    let long : s.pos + a.size ≤ s.end = omega (arith, c.if-size-end.false, c.pos-pos.ensures, c.end-end.ensures, c.requires.whole.within) in
    let good : divides a.step a.size ≡ true = sym c.divides.ensures ∙ c.if-not-divides.false in
    let passes : passes_all c.passed_size.result a.size ≡ true = sym c.passes_all.ensures ∙ c.if-passes_all.true in
    passed c.pos.result (s.pos + a.size) _ c.requires.empty_trace c.skip.ensures.moves c.pos.ensures
    (λ b. filled_fit (each b) a.step a.size s.end s.pos cells long good
    ∙ window_pass (each b (s.pos + a.size)) c.passed_size.result a.size s.pos (s.pos + a.size) s.pos cells (λ w e p r. subst (λ (o : Option ℕ). IfSome o (λ size. IsPassed m a.walk.now.bound a.element.now size)) e c.passed_size.ensures a.env.now a.walk.now.places.now b s.pos (s.pos + a.size) p cells r) passes refl)

pub arrays::validate_filling-returns-clause-decides : goal.arrays::validate_filling-returns-clause-decides
arrays::validate_filling-returns-clause-decides g t c =
    let a = c.args in
    let s = a.stream.now in
    let m = a.walk.now.types.now.module.now in
    let cells = a.slate.now.cells.now in
    let n = c.validate_elements.new.stream in
    let r = c.narrow.new.self in
    let long : s.pos + a.size ≤ s.end = omega (arith, c.if-size-end.false, c.pos-pos.ensures, c.end-end.ensures, c.requires.whole.within) in
    let good : divides a.step a.size ≡ true = sym c.divides.ensures ∙ c.if-not-divides.false in
    let st : s.pos ≡ c.pos-pos.result = sym c.pos-pos.ensures in
    let ends : s.pos + a.size ≡ r.end = sym c.narrow.ensures.moves.ends in
    let at : s.pos ≡ r.pos = sym c.narrow.ensures.moves.at in
    let size : a.size ≡ r.end - r.pos = omega (arith, c.narrow.ensures.moves.ends, c.narrow.ensures.moves.at) in
    windowed (s.pos + a.size) _ g.met.W.Words.reaches_on c.narrow.ensures.moves c.narrow.ensures.same_words c.in_ok-verdict.ensures.decides
    (subst (λ q. Moves g.W.Words.loads g.W.Words.size g.W.Words.reaches n c.widen.new.self (position n) q []) c.end-end.ensures c.widen.ensures.moves) c.widen.ensures.same_words
    (λ b. filled_fit (element_meaning m.listed (senses m a.walk.now.bound) a.element.now a.env.now a.walk.now.places.now b s.pos) a.step a.size s.end s.pos cells long good
    ∙ (λ k. elements (element_meaning m.listed (senses m a.walk.now.bound) a.element.now a.env.now a.walk.now.places.now b (st k) (ends k)) (suc (size k)) (st k) (ends k) (at k) cells))

pub arrays::validate_filling-returns-in_err-verdict-clause-runs_out : goal.arrays::validate_filling-returns-in_err-verdict-clause-runs_out
arrays::validate_filling-returns-in_err-verdict-clause-runs_out g t c = let p = err_from_is_err_and c.from_residual.result c.from_residual.ensures.1 in rw p.1 (
    let a = c.args in
    let s = a.stream.now in
    let m = a.walk.now.types.now.module.now in
    let cells = a.slate.now.cells.now in
    let r = c.narrow.new.self in
    let long : s.pos + a.size ≤ s.end = omega (arith, c.if-size-end.false, c.pos-pos.ensures, c.end-end.ensures, c.requires.whole.within) in
    let good : divides a.step a.size ≡ true = sym c.divides.ensures ∙ c.if-not-divides.false in
    let st : s.pos ≡ c.pos-pos.result = sym c.pos-pos.ensures in
    let ends : s.pos + a.size ≡ r.end = sym c.narrow.ensures.moves.ends in
    let at : s.pos ≡ r.pos = sym c.narrow.ensures.moves.at in
    let size : a.size ≡ r.end - r.pos = omega (arith, c.narrow.ensures.moves.ends, c.narrow.ensures.moves.at) in
    out_windowed (s.pos + a.size) _ g.met.W.Words.reaches_on c.narrow.ensures.moves c.narrow.ensures.same_words c.in_err-verdict.ensures.runs_out
    (λ b. filled_fit (element_meaning m.listed (senses m a.walk.now.bound) a.element.now a.env.now a.walk.now.places.now b s.pos) a.step a.size s.end s.pos cells long good
    ∙ (λ k. elements (element_meaning m.listed (senses m a.walk.now.bound) a.element.now a.env.now a.walk.now.places.now b (st k) (ends k)) (suc (size k)) (st k) (ends k) (at k) cells)))

-- One element that fills so many bytes

pub arrays::validate_once-returns-then-size-end-clause-decides : goal.arrays::validate_once-returns-then-size-end-clause-decides
arrays::validate_once-returns-then-size-end-clause-decides g t c =
    let a = c.args in
    let s = a.stream.now in
    let m = a.walk.now.types.now.module.now in
    let less : s.end < s.pos + a.size = omega (arith, c.if-size-end.true, c.pos-pos.ensures, c.end-end.ensures, c.requires.whole.within) in
    rejects g.met.W.Words.reaches_itself s NotEnough c.pos-pos.result s.pos _ c.requires.whole c.requires.empty_trace c.pos-pos.ensures
    (λ b. once_short (element_meaning m.listed (senses m a.walk.now.bound) a.element.now a.env.now a.walk.now.places.now b s.pos) a.step a.size s.end s.pos a.slate.now.cells.now less)

pub arrays::validate_once-returns-then-not-equals-clause-decides : goal.arrays::validate_once-returns-then-not-equals-clause-decides
arrays::validate_once-returns-then-not-equals-clause-decides g t c =
    let a = c.args in
    let s = a.stream.now in
    let m = a.walk.now.types.now.module.now in
    let long : s.pos + a.size ≤ s.end = omega (arith, c.if-size-end.false, c.pos-pos.ensures, c.end-end.ensures, c.requires.whole.within) in
    let bad : equals a.step a.size ≡ false = sym c.equals.ensures ∙ c.if-not-equals.true in
    rw c.unfit.ensures (rejects g.met.W.Words.reaches_itself s ListSize c.pos-pos.result s.pos _ c.requires.whole c.requires.empty_trace c.pos-pos.ensures
    (λ b. once_unfit (element_meaning m.listed (senses m a.walk.now.bound) a.element.now a.env.now a.walk.now.places.now b s.pos) a.step a.size s.end s.pos a.slate.now.cells.now long bad))

pub arrays::validate_once-returns-clause-decides : goal.arrays::validate_once-returns-clause-decides
arrays::validate_once-returns-clause-decides g t c =
    let a = c.args in
    let s = a.stream.now in
    let m = a.walk.now.types.now.module.now in
    let cells = a.slate.now.cells.now in
    let n = c.validate_single.new.stream in
    let r = c.narrow.new.self in
    let long : s.pos + a.size ≤ s.end = omega (arith, c.if-size-end.false, c.pos-pos.ensures, c.end-end.ensures, c.requires.whole.within) in
    let good : equals a.step a.size ≡ true = sym c.equals.ensures ∙ c.if-not-equals.false in
    let st : s.pos ≡ c.pos-pos.result = sym c.pos-pos.ensures in
    let ends : s.pos + a.size ≡ r.end = sym c.narrow.ensures.moves.ends in
    let at : s.pos ≡ r.pos = sym c.narrow.ensures.moves.at in
    windowed (s.pos + a.size) _ g.met.W.Words.reaches_on c.narrow.ensures.moves c.narrow.ensures.same_words c.in_ok-verdict.ensures.decides
    (subst (λ q. Moves g.W.Words.loads g.W.Words.size g.W.Words.reaches n c.widen.new.self (position n) q []) c.end-end.ensures c.widen.ensures.moves) c.widen.ensures.same_words
    (λ b. once_fit (element_meaning m.listed (senses m a.walk.now.bound) a.element.now a.env.now a.walk.now.places.now b s.pos) a.step a.size s.end s.pos cells long good
    ∙ (λ k. and_then (element_meaning m.listed (senses m a.walk.now.bound) a.element.now a.env.now a.walk.now.places.now b (st k) (ends k) (at k) cells) (once_rest (st k) (ends k))))

pub arrays::validate_once-returns-in_err-verdict-clause-runs_out : goal.arrays::validate_once-returns-in_err-verdict-clause-runs_out
arrays::validate_once-returns-in_err-verdict-clause-runs_out g t c = let p = err_from_is_err_and c.from_residual.result c.from_residual.ensures.1 in rw p.1 (
    let a = c.args in
    let s = a.stream.now in
    let m = a.walk.now.types.now.module.now in
    let cells = a.slate.now.cells.now in
    let r = c.narrow.new.self in
    let long : s.pos + a.size ≤ s.end = omega (arith, c.if-size-end.false, c.pos-pos.ensures, c.end-end.ensures, c.requires.whole.within) in
    let good : equals a.step a.size ≡ true = sym c.equals.ensures ∙ c.if-not-equals.false in
    let st : s.pos ≡ c.pos-pos.result = sym c.pos-pos.ensures in
    let ends : s.pos + a.size ≡ r.end = sym c.narrow.ensures.moves.ends in
    let at : s.pos ≡ r.pos = sym c.narrow.ensures.moves.at in
    out_windowed (s.pos + a.size) _ g.met.W.Words.reaches_on c.narrow.ensures.moves c.narrow.ensures.same_words c.in_err-verdict.ensures.runs_out
    (λ b. once_fit (element_meaning m.listed (senses m a.walk.now.bound) a.element.now a.env.now a.walk.now.places.now b s.pos) a.step a.size s.end s.pos cells long good
    ∙ (λ k. and_then (element_meaning m.listed (senses m a.walk.now.bound) a.element.now a.env.now a.walk.now.places.now b (st k) (ends k) (at k) cells) (once_rest (st k) (ends k)))))

-- What stands in a field

pub arrays::validate_shape-returns-in-Once-clause-decides : goal.arrays::validate_shape-returns-in-Once-clause-decides
arrays::validate_shape-returns-in-Once-clause-decides g t c =
    let a = c.args in
    let s = a.stream.now in
    let m = a.walk.now.types.now.module.now in
    let cells = a.slate.now.cells.now in
    with_one c.validate_element.result c.validate_element.ensures.decides (λ v. from _ (λ b. ap (λ (x : Extent). shape_meaning m.listed (senses m a.walk.now.bound) a.element.now x a.env.now a.walk.now.places.now b s.end s.pos cells) c.in-Once.is
    ∙ (λ k. element_meaning m.listed (senses m a.walk.now.bound) a.element.now a.env.now a.walk.now.places.now b (sym c.pos.ensures k) s.end s.pos cells)))

pub arrays::validate_shape-returns-in-Once-clause-runs_out : goal.arrays::validate_shape-returns-in-Once-clause-runs_out
arrays::validate_shape-returns-in-Once-clause-runs_out g t c =
    let a = c.args in
    let s = a.stream.now in
    let m = a.walk.now.types.now.module.now in
    let cells = a.slate.now.cells.now in
    or_err c.validate_element.result c.validate_element.ensures.runs_out (out_from _ (λ b. ap (λ (x : Extent). shape_meaning m.listed (senses m a.walk.now.bound) a.element.now x a.env.now a.walk.now.places.now b s.end s.pos cells) c.in-Once.is
    ∙ (λ k. element_meaning m.listed (senses m a.walk.now.bound) a.element.now a.env.now a.walk.now.places.now b (sym c.pos.ensures k) s.end s.pos cells)))

pub arrays::validate_shape-returns-in-Filling-clause-decides : goal.arrays::validate_shape-returns-in-Filling-clause-decides
arrays::validate_shape-returns-in-Filling-clause-decides g t c =
    let a = c.args in
    let s = a.stream.now in
    let m = a.walk.now.types.now.module.now in
    let cells = a.slate.now.cells.now in
    with_one c.validate_filling.result c.validate_filling.ensures.decides (λ v. from _ (λ b. ap (λ (x : Extent). shape_meaning m.listed (senses m a.walk.now.bound) a.element.now x a.env.now a.walk.now.places.now b s.end s.pos cells) c.in-Filling.is
    ∙ (λ k. filled (element_meaning m.listed (senses m a.walk.now.bound) a.element.now a.env.now a.walk.now.places.now b s.pos) c.in-Filling.step (sym c.value_of.ensures k) s.end s.pos cells)))

pub arrays::validate_shape-returns-in-Filling-clause-runs_out : goal.arrays::validate_shape-returns-in-Filling-clause-runs_out
arrays::validate_shape-returns-in-Filling-clause-runs_out g t c =
    let a = c.args in
    let s = a.stream.now in
    let m = a.walk.now.types.now.module.now in
    let cells = a.slate.now.cells.now in
    or_err c.validate_filling.result c.validate_filling.ensures.runs_out (out_from _ (λ b. ap (λ (x : Extent). shape_meaning m.listed (senses m a.walk.now.bound) a.element.now x a.env.now a.walk.now.places.now b s.end s.pos cells) c.in-Filling.is
    ∙ (λ k. filled (element_meaning m.listed (senses m a.walk.now.bound) a.element.now a.env.now a.walk.now.places.now b s.pos) c.in-Filling.step (sym c.value_of.ensures k) s.end s.pos cells)))

pub arrays::validate_shape-returns-in-OnceFilling-clause-decides : goal.arrays::validate_shape-returns-in-OnceFilling-clause-decides
arrays::validate_shape-returns-in-OnceFilling-clause-decides g t c =
    let a = c.args in
    let s = a.stream.now in
    let m = a.walk.now.types.now.module.now in
    let cells = a.slate.now.cells.now in
    with_one c.validate_once.result c.validate_once.ensures.decides (λ v. from _ (λ b. ap (λ (x : Extent). shape_meaning m.listed (senses m a.walk.now.bound) a.element.now x a.env.now a.walk.now.places.now b s.end s.pos cells) c.in-OnceFilling.is
    ∙ (λ k. filled_once (element_meaning m.listed (senses m a.walk.now.bound) a.element.now a.env.now a.walk.now.places.now b s.pos) c.in-OnceFilling.step (sym c.value_of-in-OnceFilling.ensures k) s.end s.pos cells)))

pub arrays::validate_shape-returns-in-OnceFilling-clause-runs_out : goal.arrays::validate_shape-returns-in-OnceFilling-clause-runs_out
arrays::validate_shape-returns-in-OnceFilling-clause-runs_out g t c =
    let a = c.args in
    let s = a.stream.now in
    let m = a.walk.now.types.now.module.now in
    let cells = a.slate.now.cells.now in
    or_err c.validate_once.result c.validate_once.ensures.runs_out (out_from _ (λ b. ap (λ (x : Extent). shape_meaning m.listed (senses m a.walk.now.bound) a.element.now x a.env.now a.walk.now.places.now b s.end s.pos cells) c.in-OnceFilling.is
    ∙ (λ k. filled_once (element_meaning m.listed (senses m a.walk.now.bound) a.element.now a.env.now a.walk.now.places.now b s.pos) c.in-OnceFilling.step (sym c.value_of-in-OnceFilling.ensures k) s.end s.pos cells)))

pub arrays::validate_shape-returns-in-UpToZero-clause-decides : goal.arrays::validate_shape-returns-in-UpToZero-clause-decides
arrays::validate_shape-returns-in-UpToZero-clause-decides g t c =
    let a = c.args in
    let s = a.stream.now in
    let m = a.walk.now.types.now.module.now in
    let cells = a.slate.now.cells.now in
    let e = c.validate_zero_ended.ensures in
    unwritten _ (λ b. element_up_to_zero a.element.now c.value_of-in-UpToZero.result b s.end s.pos cells) c.requires.empty_trace e.later e.whole e.end e.at
    (λ b. ap (λ (x : Extent). shape_meaning m.listed (senses m a.walk.now.bound) a.element.now x a.env.now a.walk.now.places.now b s.end s.pos cells) c.in-UpToZero.is
    ∙ (λ k. element_up_to_zero a.element.now (sym c.value_of-in-UpToZero.ensures k) b s.end s.pos cells)) (λ b h. e.step b cells h)

pub arrays::validate_shape-returns-in-Given-clause-decides : goal.arrays::validate_shape-returns-in-Given-clause-decides
arrays::validate_shape-returns-in-Given-clause-decides g t c =
    let a = c.args in
    let s = a.stream.now in
    let m = a.walk.now.types.now.module.now in
    accepts g.met.W.Words.reaches_itself s c.pos-in-Given.result _ c.requires.whole c.requires.empty_trace c.pos-in-Given.ensures
    (λ b. ap (λ (x : Extent). shape_meaning m.listed (senses m a.walk.now.bound) a.element.now x a.env.now a.walk.now.places.now b s.end s.pos a.slate.now.cells.now) c.in-Given.is)
