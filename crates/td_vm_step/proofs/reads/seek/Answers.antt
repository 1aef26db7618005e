use Rattle.std.proofs.Common.{◌≡◌, suc, ◌+◌, ◌-◌, ◌*◌, refl, sym, ap, ◌∙◌, subst, arith}
use Rattle.td_num.specs.Numbers.{rising_at, places_from}
use Rattle.td_num.specs.Lists.{first_where}
use Rattle.td_stream.specs.StreamInvariant.{Looked, position, end_of}
use Rattle.td_stream.proofs.Places.{look_nowhere}
use Rattle.td_stream.proofs.Stages.{later_trans, later_self, carried}
use Rattle.td_ir.specs.Values.{numbers_from}
use Rattle.td_vm_step.specs.Stepping.{sought}
use Rattle.td_vm_step.proofs.Elements.{shifted, shifted_none, passed_one, found_one, none_found, look_on, fits_one, next_width, suc_width, no_width}
use Rattle.td_vm_step.proofs.Bytes.{some_width, few_width}
use Rattle.td_vm_step.proofs.reads.seek.Goals as goal

pub loop-k-init : goal.loop-k-init
loop-k-init g c =
    let s = c.args.stream.now in
    let z = no_width c.args.width in
    let all : c.args.n ≡ c.args.n - 0 = omega arith in
    record {
      later = later_self g.met.W.Words.reaches_itself s;
      whole = c.requires.whole;
      end = refl;
      pos = omega (arith, z);
      counted = omega arith;
      looked = subst (λ k. Looked g.W.Words.loads s s (places_from (position s) k)) (sym z) (look_nowhere s s refl refl);
      first = λ b k. shifted_none (first_where (sought c.args.zero) (numbers_from b (position s) c.args.width c.args.n)) ∙ ap (λ m. shifted 0 (first_where (sought c.args.zero) (numbers_from b (position s) c.args.width m))) all;
    }

pub take_bytes-element-requires-clause-some : goal.take_bytes-element-requires-clause-some
take_bytes-element-requires-clause-some g c = let some = some_width c.args.width c.requires.width in omega (arith, some, c.from-count.ensures)

pub take_bytes-element-requires-clause-few : goal.take_bytes-element-requires-clause-few
take_bytes-element-requires-clause-few g c = let few = few_width c.args.width c.requires.width in omega (arith, few, c.from-count.ensures)

pub take_bytes-element-requires-clause-more : goal.take_bytes-element-requires-clause-more
take_bytes-element-requires-clause-more g c =
    let i = c.loop-k.invariant in
    let f = fits_one c.loop-k.k c.args.n c.args.width (end_of c.args.stream.now - position c.args.stream.now) c.loop-k-test.true c.requires.fit in
    omega (arith, f, i.pos, i.end, c.from-count.ensures)

pub loop-k-preserved : goal.loop-k-preserved
loop-k-preserved g c =
    let i = c.loop-k.invariant in
    let e = c.take_bytes-element.ensures in
    let o = e.moves in
    let s0 = c.args.stream.now in
    let s = c.loop-k.stream in
    let t = c.take_bytes-element.new.self in
    let w = c.args.width in
    let k = c.loop-k.k in
    let test = sought c.args.zero in
    let wide = c.from-count.ensures in
    let next = next_width k w in
    let same : k + 1 ≡ suc k = omega arith in
    let moved : position s + w ≡ position t = omega (arith, o.at, wide) in
    record {
      later = later_trans g.met.W.Words.reaches_on s0 s t i.later o.later;
      whole = o.whole;
      end = o.ends ∙ i.end;
      pos = omega (arith, next, moved, i.pos);
      counted = omega (arith, i.counted, c.tick.ensures);
      looked = look_on s0 s t (position s0) (position s) k w ((k + 1) * w) i.looked (subst (λ x. Looked g.W.Words.loads s t (places_from (position s) x)) wide o.looked) i.pos (ap (λ x. x * w) same);
      first = λ b h.
          let both = carried s0 s t b i.later o.later h in
          i.first b both.0
          ∙ passed_one test b (position s) w c.args.n k c.take_bytes-element.result c.loop-k-test.true (e.value b both.1 ∙ ap (rising_at b (position s)) wide) (sym c.is_sought.ensures ∙ c.if-is_sought.false)
          ∙ ap (λ q. shifted (k + 1) (first_where test (numbers_from b q w (c.args.n - (k + 1))))) moved;
    }

pub returns-then-is_sought : goal.returns-then-is_sought
returns-then-is_sought g c =
    let i = c.loop-k.invariant in
    let e = c.take_bytes-element.ensures in
    let o = e.moves in
    let s0 = c.args.stream.now in
    let s = c.loop-k.stream in
    let t = c.take_bytes-element.new.self in
    let w = c.args.width in
    let k = c.loop-k.k in
    let test = sought c.args.zero in
    let wide = c.from-count.ensures in
    let next = suc_width k w in
    record {
      moves = record { later = later_trans g.met.W.Words.reaches_on s0 s t i.later o.later; whole = o.whole; at = omega (arith, next, o.at, wide, i.pos); ends = o.ends ∙ i.end; looked = look_on s0 s t (position s0) (position s) k w (suc k * w) i.looked (subst (λ x. Looked g.W.Words.loads s t (places_from (position s) x)) wide o.looked) i.pos refl };
      counted = omega (arith, i.counted, c.tick.ensures);
      first = λ b h.
          let both = carried s0 s t b i.later o.later h in
          sym (i.first b both.0
          ∙ found_one test b (position s) w c.args.n k c.take_bytes-element.result c.loop-k-test.true (e.value b both.1 ∙ ap (rising_at b (position s)) wide) (sym c.is_sought.ensures ∙ c.if-is_sought.true));
      within = c.loop-k-test.true;
    }

pub returns : goal.returns
returns g c =
    let i = c.loop-k.invariant in
    let s0 = c.args.stream.now in
    let s = c.loop-k.stream in
    let w = c.args.width in
    let k = c.loop-k.k in
    let e : k ≡ c.args.n = omega (arith, c.loop-k-test.false, c.loop-k.auto.k-end) in
    record {
      moves = record { later = i.later; whole = i.whole; at = i.pos ∙ ap (λ x. position s0 + x * w) e; ends = i.end; looked = subst (λ x. Looked g.W.Words.loads s0 s (places_from (position s0) (x * w))) e i.looked };
      counted = omega (arith, i.counted, e);
      first = λ b h. sym (i.first b h ∙ none_found (sought c.args.zero) b (position s) w c.args.n k c.loop-k-test.false);
      within = tt;
    }
