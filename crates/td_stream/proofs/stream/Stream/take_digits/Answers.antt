use Rattle.std.proofs.Common.{◌≡◌, ◌+◌, ◌-◌, ap, arith, rules, subst, sym, ◌∙◌}
use Rattle.td_num.specs.Numbers.{byte_of}
use Rattle.td_stream.specs.Digits.{HasDigits}
use Rattle.td_stream.specs.Loads.{Carries}
use Rattle.td_stream.specs.StreamInvariant.{layout_of}
use Rattle.td_stream.proofs.Digits.{joined_digits}
use Rattle.td_stream.proofs.Places.{look_join}
use Rattle.td_stream.proofs.stream.Stream.take_digits.Goals as goal

pub returns-clause-moves : goal.returns-clause-moves
returns-clause-moves g c = record {
  later = search rules;
  whole = search rules;
  at = search rules;
  ends = search rules;
  looked =
      let s = c.args.self.now in
      let here = s.until - s.pos in
      look_join s c.take_held-low.new.self c.take_turned-high.new.self s.pos c.take_held-low.new.self.pos here (c.args.count - here) c.args.count c.take_held-low.ensures.moves.looked c.take_turned-high.ensures.moves.looked c.take_held-low.ensures.moves.at (omega (arith, c.if-self.false));
}

pub returns-clause-digits : goal.returns-clause-digits
returns-clause-digits g c = λ b h.
    let s = c.args.self.now in
    let t = c.take_held-low.new.self in
    let here = s.until - s.pos in
    let more = c.args.count - here in
    let n : layout_of t ≡ layout_of s = c.take_held-low.ensures.moves.later.layout in
    let h' : Carries (layout_of t) b (g.W.Words.loads c.take_turned-high.new.self.words.now) = subst (λ m. Carries m b (g.W.Words.loads c.take_turned-high.new.self.words.now)) (sym n) h in
    let before : Carries (layout_of s) b (g.W.Words.loads t.words.now) = subst (λ m. Carries m b (g.W.Words.loads t.words.now)) n (c.take_turned-high.ensures.moves.later.earlier b h') in
    let low : HasDigits b s.pos here c.take_held-low.result = c.take_held-low.ensures.digits b before in
    let high : HasDigits b (s.pos + here) more c.take_turned-high.result = subst (λ p. HasDigits b p more c.take_turned-high.result) c.take_held-low.ensures.moves.at (c.take_turned-high.ensures.digits b h') in
    let whole : here + more ≡ c.args.count = omega (arith, c.if-self.false) in
    let both = joined_digits b s.pos here more c.take_turned-high.result c.take_held-low.result c.take_held-low.ensures.fits low high in
    λ j less. ap (λ x. byte_of x j) c.joined.ensures.is ∙ both j (omega (arith, less, whole))
