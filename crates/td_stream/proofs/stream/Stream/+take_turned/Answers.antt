use Rattle.std.proofs.Common.{◌≡◌, ◌+◌, ◌-◌, ap, arith, rules, subst, sym, ◌∙◌}
use Rattle.td_num.specs.Numbers.{byte_of}
use Rattle.td_stream.specs.Digits.{HasDigits}
use Rattle.td_stream.specs.Loads.{Carries}
use Rattle.td_stream.specs.StreamInvariant.{layout_of}
use Rattle.td_stream.proofs.Digits.{joined_digits}
use Rattle.td_stream.proofs.Places.{look_again, look_join}
use Rattle.td_stream.proofs.Stages.{later_trans}
use Rattle.td_stream.proofs.stream.Stream.+take_turned.Goals as goal

pub returns-then-count-here-clause-moves : goal.returns-then-count-here-clause-moves
returns-then-count-here-clause-moves g t c = record {
  later = later_trans g.met.W.Words.reaches_on c.args.self.now c.turn.new.self c.take_held.new.self c.turn.ensures.moves.later c.take_held.ensures.moves.later;
  whole = search rules;
  at = search rules;
  ends = search rules;
  looked = look_again c.args.self.now c.turn.new.self c.take_held.new.self c.args.self.now.pos c.turn.new.self.pos c.args.count c.turn.ensures.moves.looked c.take_held.ensures.moves.looked c.turn.ensures.moves.at c.requires.some;
}

pub returns-then-count-here-clause-digits : goal.returns-then-count-here-clause-digits
returns-then-count-here-clause-digits g t c = λ b h.
    let h' = subst (λ m. Carries m b (g.W.Words.loads c.take_held.new.self.words.now)) (sym c.turn.ensures.moves.later.layout) h in
    subst (λ p. HasDigits b p c.args.count c.take_held.result) c.turn.ensures.moves.at (c.take_held.ensures.digits b h')

pub returns-clause-moves : goal.returns-clause-moves
returns-clause-moves g t c = record {
  later = later_trans g.met.W.Words.reaches_on c.args.self.now c.turn.new.self c.take_turned-high.new.self c.turn.ensures.moves.later
      (later_trans g.met.W.Words.reaches_on c.turn.new.self c.take_held-low.new.self c.take_turned-high.new.self c.take_held-low.ensures.moves.later c.take_turned-high.ensures.moves.later);
  whole = search rules;
  at = search rules;
  ends = search rules;
  looked =
      let here = c.turn.new.self.until - c.turn.new.self.pos in
      let low = look_again c.args.self.now c.turn.new.self c.take_held-low.new.self c.args.self.now.pos c.turn.new.self.pos here c.turn.ensures.moves.looked c.take_held-low.ensures.moves.looked c.turn.ensures.moves.at (omega (arith, c.turn.ensures.held)) in
      look_join c.args.self.now c.take_held-low.new.self c.take_turned-high.new.self c.args.self.now.pos c.take_held-low.new.self.pos here (c.args.count - here) c.args.count low c.take_turned-high.ensures.moves.looked (omega (arith, c.take_held-low.ensures.moves.at, c.turn.ensures.moves.at)) (omega (arith, c.if-count-here.false));
}

pub returns-clause-digits : goal.returns-clause-digits
returns-clause-digits g t c = λ b h.
    let here = c.turn.new.self.until - c.turn.new.self.pos in
    let more = c.args.count - here in
    let loaded = g.W.Words.loads c.take_turned-high.new.self.words.now in
    let n1 : layout_of c.turn.new.self ≡ layout_of c.args.self.now = c.turn.ensures.moves.later.layout in
    let n2 : layout_of c.take_held-low.new.self ≡ layout_of c.turn.new.self = c.take_held-low.ensures.moves.later.layout in
    let h1 : Carries (layout_of c.turn.new.self) b loaded = subst (λ m. Carries m b loaded) (sym n1) h in
    let h2 : Carries (layout_of c.take_held-low.new.self) b loaded = subst (λ m. Carries m b loaded) (sym n2) h1 in
    let back : Carries (layout_of c.take_held-low.new.self) b (g.W.Words.loads c.take_held-low.new.self.words.now) = c.take_turned-high.ensures.moves.later.earlier b h2 in
    let before : Carries (layout_of c.turn.new.self) b (g.W.Words.loads c.take_held-low.new.self.words.now) = subst (λ m. Carries m b (g.W.Words.loads c.take_held-low.new.self.words.now)) n2 back in
    let low : HasDigits b c.args.self.now.pos here c.take_held-low.result = subst (λ p. HasDigits b p here c.take_held-low.result) c.turn.ensures.moves.at (c.take_held-low.ensures.digits b before) in
    let place : c.take_held-low.new.self.pos ≡ c.args.self.now.pos + here = omega (arith, c.take_held-low.ensures.moves.at, c.turn.ensures.moves.at) in
    let high : HasDigits b (c.args.self.now.pos + here) more c.take_turned-high.result = subst (λ p. HasDigits b p more c.take_turned-high.result) place (c.take_turned-high.ensures.digits b h2) in
    let whole : here + more ≡ c.args.count = omega (arith, c.if-count-here.false) in
    let both = joined_digits b c.args.self.now.pos here more c.take_turned-high.result c.take_held-low.result c.take_held-low.ensures.fits low high in
    λ j less. ap (λ x. byte_of x j) c.joined.ensures.is ∙ both j (omega (arith, less, whole))
