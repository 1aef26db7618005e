use Rattle.std.proofs.Common.{◌++◌, sym, ap, ◌∙◌, subst, arith, rules}
use Rattle.td_stream.specs.Digits.{HasDigits}
use Rattle.td_stream.specs.Loads.{Carries}
use Rattle.td_stream.specs.StreamInvariant.{position}
use Rattle.td_stream.proofs.Copied.{digits_copied}
use Rattle.td_stream.proofs.Places.{look_again}
use Rattle.td_stream.proofs.stream.Stream.copy_next.Goals as goal
use Rattle.td_stream.proofs.Stages.{later_trans}

pub returns-then-self-eq8-clause-moves : goal.returns-then-self-eq8-clause-moves
returns-then-self-eq8-clause-moves g c = record {
  later = later_trans g.met.W.Words.reaches_on c.args.self.now c.hold.new.self c.take_held-word.new.self c.hold.ensures.moves.later c.take_held-word.ensures.moves.later;
  whole = search rules;
  at = search rules;
  ends = search rules;
  looked = look_again c.args.self.now c.hold.new.self c.take_held-word.new.self (position c.args.self.now) (position c.hold.new.self) 8 c.hold.ensures.moves.looked c.take_held-word.ensures.moves.looked c.hold.ensures.moves.at (omega arith);
}

pub returns-then-self-eq8-clause-held : goal.returns-then-self-eq8-clause-held
returns-then-self-eq8-clause-held g c = λ b h.
    let t = c.take_held-word.new.self in
    let later = subst (λ n. Carries n b (g.W.Words.loads t.words.now)) (sym c.hold.ensures.moves.later.layout) h in
    let digits = subst (λ p. HasDigits b p 8 c.take_held-word.result) c.hold.ensures.moves.at (c.take_held-word.ensures.digits b later) in
    c.push_word.ensures.held ∙ ap (λ xs. c.args.buffer.now.held ++ xs) (digits_copied b (position c.args.self.now) 8 c.take_held-word.result digits)

pub returns-clause-moves : goal.returns-clause-moves
returns-clause-moves g c = record {
  later = later_trans g.met.W.Words.reaches_on c.args.self.now c.hold.new.self c.byte-value.new.self c.hold.ensures.moves.later c.byte-value.ensures.moves.later;
  whole = search rules;
  at = search rules;
  ends = search rules;
  looked = look_again c.args.self.now c.hold.new.self c.byte-value.new.self (position c.args.self.now) (position c.hold.new.self) 1 c.hold.ensures.moves.looked c.byte-value.ensures.moves.looked c.hold.ensures.moves.at (omega arith);
}
