use Rattle.std.proofs.Common.{ap, ◌∙◌, arith}
use Rattle.td_words.specs.Seats.{SeatState, then_did}
use Rattle.td_words.specs.declared.view.Access.TheVariants.{Load as LoadOf}
use Rattle.td_stream.proofs.Buffered.{word_within}
use Rattle.td_live.proofs.Lives.{loaded_more}
use Rattle.td_live.proofs.live.LiveWordsWords.load.Goals as goal

pub invariant_of-self : goal.invariant_of-self
invariant_of-self g c =
    let s = c.args.self.now in
    record {
      table = ap (λ (t : SeatState). t.table) c.load-value.ensures ∙ s.table;
      inside = s.inside;
      loaded = loaded_more s.layout.now s.start.value s.seat.now c.load-value.new.seat s.made c.push.new.self c.args.i c.load-value.result s.loaded (c.load-value.ensures ∙ ap (λ n. then_did s.seat.now (LoadOf n c.load-value.result)) c.word_from-near.ensures.word) c.push.ensures;
    }

pub load-value-requires-clause-inside : goal.load-value-requires-clause-inside
load-value-requires-clause-inside g c =
    let s = c.args.self.now in
    let inside = word_within s.shared.now.count s.layout.now c.args.i s.inside c.requires.within in
    omega (arith, inside, c.word_from-near.ensures.word)
