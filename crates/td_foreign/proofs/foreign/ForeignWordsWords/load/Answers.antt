use Rattle.std.proofs.Common.{ap, arith}
use Rattle.td_stream.proofs.Buffered.{word_within}
use Rattle.td_foreign.specs.declared.memory.TdWords.{TdWords}
use Rattle.td_foreign.proofs.foreign.ForeignWordsWords.load.Goals as goal

pub load-requires : goal.load-requires
load-requires c =
    let s = c.args.self.now in
    let inside = word_within s.words.count s.layout.now c.args.i s.inside c.requires.within in
    let same = ap (λ (w : TdWords). w.count) c.replace-words.ensures.value in
    omega (arith, inside, c.word_from-near.ensures.word, same)
