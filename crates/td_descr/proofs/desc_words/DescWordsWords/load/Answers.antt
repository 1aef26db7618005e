use Rattle.std.proofs.Common.{◌+◌, sym, subst}
use Rattle.td_stream.specs.Loads.{IsNext}
use Rattle.td_descr.proofs.Renumbered.{next_behind}
use Rattle.td_descr.proofs.desc_words.DescWordsWords.load.Goals as goal

pub load-value-requires-clause-next : goal.load-value-requires-clause-next
load-value-requires-clause-next g c =
    let s = c.args.self.now in
    subst (IsNext (s.base + c.args.i)) (sym s.same) (next_behind s.base s.head c.args.i s.loads s.later c.requires.next)
