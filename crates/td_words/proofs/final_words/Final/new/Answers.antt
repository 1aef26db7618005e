use Rattle.std.proofs.Common.{arith, length-drop}
use Rattle.std.specs.Slots.{slots_items, slots_counts}
use Rattle.td_words.proofs.final_words.Final.new.Goals as goal

pub returns-clause-count : goal.returns-clause-count
returns-clause-count c = let k = (slots_counts c.args.closed.words).0 in omega (arith, length-drop 1 (slots_items c.args.closed.words))
