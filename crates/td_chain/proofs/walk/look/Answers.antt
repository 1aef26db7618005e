use Rattle.std.proofs.Common.{◌+◌, ◌*◌, arith}
use Rattle.td_chain.specs.Places.{IsOpen, Touches}
use Rattle.td_chain.proofs.Growing.{looked_weaker}
use Rattle.td_chain.proofs.walk.look.Goals as goal

pub returns-clause-looked : goal.returns-clause-looked
returns-clause-looked g c =
    let at = c.args.at in
    let entry = c.requires.at.entry in
    looked_weaker g.W.Memory.loads g.W.Memory.reaches (Touches (at.table + 16 * at.index) 16) (IsOpen c.args.queue.now c.args.regions.now) 4
    c.args.words.now c.load_descriptor-d.new.words c.args.loads.now c.load_descriptor-d.new.loads
    (λ i t. let low = t.0 in let high = t.1 in c.requires.at.table i (omega (arith, low), omega (arith, high, entry)))
    c.load_descriptor-d.ensures.looked
