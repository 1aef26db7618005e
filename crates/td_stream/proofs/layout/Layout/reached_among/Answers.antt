use Rattle.std.proofs.Common.{◌+◌, ◌<◌, ◌≤◌, length, arith}
use Rattle.td_stream.specs.Parts.{start_of}
use Rattle.td_stream.proofs.Layouts.{some_stretch}
use Rattle.td_stream.proofs.layout.Layout.reached_among.Goals as goal

pub stretches-init : goal.stretches-init
stretches-init c = record { part = c.part-part.ensures; inside = some_stretch c.args.self.now c.args.from c.args.pos c.requires.begun c.requires.within; begun = c.requires.begun }

next : (c : goal.In-stretches) → c.stretches.at + 1 < length c.args.self.now
next c = let e = c.stretches.invariant.part.end in some_stretch c.args.self.now (c.stretches.at + 1) c.args.pos (omega (arith, e, c.stretches-test.true)) c.requires.within

pub overflow_add-at : goal.overflow_add-at
overflow_add-at c = let n = next c in let few = c.stretches.invariant.part.few in omega (arith, n, few)

pub part-part-requires-in-stretches : goal.part-part-requires-in-stretches
part-part-requires-in-stretches c = next c

pub stretches-smaller : goal.stretches-smaller
stretches-smaller c = let i = c.stretches.invariant.inside in omega (arith, i)

pub stretches-preserved : goal.stretches-preserved
stretches-preserved c =
    let e = c.stretches.invariant.part.end in
    let begun : start_of c.args.self.now (c.stretches.at + 1) ≤ c.args.pos = omega (arith, e, c.stretches-test.true) in
    record { part = c.part-part-in-stretches.ensures; inside = some_stretch c.args.self.now (c.stretches.at + 1) c.args.pos begun c.requires.within; begun = begun }

pub returns-clause-inside : goal.returns-clause-inside
returns-clause-inside c = c.stretches.invariant.inside

pub returns-clause-begun : goal.returns-clause-begun
returns-clause-begun c = c.stretches.invariant.begun

pub returns-clause-ends : goal.returns-clause-ends
returns-clause-ends c = let e = c.stretches.invariant.part.end in omega (arith, e, c.stretches-test.false)
