use Rattle.std.proofs.Common.{ℕ, ◌+◌, ◌-◌, ◌<◌, ◌≤◌, length, arith, sym, ap}
use Rattle.td_stream.specs.Parts.{first_of}
use Rattle.td_stream.proofs.Layouts.{some_word, part_pair, words_last}
use Rattle.td_stream.proofs.layout.Layout.word_among.Goals as goal

pub stretches-init : goal.stretches-init
stretches-init c = record { part = c.part-part.ensures; inside = c.nearest-k.ensures.inside; begun = c.nearest-k.ensures.begun }

next : (c : goal.In-stretches) → c.stretches.k + 1 < length c.args.self.now
next c = let e = c.stretches.invariant.part.after in some_word c.args.self.now (c.stretches.k + 1) c.args.number (omega (arith, e, c.stretches-test.true)) c.requires

pub overflow_add-k : goal.overflow_add-k
overflow_add-k c = let n = next c in let few = c.stretches.invariant.part.few in omega (arith, n, few)

pub part-part-requires-in-stretches : goal.part-part-requires-in-stretches
part-part-requires-in-stretches c = next c

pub stretches-smaller : goal.stretches-smaller
stretches-smaller c = let i = c.stretches.invariant.inside in omega (arith, i)

pub stretches-preserved : goal.stretches-preserved
stretches-preserved c =
    let e = c.stretches.invariant.part.after in
    let begun : first_of c.args.self.now (c.stretches.k + 1) ≤ c.args.number = omega (arith, e, c.stretches-test.true) in
    record { part = c.part-part-in-stretches.ensures; inside = some_word c.args.self.now (c.stretches.k + 1) c.args.number begun c.requires; begun = begun }

pub overflow_cast-result : goal.overflow_cast-result
overflow_cast-result c = let i = c.stretches.invariant in let few = i.part.few in omega (arith, few, i.inside)

pub overflow_sub-result : goal.overflow_sub-result
overflow_sub-result c = let f = c.stretches.invariant.part.first in omega (arith, f, c.stretches.invariant.begun)

pub overflow_add-result : goal.overflow_add-result
overflow_add-result c =
    let p = c.stretches.invariant.part in
    let first = p.first in
    let words = p.sound.words in
    let last = words_last c.stretches.part p.sound (c.args.number - c.stretches.part.first) (omega (arith, first, words, c.stretches.invariant.begun, c.stretches-test.false)) in
    omega (arith, last)

pub returns-clause-stretch : goal.returns-clause-stretch
returns-clause-stretch c =
    let i = c.stretches.invariant in
    ap (λ (x : ℕ × ℕ). x.0) (sym (part_pair c.args.self.now c.stretches.k c.stretches.part c.args.number i.part i.inside i.begun (omega (arith, c.stretches-test.false))))

pub returns-clause-word : goal.returns-clause-word
returns-clause-word c =
    let i = c.stretches.invariant in
    ap (λ (x : ℕ × ℕ). x.1) (sym (part_pair c.args.self.now c.stretches.k c.stretches.part c.args.number i.part i.inside i.begun (omega (arith, c.stretches-test.false))))
