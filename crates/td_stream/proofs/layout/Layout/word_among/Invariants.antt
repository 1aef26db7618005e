use Rattle.std.proofs.Common.{length, ◌-◌, ◌<◌, ◌≤◌}
use Rattle.td_stream.specs.Parts.{IsPart, first_of}
use Rattle.td_stream.proofs.layout.Layout.word_among.Given as goal

abbrev pub invariant-stretches : goal.invariant-stretches
invariant-stretches l = record {
  part : IsPart l.self l.k l.part;
  inside : l.k < length l.self;
  begun : first_of l.self l.k ≤ l.number;
}

abbrev pub decreases-stretches : goal.decreases-stretches
decreases-stretches l = length l.self - l.k
