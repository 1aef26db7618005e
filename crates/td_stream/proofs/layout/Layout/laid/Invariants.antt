use Rattle.std.proofs.Common.{length, ◌≡◌, ◌-◌, ◌≤◌}
use Rattle.std.specs.Prelude.{map, take, vec_capacity}
use Rattle.td_stream.specs.Parts.{stretch_of, AreLaid, start_of, first_of}
use Rattle.td_stream.proofs.layout.Layout.laid.Given as goal

abbrev pub invariant-stretches : goal.invariant-stretches
invariant-stretches l = record {
  reached : l.i ≤ length l.stretches;
  laid : AreLaid 0 0 l.parts.items;
  same : map stretch_of l.parts.items ≡ take l.i l.stretches;
  start : l.start ≡ start_of l.stretches l.i;
  first : l.first ≡ first_of l.stretches l.i;
  room : length l.stretches ≤ vec_capacity l.parts;
  made : length l.parts.items ≡ l.i;
}

abbrev pub decreases-stretches : goal.decreases-stretches
decreases-stretches l = length l.stretches - l.i
