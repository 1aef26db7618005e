use Rattle.std.proofs.Common.{◌≡◌, ◌++◌, drop, flat_map}
use Rattle.td_front_flat.specs.Flat.{flat_in}
use Rattle.td_front_flat.proofs.flatten.definitions.Given as goal

abbrev pub invariant-loop-number : goal.invariant-loop-number
invariant-loop-number l = record {
  whole : l.whole ++ flat_map (flat_in l.fn.names l.parts) (drop l.number-index l.numbers) ≡ flat_map (flat_in l.fn.names l.parts) l.numbers;
  parts : l.own.parts ≡ l.fn.names;
}
