use Rattle.std.proofs.Common.{◌≡◌, ◌++◌, List, drop}
use Rattle.td_limits.specs.Imports.{Def}
use Rattle.td_limits.specs.Excesses.{first_excess}
use Rattle.td_limits.specs.Counts.{AreWithin, count_excesses, definitions_in}
use Rattle.td_limits.proofs.counts.counts_passed_in.Given as goal

-- what is left of the parts decides, and no limit is passed so far
abbrev pub invariant-loop-part : goal.invariant-loop-part
invariant-loop-part l = record {
  rest : first_excess (count_excesses l.so_far.definitions l.so_far.nodes (definitions_in (drop l.part-index l.parts))) ≡ first_excess (count_excesses 0 0 (definitions_in l.parts));
  within : AreWithin l.so_far.definitions l.so_far.nodes;
}
