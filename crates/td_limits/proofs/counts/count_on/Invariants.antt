use Rattle.std.proofs.Common.{◌≡◌, ◌≤◌, ◌++◌, List, drop}
use Rattle.td_limits.specs.Imports.{Def}
use Rattle.td_limits.specs.Excesses.{first_excess}
use Rattle.td_limits.specs.Counts.{count_excesses}
use Rattle.td_limits.proofs.counts.count_on.Given as goal

-- what is left of the definitions decides, and no limit is passed so far
abbrev pub invariant-loop-definition : goal.invariant-loop-definition
invariant-loop-definition l = record {
  rest : (more : List Def) → first_excess (count_excesses l.count l.nodes (drop l.definition-index l.definitions ++ more)) ≡ first_excess (count_excesses l.fn.before.definitions l.fn.before.nodes (l.definitions ++ more));
  count : l.count ≤ 4000;
  nodes : l.nodes ≤ 60000;
}
