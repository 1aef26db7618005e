use Rattle.std.proofs.Common.{◌≡◌, drop}
use Rattle.td_elab_rules.specs.Known.{nothing_known}
use Rattle.td_elab_defs.specs.Slots.{record_parts}
use Rattle.td_elab_rules.specs.Definitions.{known_after}
use Rattle.td_elab.specs.Firsts.{breaches_each, first_among}
use Rattle.td_elab.proofs.definitions.definitions.Given as goal

-- what is left of the definitions decides
abbrev pub invariant-loop-tree : goal.invariant-loop-tree
invariant-loop-tree l =
    let rest = drop l.tree-index l.trees in
    record {
      slots : l.slots ≡ record_parts l.names l.known;
      known : known_after l.names l.known rest ≡ known_after l.names nothing_known l.trees;
      first : first_among l.findings.first (breaches_each l.names l.known rest) ≡ first_among l.fn.findings.first (breaches_each l.names nothing_known l.trees);
    }
