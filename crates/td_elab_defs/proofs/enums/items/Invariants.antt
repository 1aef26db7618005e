use Rattle.std.proofs.Common.{◌≡◌, [], ◌++◌, drop, Some}
use Rattle.td_elab_rules.specs.Breach.{first_of}
use Rattle.td_elab_rules.specs.Enums.{items_breaches, items_after, item_values}
use Rattle.td_elab_defs.proofs.enums.items.Given as goal

-- what is left of the items decides
abbrev pub invariant-loop-tree : goal.invariant-loop-tree
invariant-loop-tree l =
    let rest = drop l.tree-index l.trees in
    record {
      values : l.numbers ++ item_values l.known l.next rest ≡ item_values l.fn.known (Some 0) l.trees;
      first : first_of l.findings.first (items_breaches l.known l.base l.before l.next rest) ≡ first_of l.fn.findings.first (items_breaches l.fn.known l.base [] (Some 0) l.trees);
      known : items_after l.known l.next rest ≡ items_after l.fn.known (Some 0) l.trees;
    }
