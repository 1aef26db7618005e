use Rattle.std.proofs.Common.{◌≡◌, drop}
use Rattle.td_elab_rules.specs.Records.{with_slots}
use Rattle.td_elab_defs.proofs.records.see_slots.Given as goal

abbrev pub invariant-loop-tree : goal.invariant-loop-tree
invariant-loop-tree l = with_slots l.names (drop l.tree-index l.trees) ≡ with_slots l.fn.names l.trees
