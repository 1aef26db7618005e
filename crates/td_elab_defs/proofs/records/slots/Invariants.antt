use Rattle.std.proofs.Common.{◌≡◌, take, map}
use Rattle.td_elab_rules.specs.Records.{slot_of}
use Rattle.td_elab_defs.proofs.records.slots.Given as goal

abbrev pub invariant-loop-tree : goal.invariant-loop-tree
invariant-loop-tree l = l.slots ≡ map slot_of (take l.tree-index l.trees)
