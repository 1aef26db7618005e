use Rattle.std.proofs.Common.{◌≡◌, [], drop}
use Rattle.td_elab_rules.specs.Breach.{first_of}
use Rattle.td_elab_rules.specs.Records.{slots_breaches}
use Rattle.td_elab_defs.proofs.records.check_slots.Given as goal

-- what is left of the slots decides
abbrev pub invariant-loop-tree : goal.invariant-loop-tree
invariant-loop-tree l = first_of l.findings.first (slots_breaches l.known l.taken (drop l.tree-index l.trees)) ≡ first_of l.fn.findings.first (slots_breaches l.known [] l.trees)
