use Rattle.std.proofs.Common.{◌≡◌, drop}
use Rattle.td_elab_rules.specs.Definitions.{with_names}
use Rattle.td_elab.proofs.definitions.see_names.Given as goal

abbrev pub invariant-loop-text : goal.invariant-loop-text
invariant-loop-text l = with_names l.names (drop l.text-index l.text-items) ≡ with_names l.fn.names l.given
