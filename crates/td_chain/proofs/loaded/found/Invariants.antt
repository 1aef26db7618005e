use Rattle.std.proofs.Common.{◌≡◌, drop}
use Rattle.td_chain.specs.Loaded.{value_in}
use Rattle.td_chain.proofs.loaded.found.Given as goal

-- it isn't among the loads passed
abbrev pub invariant-loop-l : goal.invariant-loop-l
invariant-loop-l l = value_in l.i l.loads ≡ value_in l.i (drop l.l-index l.loads)
