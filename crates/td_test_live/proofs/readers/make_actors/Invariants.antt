use Rattle.std.proofs.Common.{◌≡◌}
use Rattle.td_test_live.proofs.readers.make_actors.Given as goal

-- the host's seat stays at its table
abbrev pub invariant-loop-number : goal.invariant-loop-number
invariant-loop-number l = l.host.table ≡ l.initial.host.table

abbrev pub invariant-loop-number-2 : goal.invariant-loop-number-2
invariant-loop-number-2 l = l.host.table ≡ l.initial.host.table
