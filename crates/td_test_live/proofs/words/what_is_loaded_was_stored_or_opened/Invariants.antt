use Rattle.std.proofs.Common.{◌≡◌}
use Rattle.td_test_live.proofs.words.what_is_loaded_was_stored_or_opened.Given as goal

-- the host's seat stays at its table
abbrev pub invariant-loop-word : goal.invariant-loop-word
invariant-loop-word g l = l.host.table ≡ l.initial.host.table
