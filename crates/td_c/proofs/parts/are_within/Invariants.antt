use Rattle.std.proofs.Common.{ℕ, ◌+◌, ◌*◌, ◌<◌, ◌≤◌, get_or}
use Rattle.td_c.proofs.parts.are_within.Given as goal

abbrev pub invariant-loop-stretch : goal.invariant-loop-stretch
invariant-loop-stretch l = (k : ℕ) → k < l.stretch-index
    → (get_or l.stretches k (record { place = 0; size = 0 })).place + (get_or l.stretches k (record { place = 0; size = 0 })).size ≤ 8 * l.count
