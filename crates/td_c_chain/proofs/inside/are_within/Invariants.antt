use Rattle.std.proofs.Common.{ℕ, ◌+◌, ◌-◌, ◌<◌, ◌≤◌, get_or}
use Rattle.td_c_chain.proofs.inside.are_within.Given as goal

-- the regions passed end within
abbrev pub invariant-loop-r : goal.invariant-loop-r
invariant-loop-r l = (k : ℕ) → k < l.r-index
    → (let r = get_or l.regions k (record { from = 0; until = 0; place = 0 }) in r.place + (r.until - r.from) ≤ l.bytes)
