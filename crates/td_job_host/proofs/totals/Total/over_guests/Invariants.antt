use Rattle.std.proofs.Common.{◌≡◌, ◌≤◌, ◌+◌, ◌-◌, ◌^◌}
use Rattle.std.specs.Prelude.{min}
use Rattle.td_job_host.proofs.Counting.{guests_from}
use Rattle.td_job_host.proofs.totals.Total.over_guests.Given as goal

-- what was counted so far, and the guests from here
abbrev pub invariant-loop-guest : goal.invariant-loop-guest
invariant-loop-guest l = record {
  same : min (l.sum + guests_from l.self l.guests l.guest-index) (2 ^ 64 - 1) ≡ min (guests_from l.self l.guests 0) (2 ^ 64 - 1);
  most : l.sum ≤ 2 ^ 64 - 1;
}
