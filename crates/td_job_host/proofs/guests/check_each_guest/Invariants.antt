use Rattle.std.proofs.Common.{◌≡◌, drop}
use Rattle.serde_json.specs.View.{items_view}
use Rattle.td_job_host.specs.Guests.{each_guest_faults}
use Rattle.td_job_host.proofs.guests.check_each_guest.Given as goal

-- what is left of the guests, from here, decides
abbrev pub invariant-loop-guest : goal.invariant-loop-guest
invariant-loop-guest l = each_guest_faults l.words 0 (items_view l.values) ≡ each_guest_faults l.words l.guest (items_view (drop l.guest l.values))
