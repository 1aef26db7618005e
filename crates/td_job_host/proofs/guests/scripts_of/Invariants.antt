use Rattle.std.proofs.Common.{◌≡◌, ◌++◌, drop}
use Rattle.serde_json.specs.View.{items_view}
use Rattle.td_job_host.specs.Guests.{each_script, each_guest_faults}
use Rattle.td_job_host.proofs.guests.scripts_of.Given as goal

-- what is left of the guests, from here, decides
abbrev pub invariant-loop-guest : goal.invariant-loop-guest
invariant-loop-guest l =
    let rest = items_view (drop l.guest l.values) in
    record {
      faults : each_guest_faults l.words 0 (items_view l.values) ≡ each_guest_faults l.words l.guest rest;
      made : each_script (items_view l.values) ≡ l.scripts ++ each_script rest;
    }
