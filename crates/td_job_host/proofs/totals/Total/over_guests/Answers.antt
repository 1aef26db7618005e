use Rattle.std.proofs.Common.{◌+◌, ◌-◌, ◌^◌, get_or, ap, ◌∙◌, arith}
use Rattle.std.specs.List.{sum_by}
use Rattle.std.specs.Prelude.{min}
use Rattle.serde_json.specs.View.{view}
use Rattle.serde_json.specs.declared.value.Value.{Value}
use Rattle.td_job_host.specs.Guests.{given_script}
use Rattle.td_job_host.specs.Totals.{weight}
use Rattle.td_job_host.proofs.Counting.{guests_from, one_guest, no_guests, one_more, at_end}
use Rattle.td_job_host.proofs.totals.Total.over_guests.Goals as goal

pub loop-guest-preserved : goal.loop-guest-preserved
loop-guest-preserved c =
    let what = c.args.self in
    let values = c.args.guests.now in
    let i = c.loop-guest.guest-index in
    let guest = c.guest-item.result in
    let one = sum_by (weight what) (given_script (view (get_or values i guest))) in
    let added = c.with_script-sum.ensures ∙ ap (λ (v : Value). min (c.loop-guest.sum + sum_by (weight what) (given_script (view v))) (2 ^ 64 - 1)) c.guest-item.is in
    record {
      same = one_more (2 ^ 64 - 1) c.loop-guest.sum _ one (guests_from what values (i + 1)) (guests_from what values i) added (one_guest what values i guest c.loop-guest-test.true) ∙ c.loop-guest.invariant.same;
      most = omega (arith, added);
    }

pub returns : goal.returns
returns c =
    let what = c.args.self in
    let values = c.args.guests.now in
    let i = c.loop-guest.guest-index in
    let none = no_guests what values i (omega (arith, c.loop-guest-test.false)) in
    at_end (2 ^ 64 - 1) c.loop-guest.sum (guests_from what values i) c.loop-guest.invariant.most none ∙ c.loop-guest.invariant.same
