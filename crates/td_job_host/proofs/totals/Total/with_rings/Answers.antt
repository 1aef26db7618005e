use Rattle.std.proofs.Common.{◌≡◌, ◌+◌, ◌-◌, ◌^◌, get_or, ap, ◌∙◌, arith}
use Rattle.std.specs.Prelude.{min}
use Rattle.serde_json.specs.View.{view}
use Rattle.serde_json.specs.declared.value.Value.{Value}
use Rattle.td_job_host.specs.Rings.{given_ring}
use Rattle.td_job_host.specs.Totals.{ring_weight}
use Rattle.td_job_host.proofs.Counting.{rings_from, one_ring, no_rings, one_part_more, at_end}
use Rattle.td_job_host.proofs.totals.Total.with_rings.Goals as goal

pub loop-ring-preserved : goal.loop-ring-preserved
loop-ring-preserved c =
    let what = c.args.self in
    let values = c.args.rings.now in
    let i = c.loop-ring.ring-index in
    let ring = c.ring-item.result in
    let one = ring_weight what (given_ring (view (get_or values i ring))) in
    let here : c.of_ring.result ≡ min one (2 ^ 64 - 1) = c.of_ring.ensures ∙ ap (λ (v : Value). min (ring_weight what (given_ring (view v))) (2 ^ 64 - 1)) c.ring-item.is in
    let rest = rings_from what values (i + 1) in
    record {
      same =
          one_part_more (2 ^ 64 - 1) c.loop-ring.sum _ c.of_ring.result one rest (rings_from what values i) c.saturating_add-sum.ensures here (one_ring what values i ring c.loop-ring-test.true)
          ∙ c.loop-ring.invariant.same;
      most = omega (arith, c.saturating_add-sum.ensures);
    }

pub returns : goal.returns
returns c =
    let what = c.args.self in
    let values = c.args.rings.now in
    let i = c.loop-ring.ring-index in
    let none = no_rings what values i (omega (arith, c.loop-ring-test.false)) in
    at_end (2 ^ 64 - 1) c.loop-ring.sum (rings_from what values i) c.loop-ring.invariant.most none ∙ c.loop-ring.invariant.same
