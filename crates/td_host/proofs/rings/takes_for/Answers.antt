use Rattle.std.proofs.Common.{◌+◌, ◌≤◌, List, vec_capacity, refl, subst}
use Rattle.std.specs.Prelude.{slice_index_or, IfOk}
use Rattle.td_posts.specs.declared.ring.RingJob.{RingJob}
use Rattle.td_host.proofs.Takers.{counts_none, counts_one, counts_all}
use Rattle.td_host.proofs.rings.takes_for.Goals as goal

pub loop-ring-init : goal.loop-ring-init
loop-ring-init c = counts_none c.args.rings.now

pub loop-ring-preserved : goal.loop-ring-preserved
loop-ring-preserved c =
    let rings : List RingJob = c.args.rings.now in
    let l = c.loop-ring in
    let d : RingJob = record { base = 0; entries = 0; most = 0; takes = 0 } in
    let lt = c.loop-ring-test.true in
    counts_one rings l.ring-index l.count (slice_index_or rings l.ring-index d) d (l.count + (slice_index_or rings l.ring-index d).takes) l.invariant lt refl (c.requires.short l.ring-index d lt) refl

pub returns-clause-room : goal.returns-clause-room
returns-clause-room c =
    let l = c.loop-ring in
    let all = counts_all c.args.rings.now l.ring-index l.count l.invariant c.loop-ring-test.false in
    subst (λ n. IfOk c.with_capacity.result (λ takes. n ≤ vec_capacity takes)) all c.with_capacity.ensures.capacity
