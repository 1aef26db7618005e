use Rattle.std.proofs.Common.{◌≡◌, List, [], map, ap, ◌∙◌, subst}
use Rattle.std.specs.Prelude.{OnOk, IfErr}
use Rattle.serde_json.specs.View.{items_view}
use Rattle.td_job_host.specs.Imports.{Buffer, JobError}
use Rattle.td_job.specs.Fields.{IsFirst}
use Rattle.td_posts.specs.Servable.{room_in}
use Rattle.td_job_host.specs.declared.totals.Total.TheVariants.{Copies}
use Rattle.td_job_host.specs.Guests.{each_script}
use Rattle.td_job_host.specs.Rings.{each_ring}
use Rattle.td_job_host.specs.Totals.{total_fault}
use Rattle.td_job_host.proofs.CopyTotals.{same_fault}
use Rattle.td_job_host.proofs.copies.check_copies.Goals as goal

pub returns-clause-ok : goal.returns-clause-ok
returns-clause-ok c =
    let guests = each_script (items_view c.args.guests.now) in
    let rings = each_ring (items_view c.args.rings.now) in
    let room = room_in (map (λ (b : Buffer). b.room) c.args.buffers.now) in
    let same = ap (λ n. total_fault (Copies n) guests rings) c.room_of.ensures ∙ same_fault room guests rings in
    subst (λ (faults : List JobError). OnOk c.check.result (faults ≡ [])) same c.check.ensures.ok

pub returns-clause-err : goal.returns-clause-err
returns-clause-err c =
    let guests = each_script (items_view c.args.guests.now) in
    let rings = each_ring (items_view c.args.rings.now) in
    let room = room_in (map (λ (b : Buffer). b.room) c.args.buffers.now) in
    let same = ap (λ n. total_fault (Copies n) guests rings) c.room_of.ensures ∙ same_fault room guests rings in
    subst (λ (faults : List JobError). IfErr c.check.result (IsFirst faults)) same c.check.ensures.err
