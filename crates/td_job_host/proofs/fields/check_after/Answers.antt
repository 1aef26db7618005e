use Rattle.std.proofs.Common.{◌≡◌, List, [], ◌++◌, map, Option, option_map, Result, Ok, Err, OnOk, IfErr, Bor, ◌⊎◌, inr, sym, ap, ◌∙◌, subst}
use Rattle.serde_json.specs.View.{view, items_view}
use Rattle.td_job_host.specs.Imports.{Buffer, TypeDef, JobError, NoMemory}
use Rattle.td_job.specs.Fields.{IsFirst}
use Rattle.td_posts.specs.Servable.{room_in}
use Rattle.td_job_host.specs.Guests.{given_guests, each_script}
use Rattle.td_job_host.specs.Rings.{given_rings, each_ring}
use Rattle.td_job_host.specs.Totals.{totals_faults}
use Rattle.td_job_host.specs.HostJobs.{rooms_in, after_faults}
use Rattle.td_job_host.proofs.fields.check_after.Goals as goal

first_or_memory : {T : Type 0} (r : Result T JobError) (faults : List JobError) → IfErr r (IsFirst faults) → IfErr r (λ e. (e ≡ NoMemory) ⊎ IsFirst faults e)
first_or_memory (Ok x) faults h = tt
first_or_memory (Err e) faults h = inr h

pub returns-clause-ok : goal.returns-clause-ok
returns-clause-ok c =
    let job = view c.args.job.now in
    let d : Option TypeDef = option_map (λ (x : Bor TypeDef). x.now) c.args.definition in
    let rooms : rooms_in d ≡ map (λ (b : Buffer). b.room) c.buffers_in.result.now = ap (map (λ (b : Buffer). b.room)) (sym c.buffers_in.ensures) in
    let same : after_faults d job ≡ totals_faults (room_in (map (λ (b : Buffer). b.room) c.buffers_in.result.now)) (each_script (items_view c.spelled_guests.result.now)) (each_ring (items_view c.spelled_rings.result.now)) =
    ap (λ (names : List JobError). names ++ totals_faults (room_in (rooms_in d)) (given_guests job) (given_rings job)) c.in_ok-check_names.ensures.ok
    ∙ (λ k. totals_faults (room_in (rooms k)) (c.spelled_guests.ensures k) (c.spelled_rings.ensures k)) in
    subst (λ (faults : List JobError). OnOk c.check_totals.result (faults ≡ [])) (sym same) c.check_totals.ensures.ok

pub returns-clause-err : goal.returns-clause-err
returns-clause-err c =
    let job = view c.args.job.now in
    let d : Option TypeDef = option_map (λ (x : Bor TypeDef). x.now) c.args.definition in
    let rooms : rooms_in d ≡ map (λ (b : Buffer). b.room) c.buffers_in.result.now = ap (map (λ (b : Buffer). b.room)) (sym c.buffers_in.ensures) in
    let same : after_faults d job ≡ totals_faults (room_in (map (λ (b : Buffer). b.room) c.buffers_in.result.now)) (each_script (items_view c.spelled_guests.result.now)) (each_ring (items_view c.spelled_rings.result.now)) =
    ap (λ (names : List JobError). names ++ totals_faults (room_in (rooms_in d)) (given_guests job) (given_rings job)) c.in_ok-check_names.ensures.ok
    ∙ (λ k. totals_faults (room_in (rooms k)) (c.spelled_guests.ensures k) (c.spelled_rings.ensures k)) in
    subst (λ (faults : List JobError). IfErr c.check_totals.result (λ e. (e ≡ NoMemory) ⊎ IsFirst faults e)) (sym same)
    (first_or_memory c.check_totals.result _ c.check_totals.ensures.err)
