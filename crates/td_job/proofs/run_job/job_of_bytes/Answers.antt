use Rattle.std.proofs.Common.{rules, ◌<◌, ℕ, None, sym, subst, arith}
use Rattle.std.specs.List.{All}
use Rattle.serde_json.specs.View.{view}
use Rattle.td_job.specs.Imports.{PlannedStore}
use Rattle.td_job.specs.declared.run_job.RunJob.{RunJob}
use Rattle.td_job.specs.Jobs.{from_bytes, IsJobWith}
use Rattle.td_job.proofs.Scattered.{has_room}
use Rattle.td_job.proofs.Tested.{none_unknown}
use Rattle.td_job.proofs.run_job.job_of_bytes.Goals as goal

pub returns-clause-room : goal.returns-clause-room
returns-clause-room c =
    let m = c.args.m.now in
    let job = view c.args.job.now in
    let tested = c.in_ok-tested.tested in
    let words = c.in_ok-words.words in
    let stores = c.in_ok-stores.stores in
    let j : RunJob = record { entry = tested.entry; args = c.in_ok-args.args; cells = c.in_ok-cells.cells; words = words; length = tested.length; layout = c.in_ok-layout.layout; stores = stores; written = None } in
    let faultless = none_unknown m job tested.entry c.in_ok-tested.ensures.begins c.in_ok-tested.ensures.ends c.in_ok-check_names.ensures.ok in
    let is : IsJobWith (from_bytes job) m job j = search (rules, faultless) in
    let inside = subst (λ (n : ℕ). All (λ (s : PlannedStore). s.word < n) stores) (sym c.in_ok-words.ensures.ok.count) c.in_ok-stores.ensures.inside in
    has_room m job j is (omega (arith, c.in_ok-words.ensures.ok.count)) inside
