use Rattle.std.proofs.Common.{rules, ◌≡◌, ◌⊎◌, ◌≤◌, ◌<◌, ℕ, length, Some, None, sym, subst, arith}
use Rattle.std.specs.List.{All}
use Rattle.serde_json.specs.View.{view}
use Rattle.td_job.specs.Imports.{PlannedStore}
use Rattle.td_job.specs.declared.error.JobError.TheVariants.{NoMemory}
use Rattle.td_job.specs.declared.run_job.RunJob.{RunJob}
use Rattle.td_job.specs.Jobs.{FirstFaultBy, faults_by}
use Rattle.td_job.specs.Stretches.{words_with}
use Rattle.td_job.specs.Words.{IsFilled}
use Rattle.td_job.proofs.Scattered.{written_room}
use Rattle.td_job.proofs.Writing.{rest_first, finished}
use Rattle.td_job.proofs.valued.job_of_value.Goals as goal

pub returns-in_err-stores-clause-err : goal.returns-in_err-stores-clause-err
returns-in_err-stores-clause-err c =
    let s = c.in_ok-started.started in
    let e = c.in_err-stores.field-0.0 in
    let long : length c.as_slice-bytes.result.now ≡ length s.bytes = search rules in
    let count : c.div_ceil-count.result ≡ words_with (length s.bytes) = omega (arith, c.div_ceil-count.ensures, long) in
    let first : (e ≡ NoMemory) ⊎ FirstFaultBy (faults_by (Some (view c.args.value.now))) c.args.m.now (view c.args.job.now) e =
    rest_first c.args.m.now (view c.args.job.now) (view c.args.value.now) s.entry s.args s.cells s.bytes c.in_ok-started.ensures.ok c.div_ceil-count.result count e c.in_err-stores.ensures.err in
    search (rules, first)

pub returns-clause-ok : goal.returns-clause-ok
returns-clause-ok c =
    let s = c.in_ok-started.started in
    let long : length c.as_slice-bytes.result.now ≡ length s.bytes = search rules in
    let count : c.div_ceil-count.result ≡ words_with (length s.bytes) = omega (arith, c.div_ceil-count.ensures, long) in
    let filled : IsFilled s.bytes c.div_ceil-count.result c.in_ok-words.words = search rules in
    finished c.args.m.now (view c.args.job.now) (view c.args.value.now) s.entry s.args s.cells s.bytes c.in_ok-started.ensures.ok
    c.in_ok-words.words c.in_ok-stores.stores (length c.as_slice-bytes.result.now) c.div_ceil-count.result long c.in_ok-stores.ensures.ok count filled c.in_ok-stores.ensures.faultless

pub returns-clause-room : goal.returns-clause-room
returns-clause-room c =
    let s = c.in_ok-started.started in
    let long : length c.as_slice-bytes.result.now ≡ length s.bytes = search rules in
    let filled : IsFilled s.bytes c.div_ceil-count.result c.in_ok-words.words = search rules in
    let stores = c.in_ok-stores.stores in
    let j : RunJob = record { entry = s.entry; args = s.args; cells = s.cells; words = c.in_ok-words.words; length = (length c.as_slice-bytes.result.now); layout = None; stores = stores; written = Some s.bytes } in
    written_room c.args.m.now (view c.args.job.now) (view c.args.value.now) j (returns-clause-ok c) (omega (arith, long, c.in_ok-started.ensures.ok.written.short))
    (subst (λ (n : ℕ). All (λ (s : PlannedStore). s.word < n) stores) (sym filled.count) c.in_ok-stores.ensures.inside)
