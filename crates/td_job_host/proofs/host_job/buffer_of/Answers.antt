use Rattle.std.proofs.Common.{rules, ◌≡◌, ℕ, length, sym, ap, subst, ◌∙◌, arith}
use Rattle.td_job_host.specs.Imports.{NoMemory}
use Rattle.td_job.specs.Words.{IsFilled}
use Rattle.td_job.proofs.Tested.{memory_alone}
use Rattle.td_job_host.proofs.host_job.buffer_of.Goals as goal

pub returns-in_err-bytes-clause-err : goal.returns-in_err-bytes-clause-err
returns-in_err-bytes-clause-err c =
    let memory : c.in_err-bytes.field-0.0 ≡ NoMemory = memory_alone _ _ c.requires.faultless c.in_err-bytes.ensures.err in
    search (rules, memory)

pub fill_words-requires : goal.fill_words-requires
fill_words-requires c =
    let given = ap (length {A = ℕ}) c.in_ok-bytes.ensures.ok.1 in
    let slice = ap (length {A = ℕ}) c.as_slice.ensures.value in
    omega (arith, given, slice, c.requires.words)

pub returns-clause-ok : goal.returns-clause-ok
returns-clause-ok c =
    subst (λ bs. IsFilled bs c.args.words c.in_ok-filled.filled) (c.as_slice.ensures.value ∙ sym c.in_ok-bytes.ensures.ok.1) c.in_ok-filled.ensures.ok
