use Rattle.std.proofs.Common.{◌+◌, drop, get_or, sym, ◌∙◌, arith}
use Rattle.td_job.specs.declared.error.JobRule.TheVariants as rule
use Rattle.td_job.specs.declared.error.Path.TheVariants as path
use Rattle.td_job.specs.declared.error.JobError.TheVariants.{Fault}
use Rattle.td_job.specs.Fields.{IsFirst}
use Rattle.td_job.specs.Named.{each_number_faults}
use Rattle.td_job.specs.Slots.{slot_bounds}
use Rattle.td_job.proofs.NamedJobs.{number_at, past_numbers, past_slots, too_great, fits}
use Rattle.td_job.proofs.named.check_each_number.Goals as goal
use Rattle.td_job.proofs.named.check_each_number.Goals.{else-loop-index-test, then-loop-index-test+in_default}

pub returns-then-number-most-clause-err : goal.returns-then-number-most-clause-err
returns-then-number-most-clause-err c =
    let i = c.loop-index.index in
    let bounds = slot_bounds c.args.slots in
    let numbers = c.args.numbers.now in
    let most = c.in-Some.most in
    let more = each_number_faults c.args.key (i + 1) (drop (i + 1) bounds) (drop (i + 1) numbers) in
    let faults = c.loop-index.invariant ∙ number_at c.args.key i most bounds numbers c.loop-index-test.true (sym c.in-Some.ensures) in
    let first : IsFirst (each_number_faults c.args.key 0 bounds numbers) (Fault rule.Values (path.Element c.args.key i)) = rw faults (too_great (path.Element c.args.key i) most (get_or numbers i 0) more c.if-number-most.true) in
    rw c.at_element.ensures first

pub loop-index-preserved : goal.loop-index-preserved
loop-index-preserved c =
    let i = c.loop-index.index in
    let bounds = slot_bounds c.args.slots in
    let numbers = c.args.numbers.now in
    let most = c.in-Some.most in
    let more = each_number_faults c.args.key (i + 1) (drop (i + 1) bounds) (drop (i + 1) numbers) in
    c.loop-index.invariant
    ∙ number_at c.args.key i most bounds numbers c.loop-index-test.true (sym c.in-Some.ensures)
    ∙ fits (path.Element c.args.key i) most (get_or numbers i 0) more c.if-number-most.false

pub returns-clause-ok : goal.returns-clause-ok
returns-clause-ok c =
    let i = c.loop-index.index in
    let bounds = slot_bounds c.args.slots in
    let numbers = c.args.numbers.now in
    elim c.loop-index-test.branch [
      | else-loop-index-test w ↦ c.loop-index.invariant ∙ past_numbers c.args.key i (drop i bounds) numbers (omega (arith, w.loop-index-test.false))
      | then-loop-index-test+in_default w ↦ c.loop-index.invariant ∙ past_slots c.args.key i bounds numbers (sym w.in_default.ensures)
    ]
