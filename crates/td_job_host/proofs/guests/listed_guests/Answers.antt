use Rattle.std.proofs.Common.{sym, ap, ◌∙◌}
use Rattle.td_job_host.specs.Guests.{guests_faults, listed_scripts}
use Rattle.td_job_host.proofs.Elements.{too_many, few_enough}
use Rattle.td_job_host.proofs.guests.listed_guests.Goals as goal

pub returns-then-is_past_limit-clause-err : goal.returns-then-is_past_limit-clause-err
returns-then-is_past_limit-clause-err c = λ words.
    let first = too_many words c.in-Some.values.now (sym c.is_past_limit.ensures ∙ c.if-is_past_limit.true) in
    rw (← c.in-Some.ensures, c.at-then-is_past_limit.ensures) first

pub returns-else-is_past_limit-clause-ok : goal.returns-else-is_past_limit-clause-ok
returns-else-is_past_limit-clause-ok c = (
  λ words. sym (ap (guests_faults words) c.in-Some.ensures) ∙ few_enough words c.in-Some.values.now (sym c.is_past_limit.ensures ∙ c.if-is_past_limit.false),
  sym (ap listed_scripts c.in-Some.ensures),
)
