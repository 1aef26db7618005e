use Rattle.td_report_facts.proofs.Jobs.{jobs_are_sized}
use Rattle.td_report_facts.proofs.laws.jobs_are_sized.Goals as goal

pub returns : goal.returns
returns c = jobs_are_sized c.writing_is_exact.ensures c.kinds_are_admitted.ensures
