use Rattle.td_report_facts.proofs.Words.{numbered}
use Rattle.td_try_bodies.proofs.answer.answer_job.Goals as goal

pub report_line-requires : goal.report_line-requires
report_line-requires c = numbered c.args.job.now.length c.args.job.now.layout c.in_ok-run.run'.loads.list c.in_ok-run.ensures.inside
