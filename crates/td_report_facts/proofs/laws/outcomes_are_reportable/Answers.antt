use Rattle.td_report_facts.proofs.Runs.{outcomes_are_reportable}
use Rattle.td_report_facts.proofs.laws.outcomes_are_reportable.Goals as goal

pub returns : goal.returns
returns c = outcomes_are_reportable c.evaluated_is_sound.ensures c.endings_are_within.ensures c.frames_are_named.ensures c.rejections_are_framed.ensures
