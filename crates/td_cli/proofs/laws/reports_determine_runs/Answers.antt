use Rattle.td_cli.proofs.Reports.{reports_determine_runs}
use Rattle.td_cli.proofs.laws.reports_determine_runs.Goals as goal

pub returns : goal.returns
returns c =
    reports_determine_runs
    (record {
      checked = c.modules_are_checked.ensures;
      sized = c.jobs_are_sized.ensures;
      words = c.modules_have_words.ensures;
      runs = c.runs_are_reportable.ensures;
      loads = c.loads_are_reportable.ensures;
      carry = c.some_message_carries.ensures;
      determine = c.reports_determine_outcomes.ensures;
      one = c.shown_loads_are_one.ensures;
    })
