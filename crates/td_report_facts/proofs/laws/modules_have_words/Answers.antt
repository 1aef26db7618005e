use Rattle.td_report_facts.proofs.Runs.{modules_have_words}
use Rattle.td_report_facts.proofs.laws.modules_have_words.Goals as goal

pub returns : goal.returns
returns c = modules_have_words
