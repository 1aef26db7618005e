use Rattle.td_test_rows.proofs.Worked.{are_worked}
use Rattle.td_test_rows.proofs.worked_texts_are_right.Goals as goal

pub returns : goal.returns
returns c = are_worked
