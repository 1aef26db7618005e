use Rattle.td_write_spells.proofs.Rows.{rows_hold}
use Rattle.td_write_spells.proofs.laws.rows_hold.Goals as goal

pub returns : goal.returns
returns c = rows_hold
