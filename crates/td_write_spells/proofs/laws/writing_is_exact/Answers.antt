use Rattle.td_write_spells.proofs.Definitions.{writing_is_exact}
use Rattle.td_write_spells.proofs.laws.writing_is_exact.Goals as goal

pub returns : goal.returns
returns c = writing_is_exact
