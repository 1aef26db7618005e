use Rattle.td_write_fits.proofs.Ranged.{writing_is_in_range}
use Rattle.td_write_fits.proofs.laws.writing_is_in_range.Goals as goal

pub returns : goal.returns
returns c = writing_is_in_range
