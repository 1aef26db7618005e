use Rattle.td_write_spells.proofs.Admitted.{kinds_are_admitted}
use Rattle.td_write_spells.proofs.laws.kinds_are_admitted.Goals as goal

pub returns : goal.returns
returns c = kinds_are_admitted
