use Rattle.td_write_spells.proofs.Small.{spelled_are_bytes}
use Rattle.td_write_spells.proofs.laws.spelled_are_bytes.Goals as goal

pub returns : goal.returns
returns c = spelled_are_bytes
