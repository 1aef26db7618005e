use Rattle.td_write_accepted.proofs.Accepting.{written_is_accepted}
use Rattle.td_write_accepted.proofs.laws.written_is_accepted.Goals as goal

pub returns : goal.returns
returns c = written_is_accepted c.spelled_are_bytes.ensures
