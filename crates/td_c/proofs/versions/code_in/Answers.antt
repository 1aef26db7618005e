use Rattle.std.proofs.Common.{inr}
use Rattle.td_c.proofs.versions.code_in.Goals as goal

pub returns-in-Ok-clause-room : goal.returns-in-Ok-clause-room
returns-in-Ok-clause-room c = inr (c.in-Ok.code, c.in-Ok.ensures.found)
