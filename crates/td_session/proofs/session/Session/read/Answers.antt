use Rattle.std.proofs.Common.{inr}
use Rattle.td_session.proofs.session.Session.read.Goals as goal

pub returns-in-Err-clause-memory : goal.returns-in-Err-clause-memory
returns-in-Err-clause-memory c = λ h. inr (c.in_ok-code.code, c.in_ok-code.ensures.found)
