use Rattle.std.proofs.Common.{subst}
use Rattle.td_verify.specs.Verify.{IsSound}
use Rattle.td_verify.proofs.verify.Verified.code.Goals as goal

pub returns-clause-sound : goal.returns-clause-sound
returns-clause-sound c = subst IsSound c.self.view_is c.self.invariant
