use Rattle.std.proofs.Common.{subst}
use Rattle.std.specs.Prelude.{IfOk}
use Rattle.td_verify.specs.Findings.{IsRoomFor}
use Rattle.td_verify.proofs.verify.room_for_code.Goals as goal

pub returns : goal.returns
returns c = subst (λ p. IfOk c.room_for.result (λ room. IsRoomFor p room)) c.parts.ensures.same c.room_for.ensures
