use Rattle.std.proofs.Common.{subst, sym}
use Rattle.std.specs.Prelude.{OnOk, IfErr}
use Rattle.td_verify.specs.Verify.{IsSound, IsFirst}
use Rattle.td_verify.specs.Findings.{IsDivided, IsRoomFor}
use Rattle.td_verify.proofs.Loops.{divided}
use Rattle.td_verify.proofs.verify.inspect_code.Goals as goal

pub inspect-requires-clause-divided : goal.inspect-requires-clause-divided
inspect-requires-clause-divided c = subst IsDivided (sym c.parts.ensures.same) (divided c.args.code.now c.parts.ensures.fits)

pub inspect-requires-clause-room : goal.inspect-requires-clause-room
inspect-requires-clause-room c = subst (λ p. IsRoomFor p c.args.room) (sym c.parts.ensures.same) c.requires

pub returns-clause-sound : goal.returns-clause-sound
returns-clause-sound c = subst (λ p. OnOk c.inspect.result (IsSound p)) c.parts.ensures.same c.inspect.ensures.sound

pub returns-clause-breach : goal.returns-clause-breach
returns-clause-breach c = subst (λ p. IfErr c.inspect.result (λ e. IsFirst p e.rule e.at)) c.parts.ensures.same c.inspect.ensures.breach
