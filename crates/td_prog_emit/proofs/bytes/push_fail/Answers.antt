use Rattle.td_prog_emit.proofs.bytes.push_fail.Goals as goal
use Rattle.std.proofs.Common.{[], codes, ap}
use Rattle.td_core.specs.declared.outcome.Reason.{Reason}
use Rattle.td_prog_emit.proofs.Texts.{recut}
use Rattle.td_prog_emit.specs.Written.{failed}
use Rattle.td_prog_text.specs.Expressions.{text}

pub returns : goal.returns
returns c n whole = recut c.push_failure.ensures (ap (λ (r : Reason). text (failed c.args.parts.now c.args.depth r (codes "start") c.args.site [])) c.reason_by.ensures)
