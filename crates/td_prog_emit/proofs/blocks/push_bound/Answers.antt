use Rattle.td_prog_emit.proofs.blocks.push_bound.Goals as goal
use Rattle.std.proofs.Common.{ap, sym}
use Rattle.td_prog_emit.proofs.Texts.{recut}
use Rattle.td_prog_emit.specs.Labels.{bound}
use Rattle.td_prog_text.specs.Expressions.{text}
use Rattle.td_verify.specs.declared.shape.Shape.{Shape}

pub returns-in-While : goal.returns-in-While
returns-in-While c = recut c.push_line.ensures (ap (λ (z : Shape). text (bound z)) (sym c.in-While.is))

pub returns-in-Again : goal.returns-in-Again
returns-in-Again c = recut c.push_close.ensures (ap (λ (z : Shape). text (bound z)) (sym c.in-Again.is))
