use Rattle.td_prog_emit.proofs.sets.push_member.Goals as goal
use Rattle.std.proofs.Common.{ℕ, List, ap}
use Rattle.td_prog_emit.proofs.Texts.{recut}
use Rattle.td_prog_emit.specs.Written.{member_pieces}
use Rattle.td_prog_text.specs.Expressions.{text}

pub returns : goal.returns
returns c n whole = recut c.push_switch.ensures (ap (λ (l : List ℕ). text (member_pieces c.args.depth c.args.into c.args.source l)) c.set_at.ensures)
