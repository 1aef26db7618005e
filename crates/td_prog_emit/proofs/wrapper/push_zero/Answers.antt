use Rattle.std.proofs.Common.{ℕ, ◌+◌, ◌*◌, [], ◌∷◌, codes, ap}
use Rattle.td_prog_emit.proofs.Texts.{joined, recut}
use Rattle.td_prog_text.specs.Entries.{comma}
use Rattle.td_prog_text.specs.Expressions.{text}
use Rattle.td_prog_emit.proofs.wrapper.push_zero.Goals as goal

pub returns : goal.returns
returns c name =
    recut (joined (c.in_ok-push_comma.ensures {u = tt}) c.push.ensures)
    (ap (λ (n : ℕ). text (comma (n + 2 * c.args.k) ∷ codes "0, 0" ∷ [])) c.len.ensures)
