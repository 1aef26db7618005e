use Rattle.std.proofs.Common.{ℕ, ◌+◌, ◌*◌, [], ◌∷◌, codes, decimal, ap}
use Rattle.td_prog_emit.proofs.Texts.{joined, recut}
use Rattle.td_prog_text.specs.Expressions.{text}
use Rattle.td_prog_emit.proofs.given.push_given_pair.Goals as goal

pub returns : goal.returns
returns c name =
    recut (joined (c.in_ok-push_decimal_in.ensures {u = tt}) c.push_decimal_in-2.ensures)
    (ap (λ (n : ℕ). text (codes ", &td_cells[" ∷ decimal (n + 2 * c.args.k) ∷ codes "], &td_cells[" ∷ decimal (n + 2 * c.args.k + 1) ∷ codes "]" ∷ [])) c.len.ensures)
