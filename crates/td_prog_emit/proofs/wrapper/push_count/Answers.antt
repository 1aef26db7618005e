use Rattle.std.proofs.Common.{ℕ, ◌+◌, ◌*◌, [], ◌∷◌, codes, decimal, ap}
use Rattle.td_prog_emit.proofs.Texts.{joined, recut}
use Rattle.td_prog_text.specs.Entries.{buffer_name}
use Rattle.td_prog_text.specs.Expressions.{text}
use Rattle.td_prog_emit.proofs.wrapper.push_count.Goals as goal

pub returns : goal.returns
returns c name =
    recut (joined (c.in_ok-push.ensures {u = tt}) (joined (c.in_ok-push_buffer_name.ensures {u = tt}) c.push_decimal_in.ensures))
    (ap (λ (n : ℕ). text (codes "    " ∷ buffer_name c.args.entry.now c.args.names.now c.args.k ∷ codes "->count = (uint32_t)td_cells[" ∷ decimal (n + 2 * c.args.k + 1) ∷ codes "];\n" ∷ [])) c.len.ensures)
