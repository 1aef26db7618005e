use Rattle.td_prog_emit.proofs.copies.push_copy.Goals as goal
use Rattle.std.proofs.Common.{ℕ, ◌+◌, ◌*◌, ap, ◌∙◌}
use Rattle.td_ir.specs.Tables.{routine_of}
use Rattle.td_ir.specs.declared.tables.Routine.{Routine}
use Rattle.td_prog_emit.proofs.Texts.{recut}
use Rattle.td_prog_emit.specs.Written.{copy_pieces}
use Rattle.td_prog_text.specs.Expressions.{text}

pub returns : goal.returns
returns c whole =
    recut c.push_copy_by.ensures
    (ap (λ (r : Routine). text (copy_pieces c.args.parts.now c.args.depth c.args.size c.args.buffer c.args.site c.room_at-room.result (r.cells + 2 * c.args.buffer))) c.routine_at-routine.ensures
    ∙ ap (λ (m : ℕ). text (copy_pieces c.args.parts.now c.args.depth c.args.size c.args.buffer c.args.site m ((routine_of c.args.parts.now c.args.n).cells + 2 * c.args.buffer))) c.room_at-room.ensures)
