use Rattle.td_prog_emit.proofs.routine.push_routine.Goals as goal
use Rattle.std.proofs.Common.{◌<◌, ◌+◌, ◌*◌, ℕ, List, length, false, flat_map, ap, subst, sym, ◌∙◌, Bool}
use Rattle.std.specs.Prelude.{slice_index_or}
use Rattle.td_ir.specs.Tables.{first_of, routine_of}
use Rattle.td_ir.specs.declared.instructions.Instr.{Instr}
use Rattle.td_ir.specs.declared.tables.Routine.{Routine}
use Rattle.td_num.specs.Lists.{is_among}
use Rattle.td_prog_emit.proofs.Standing.{goes_is}
use Rattle.td_prog_emit.proofs.Texts.{recut}
use Rattle.td_prog_emit.specs.Labels.{targets}
use Rattle.td_prog_emit.specs.Written.{function_at}
use Rattle.td_prog_text.specs.Expressions.{text}

pub push_function-requires-clause-marks : goal.push_function-requires-clause-marks
push_function-requires-clause-marks c k h =
    ap (λ (l : List Bool). slice_index_or l k false) c.deref.ensures.value
    ∙ (c.in_ok-marks.ensures {u = tt}).marked k (subst (λ (l : List Bool). k < length l) c.deref.ensures.value h)
    ∙ ap (λ (js : List Instr). is_among (flat_map targets js) (c.args.first + k)) c.requires.own
    ∙ sym (goes_is c.args.parts.now c.requires.sound c.requires.safe c.args.n (c.args.first + k) c.requires.code c.requires.routine)

pub returns : goal.returns
returns c =
    let r = c.routine_at-routine.result.now in
    recut c.push_function.ensures
    (ap (λ (b : ℕ). text (function_at c.args.parts.now c.args.n r.params r.registers (r.cells + 2 * b) b c.args.first c.args.end)) c.len-buffers.ensures
    ∙ ap (λ (q : Routine). text (function_at c.args.parts.now c.args.n q.params q.registers (q.cells + 2 * length q.buffers) (length q.buffers) c.args.first c.args.end)) c.routine_at-routine.ensures
    ∙ ap (λ (f : ℕ). text (function_at c.args.parts.now c.args.n (routine_of c.args.parts.now c.args.n).params (routine_of c.args.parts.now c.args.n).registers ((routine_of c.args.parts.now c.args.n).cells + 2 * length (routine_of c.args.parts.now c.args.n).buffers) (length (routine_of c.args.parts.now c.args.n).buffers) f c.args.end)) c.requires.first
    ∙ ap (λ (e : ℕ). text (function_at c.args.parts.now c.args.n (routine_of c.args.parts.now c.args.n).params (routine_of c.args.parts.now c.args.n).registers ((routine_of c.args.parts.now c.args.n).cells + 2 * length (routine_of c.args.parts.now c.args.n).buffers) (length (routine_of c.args.parts.now c.args.n).buffers) (first_of c.args.parts.now c.args.n) e)) c.requires.end)
