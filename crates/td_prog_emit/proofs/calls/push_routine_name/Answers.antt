use Rattle.td_prog_emit.proofs.calls.push_routine_name.Goals as goal
use Rattle.std.proofs.Common.{[], ◌∷◌, codes, decimal, ap, ◌∙◌, append_assoc}
use Rattle.td_ir.specs.declared.tables.Routine.{Routine}
use Rattle.td_prog_emit.proofs.Texts.{recut}
use Rattle.td_prog_text.specs.Expressions.{text}
use Rattle.td_prog_text.specs.Names.{name_of}

pub returns : goal.returns
returns c =
    recut c.push_numbered.ensures
    (ap (λ (r : Routine). text (codes "td_" ∷ decimal c.args.n ∷ codes "_" ∷ name_of c.args.parts.now r.name ∷ [])) c.routine_at.ensures ∙ simp append_assoc)
