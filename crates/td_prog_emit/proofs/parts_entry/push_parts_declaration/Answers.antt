use Rattle.std.proofs.Common.{ℕ, List, [], ◌∷◌, ◌++◌, codes, ap, ◌∙◌}
use Rattle.td_prog_emit.proofs.Texts.{recut}
use Rattle.td_prog_text.specs.PartsEntries.{parts_head}
use Rattle.td_prog_text.specs.Expressions.{text}
use Rattle.td_prog_emit.proofs.parts_entry.push_parts_declaration.Goals as goal

pub returns : goal.returns
returns c =
    recut c.push_parts_declared.ensures
    (ap (λ (l : List (List ℕ)). text (codes "TD_LOOK_AT_ANSWER " ∷ (parts_head c.args.parts.now c.args.prefix.now c.args.entry.now l ++ codes ";\n\n" ∷ []))) (c.deref.ensures.value ∙ (c.in_ok-names.ensures {u = tt})))
