use Rattle.std.proofs.Common.{ℕ, List, ap, ◌∙◌}
use Rattle.td_prog_emit.proofs.Texts.{recut}
use Rattle.td_prog_text.specs.Entries.{all_names}
use Rattle.td_prog_text.specs.PartsEntries.{parts_function_by}
use Rattle.td_prog_text.specs.Expressions.{text}
use Rattle.td_prog_emit.proofs.parts_entry.push_parts_function.Goals as goal

pub returns : goal.returns
returns c =
    recut c.push_parts_body.ensures
    (ap (λ (l : List (List ℕ)). text (parts_function_by c.args.parts.now c.args.prefix.now c.args.entry.now l c.deref-2.result.now)) (c.deref.ensures.value ∙ (c.in_ok-names.ensures {u = tt}))
    ∙ ap (λ (l : List (List ℕ)). text (parts_function_by c.args.parts.now c.args.prefix.now c.args.entry.now (all_names c.args.parts.now c.args.entry.now) l)) (c.deref-2.ensures.value ∙ (c.in_ok-members.ensures {u = tt})))
