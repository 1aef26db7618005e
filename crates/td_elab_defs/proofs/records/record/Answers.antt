use Rattle.std.proofs.Common.{sym, ap, ◌∙◌, []}
use Rattle.td_elab_rules.specs.Breach.{first_of}
use Rattle.td_elab_rules.specs.Constants.{global_breaches}
use Rattle.td_elab_rules.specs.Records.{slots_breaches}
use Rattle.td_elab_exprs.proofs.Steps.{first_append}
use Rattle.td_elab_defs.proofs.records.record.Goals as goal

pub returns-clause-first : goal.returns-clause-first
returns-clause-first c =
    let k = c.args.known.now in
    let d = c.args.tree.now in
    let first = c.args.findings.now.first in
    let own = global_breaches k d.name in
    c.check_global.ensures
    ∙ ap (λ o. first_of o own) c.in_ok-check_slots.ensures
    ∙ ap (λ xs. first_of (first_of first (slots_breaches k [] xs)) own) c.as_slice-trees.ensures
    ∙ sym (first_append first (slots_breaches k [] d.slots) own)
