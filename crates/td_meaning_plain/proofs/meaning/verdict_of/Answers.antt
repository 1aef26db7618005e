use Rattle.std.proofs.Common.{rules, ◌≡◌, length, refl, sym, ap, ◌∙◌, arith}
use Rattle.std.specs.Prelude.{slice_get, None}
use Rattle.td_num.specs.Numbers.{places_from}
use Rattle.td_core.specs.declared.outcome.Reason.TheVariants.{Impossible}
use Rattle.td_core.specs.Outcome.{Behavior, Rejected}
use Rattle.td_meaning.proofs.Meaning64.{meaning_is}
use Rattle.td_meaning_plain.proofs.Copied.{if_ok_map}
use Rattle.td_meaning.proofs.Filling.{no_entry}
use Rattle.td_meaning_plain.proofs.Endings.{entry_is}
use Rattle.td_meaning_plain.proofs.meaning.verdict_of.Goals as goal

pub returns-in_default-clause-ending : goal.returns-in_default-clause-ending
returns-in_default-clause-ending c = λ sound.
    let a = c.args in
    let missing : slice_get a.m.now.entries a.entry.number ≡ None = search rules in
    ap (λ (t : Behavior). t.ending) (sym (meaning_is a.m.now a.entry a.args.now a.slate.now.cells.items a.bytes.now sound) ∙ no_entry a.m.now a.entry a.args.now a.slate.now.cells.items a.bytes.now missing)
    ∙ ap (λ tr. Rejected Impossible 0 tr a.slate.now.cells.items) (sym c.requires.empty_trace)

pub returns-clause-ending : goal.returns-clause-ending
returns-clause-ending c =
    if_ok_map c.named.result _ _ c.named.ensures.ending (λ v h sound.
    let a = c.args in
    let many : c.len.result ≡ length a.slate.now.cells.items = omega (arith, c.len.ensures) in
    let whole = entry_is a.m.now a.entry a.args.now a.slate.now.cells.items a.bytes.now c.in-Some.place c.len-2.result c.as_slice.result.now (length a.bytes.now) c.in-Some.ensures c.len-2.ensures (c.as_slice.ensures.value ∙ c.in_ok-places.ensures.ok ∙ ap (places_from 0) many) refl
    ∙ meaning_is a.m.now a.entry a.args.now a.slate.now.cells.items a.bytes.now sound in
    sym (ap (λ (t : Behavior). t.ending) whole) ∙ h)
