use Rattle.std.proofs.Common.{◌≡◌, ◌+◌, length, ap, ◌∙◌}
use Rattle.td_elab_rules.specs.declared.known.Meaning.TheVariants as meaning
use Rattle.td_elab_rules.specs.Constants.{with_global}
use Rattle.td_elab_rules.specs.Definitions.{with_names, entry_more}
use Rattle.td_elab.proofs.definitions.announce.Goals as goal

pub returns : goal.returns
returns c =
    let k = c.args.known.now in
    let name = c.args.name.now in
    let is_entry = c.args.is_entry in
    let own = length k.definitions in
    let place : c.in_ok-place.place ≡ own = c.in_ok-place.ensures.place ∙ c.len.ensures in
    let count : c.in_ok-count.count ≡ k.count + 1 = c.in_ok-count.ensures.place in
    let known : c.declare.new.known ≡ with_global k name (meaning.Type own) = c.in_ok-declare.ensures.known ∙ ap (λ p. with_global k name (meaning.Type p)) place in
    let used : c.see_names.new.names ≡ with_names k.used c.args.given.now = c.in_ok-see_names.ensures ∙ ap (λ x. with_names x.used c.args.given.now) known in
    let entries : c.add_entry.new.entries ≡ entry_more is_entry own k.entries =
    c.in_ok-add_entry.ensures
    ∙ ap (λ p. entry_more is_entry p c.declare.new.known.entries) place
    ∙ ap (λ x. entry_more is_entry own x.entries) known in
    λ i. record (known i) { count = count i; used = used i; entries = entries i }
