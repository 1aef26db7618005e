use Rattle.std.proofs.Common.{◌≡◌, true, sym, ap, ◌∙◌, arith}
use Rattle.td_names.specs.Names.{is_seen, number_of}
use Rattle.td_names.proofs.Naming.{number_below}
use Rattle.td_front_flat.proofs.cycle.is_cyclic.Goals as goal

pub reached_from-requires-clause-from : goal.reached_from-requires-clause-from
reached_from-requires-clause-from c =
    let names = c.args.names.now in
    let text = c.args.name.now.text in
    let seen : is_seen names text ≡ true = ap (λ t. is_seen names t) (sym c.as_slice.ensures) ∙ sym c.contains.ensures ∙ c.if-not-contains.false in
    let number : c.number.result ≡ number_of names text = c.number.ensures ∙ ap (λ t. number_of names t) c.as_slice-2.ensures in
    let lt = number_below names text seen in
    omega (arith, lt, number, c.requires.count)
