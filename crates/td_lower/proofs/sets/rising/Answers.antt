use Rattle.std.proofs.Common.{rules, ◌≡◌, sym, subst}
use Rattle.std.specs.Prelude.{IsPermutation}
use Rattle.td_lower.specs.Sets.{IsSetOf, once}
use Rattle.td_lower.proofs.Rising.{is_set}
use Rattle.td_lower.proofs.sets.rising.Goals as goal

pub returns : goal.returns
returns c =
    let values = c.args.values.now in
    let sorted = c.sort_unstable.new.self.items in
    let p : IsPermutation values sorted = subst (λ x. IsPermutation x sorted) c.in_ok-sorted.ensures.items c.sort_unstable.ensures.permutation in
    let e : c.in_ok-set.set ≡ once sorted = search rules in
    subst (IsSetOf values) (sym e) (is_set values sorted p c.sort_unstable.ensures.sorted)
