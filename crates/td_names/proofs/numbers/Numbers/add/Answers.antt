use Rattle.std.proofs.Common.{sym, subst, ap, ◌∙◌, ◌++◌, ◌∷◌, []}
use Rattle.td_names.specs.Numbers.{AreAlike}
use Rattle.td_names.proofs.Numbering.{added_alike}
use Rattle.td_names.proofs.numbers.Numbers.add.Goals as goal

pub invariant_of-self-2 : goal.invariant_of-self-2
invariant_of-self-2 c =
    subst (λ ns. AreAlike ns c.insert.new.self.keys) (sym (c.in_ok-push.ensures.items ∙ ap (λ ns. ns ++ c.args.number ∷ []) c.reserve.ensures.items))
    (added_alike c.self.inside.numbers.items c.self.inside.set.keys c.insert.new.self.keys c.args.number c.self.invariant c.in_ok-insert.ensures.updates.0)
