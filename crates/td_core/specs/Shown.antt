-- The expression that a node is (own rule).
use Rattle.td_core.specs.declared.expressions.Node.{Node}
use Rattle.td_core.specs.declared.expressions.Node.TheVariants.{Number, Name, Complement, Not, Compute, Compare, Both, Either, Choice, RangeOkay}
use Rattle.td_core.specs.Term.{Term, number, name, complement, negation, compute, compare, both, either, choice, range_okay}

abbrev pub shown : Node → Term
shown (Number n w) = number n w
shown (Name i w most) = name i w most
shown (Complement a) = complement a.value
shown (Not a) = negation a.value
shown (Compute op s a b) = compute op s a.value b.value
shown (Compare r a b) = compare r a.value b.value
shown (Both a b) = both a.value b.value
shown (Either a b) = either a.value b.value
shown (Choice c a b) = choice c.value a.value b.value
shown (RangeOkay s o a) = range_okay s.value o.value a.value
