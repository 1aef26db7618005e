-- What memory is taken for where an expression or an action is copied (own rule).
use Rattle.td_core.specs.Term.{Term, number, name, complement, negation, compute, compare, both, either, choice, range_okay, Deed, done, set, keep, fork, answer, give_up}

-- an operator with its operands, and no literal or name
abbrev pub HasOperands : Term → Type 0
HasOperands (number n w) = ⊥
HasOperands (name i w most) = ⊥
HasOperands (complement a) = Unit {0}
HasOperands (negation a) = Unit {0}
HasOperands (compute op s a b) = Unit {0}
HasOperands (compare r a b) = Unit {0}
HasOperands (both a b) = Unit {0}
HasOperands (either a b) = Unit {0}
HasOperands (choice c a b) = Unit {0}
HasOperands (range_okay s o a) = Unit {0}

-- a statement that others may follow, or the return of an expression with operands
abbrev pub HasParts : Deed → Type 0
HasParts done = ⊥
HasParts (set cell e then) = Unit {0}
HasParts (keep cell then) = Unit {0}
HasParts (fork e one other then) = Unit {0}
HasParts (answer e) = HasOperands e
HasParts give_up = ⊥
