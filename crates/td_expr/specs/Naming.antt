-- Which values in scope an expression or an action names. Naming is by text: a name in a branch that isn't evaluated
-- counts (own rule).
use Rattle.std.specs.Prelude.{ℕ, Bool, false, ◌||◌, nat_eq}
use Rattle.td_core.specs.Term.{Term, number, name, complement, negation, compute, compare, both, either, choice, range_okay, Deed, done, set, keep, fork, answer, give_up}

-- an expression names the value at level i
abbrev pub names : ℕ → Term → Bool
names i (number n w) = false
names i (name j w most) = nat_eq i j
names i (complement a) = names i a
names i (negation a) = names i a
names i (compute op s a b) = names i a || names i b
names i (compare r a b) = names i a || names i b
names i (both a b) = names i a || names i b
names i (either a b) = names i a || names i b
names i (choice c a b) = names i c || (names i a || names i b)
names i (range_okay s o a) = names i s || (names i o || names i a)

abbrev pub deed_names : ℕ → Deed → Bool
deed_names i done = false
deed_names i (set cell e then) = names i e || deed_names i then
deed_names i (keep cell then) = deed_names i then
deed_names i (fork e one other then) = names i e || (deed_names i one || (deed_names i other || deed_names i then))
deed_names i (answer e) = names i e
deed_names i give_up = false
