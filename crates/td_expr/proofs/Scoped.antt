-- What is in scope is placed. Cited by other crates.
use Rattle.std.proofs.Common.{List, length}
use Rattle.std.proofs.lemmas.Option.{slice_get_within}
use Rattle.td_core.specs.Term.{Term, number, name, complement, negation, compute, compare, both, either, choice, range_okay}
use Rattle.td_core.specs.Formed.{Bound, IsScoped}
use Rattle.td_expr.specs.Sound.{Placed}

pub scoped_placed : (scope : List Bound) (t : Term) → IsScoped scope t → Placed (length scope) t
scoped_placed scope (number n w) s = tt
scoped_placed scope (name i w most) s = slice_get_within scope i (record { type = w; most = most }) s.0
scoped_placed scope (complement a) s = scoped_placed scope a s
scoped_placed scope (negation a) s = scoped_placed scope a s
scoped_placed scope (compute op sp a b) s = (scoped_placed scope a s.0, scoped_placed scope b s.1)
scoped_placed scope (compare r a b) s = (scoped_placed scope a s.0, scoped_placed scope b s.1)
scoped_placed scope (both a b) s = (scoped_placed scope a s.0, scoped_placed scope b s.1)
scoped_placed scope (either a b) s = (scoped_placed scope a s.0, scoped_placed scope b s.1)
scoped_placed scope (choice c a b) s = (scoped_placed scope c s.0, (scoped_placed scope a s.1.0, scoped_placed scope b s.1.1))
scoped_placed scope (range_okay c a b) s = (scoped_placed scope c s.0, (scoped_placed scope a s.1.0, scoped_placed scope b s.1.1))
