-- Each expression has a node, and each field a part. Cited by other crates.
use Rattle.std.proofs.Common.{◌≤◌, List, [], ◌∷◌, length, arith}
use Rattle.td_core.specs.Term.{Term, number, name, complement, negation, compute, compare, both, either, choice, range_okay, measure}
use Rattle.td_core.specs.Weights.{terms_nodes}
use Rattle.td_core.specs.WellFormed.{HasParts}
use Rattle.td_core.specs.declared.module.Part.{Part}

pub some_node : (e : Term) → 1 ≤ measure e
some_node (number n w) = omega arith
some_node (name i w most) = omega arith
some_node (complement a) = omega arith
some_node (negation a) = omega arith
some_node (compute op s a b) = omega arith
some_node (compare r a b) = omega arith
some_node (both a b) = omega arith
some_node (either a b) = omega arith
some_node (choice c a b) = omega arith
some_node (range_okay s o a) = omega arith

-- a list has as many nodes as expressions, or more
pub each_node : (es : List Term) → length es ≤ terms_nodes es
each_node [] = omega arith
each_node (e ∷ es) = omega (arith, some_node e, each_node es)

pub some_parts : (ps : List Part) → HasParts ps → 1 ≤ length ps
some_parts [] h = absurd h
some_parts (p ∷ ps) h = omega arith
