-- Sets of kinds that have nothing in common, and sets within others. Cited by other crates.
use Rattle.std.proofs.Common.{ℕ, Bool, true, false, List, [], ◌∷◌, if◌then◌else◌}
use Rattle.td_grammar.specs.Sets.{member}

-- no kind is in both
abbrev pub disjoint : List ℕ → List ℕ → Bool
disjoint [] ys = true
disjoint (x ∷ xs) ys = if member ys x then false else disjoint xs ys

-- each kind of the one is in the other
abbrev pub covered : List ℕ → List ℕ → Bool
covered [] ys = true
covered (x ∷ xs) ys = if member ys x then covered xs ys else false
