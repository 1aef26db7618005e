-- What is known at an expression: the conjuncts of conditions that are true there (own rule).
use Rattle.std.specs.Prelude.{Bool, true, false, ◌||◌, List, [], ◌∷◌, ◌++◌}
use Rattle.td_expr.specs.Imports.{Span, Subtract, Relation, Equal, NotEqual, Less, LessEqual, Greater, GreaterEqual}
use Rattle.td_core.specs.Term.{Term, number, name, complement, negation, compute, compare, both, either, choice, range_okay}

-- a comparison that is true; where it isn't written out, its operators have no place
pub record Fact : Type 0 where
  pub relation : Relation
  pub left : Term
  pub right : Term

-- the comparison that is true where this one isn't
abbrev pub turned : Relation → Relation
turned Equal = NotEqual
turned NotEqual = Equal
turned Less = GreaterEqual
turned LessEqual = Greater
turned Greater = LessEqual
turned GreaterEqual = Less

-- the same comparison from the other side
abbrev pub mirrored : Relation → Relation
mirrored Equal = Equal
mirrored NotEqual = NotEqual
mirrored Less = Greater
mirrored LessEqual = GreaterEqual
mirrored Greater = Less
mirrored GreaterEqual = LessEqual

abbrev pub no_span : Span
no_span = record { from = 0; to = 0 }

-- one comparison
abbrev pub fact : Relation → Term → Term → List Fact
fact r a b = record { relation = r; left = a; right = b } ∷ []

-- the conjuncts of an expression that is true, or is false: `a && b` splits, `!(a || b)` splits into negations, `!!a` is a, a
-- negated comparison is turned, and `is_range_okay(s, o, a)` gives `a <= s` and `o <= s - a`
abbrev pub facts_of : Bool → Term → List Fact
facts_of _ (number n w) = []
facts_of _ (name i w most) = []
facts_of _ (complement a) = []
facts_of true (negation a) = facts_of false a
facts_of false (negation a) = facts_of true a
facts_of _ (compute op span a b) = []
facts_of true (compare r a b) = fact r a b
facts_of false (compare r a b) = fact (turned r) a b
facts_of true (both a b) = facts_of true a ++ facts_of true b
facts_of false (both a b) = []
facts_of true (either a b) = []
facts_of false (either a b) = facts_of false a ++ facts_of false b
facts_of _ (choice c a b) = []
facts_of true (range_okay s o a) = fact LessEqual a s ++ fact LessEqual o (compute Subtract no_span s a)
facts_of false (range_okay s o a) = []

abbrev pub some_fact : (Fact → Bool) → List Fact → Bool
some_fact test [] = false
some_fact test (f ∷ fs) = test f || some_fact test fs
