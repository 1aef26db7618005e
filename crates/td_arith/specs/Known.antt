-- What is known to be true, as a list of facts.
use Rattle.std.specs.Prelude.{◌≡◌, Bool, List, [], ◌∷◌, ◌++◌}
use Rattle.td_arith.specs.Imports.{Relation}
use Rattle.td_expr.specs.Facts.{Fact, fact}
use Rattle.td_expr.specs.Safe.{says_up_to, says_not_zero, says_sum}
use Rattle.td_arith.specs.declared.comparisons.Side.{Side}
use Rattle.td_arith.specs.declared.comparisons.Known.{Known}
use Rattle.td_arith.specs.declared.facts.Question.{Question}
use Rattle.td_arith.specs.declared.facts.Question.TheVariants.{UpTo, NotZero, Sum}
use Rattle.td_arith.specs.Sides.{side_of}

abbrev pub fact_in : Known → Fact
fact_in k = record { relation = k.relation; left = side_of k.left; right = side_of k.right }

abbrev pub facts_in : List Known → List Fact
facts_in [] = []
facts_in (k ∷ ks) = fact_in k ∷ facts_in ks

-- one comparison of two sides
abbrev pub comparison : Relation → Side → Side → List Fact
comparison r left right = fact r (side_of left) (side_of right)

-- these facts came to be known, behind what was known before
pub record IsLearned (facts : List Fact) (before after : List Known) : Type 0 where
  pub more : List Known
  pub behind : after ≡ before ++ more
  pub are : facts_in more ≡ facts

-- whether a fact is what is asked
abbrev pub asks : Question → Fact → Bool
asks (UpTo a b) = says_up_to a.now b.now
asks (NotZero a) = says_not_zero a.now
asks (Sum w a b) = says_sum w a.now b.now
