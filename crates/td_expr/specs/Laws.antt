-- Laws of the safety rule (own rule).
use Rattle.std.specs.Prelude.{◌≡◌, ℕ, Bool, List, ◌++◌, length, None}
use Rattle.td_core.specs.Term.{Term}
use Rattle.td_expr.specs.Value.{value_of, truth_of}
use Rattle.td_expr.specs.Facts.{Fact, facts_of}
use Rattle.td_expr.specs.Safe.{AllSafe, first_unsafe}
use Rattle.td_expr.specs.Sound.{Sound, Known, AllHold, AllPlaced}

-- Where literals fit and names have values in their ranges, the facts hold, and each operator is safe under the facts at its
-- place, the expression and each part of it that is evaluated lie in their types' ranges.
abbrev pub ValuesInRange : Type 0
ValuesInRange = (t : Term) (env : List ℕ) (facts : List Fact) → Known t env → AllHold facts env → AllSafe facts t → Sound t env

-- the facts of a condition hold where it was evaluated and was true, or was false
abbrev pub RefinementsHold : Type 0
RefinementsHold = (t : Term) (env : List ℕ) (truth : Bool) → Sound t env → truth_of (value_of t env) ≡ truth → AllHold (facts_of truth t) env

-- the same as the first, where no operator was found that isn't safe
abbrev pub AdmittedIsSound : Type 0
AdmittedIsSound =
    (e : Term) (env : List ℕ) (facts : List Fact) → first_unsafe facts e ≡ None → Known e env → AllHold facts env → Sound e env

-- facts that name what is in scope go on to hold when more values come into scope
abbrev pub FactsLast : Type 0
FactsLast = (facts : List Fact) (env more : List ℕ) → AllPlaced (length env) facts → AllHold facts env → AllHold facts (env ++ more)
