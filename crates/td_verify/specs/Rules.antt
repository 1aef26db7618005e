-- The rules on targets, calls, nesting and weight (V1, V3, V4, V6), by the shapes of the instructions (own rule).
use Rattle.std.specs.Prelude.{◌≡◌, ℕ, zero, suc, ◌+◌, ◌-◌, ◌*◌, ◌<◌, ◌≤◌, max, List, Option, Bool, true, false, cond, slice_index}
use Rattle.td_verify.specs.declared.shape.Shape.{Shape}
use Rattle.td_verify.specs.declared.shape.Shape.TheVariants.{Straight, Jump, Branch, Call, Return, Fail, While, Again, Open, Close}
use Rattle.td_verify.specs.declared.bracket.Bracket.{Bracket}
use Rattle.td_verify.specs.declared.bracket.Bracket.TheVariants.{Loop}
use Rattle.td_verify.specs.declared.bracket.Innermost.TheVariants.{Within}
use Rattle.td_verify.specs.Brackets.{shape_at, opened, innermost, in_window, in_loop}
use Rattle.td_verify.specs.Ways.{IdleWay}

-- V1. A jump at p leads to a later place of the same routine, with the same windows and loops open
pub record IsJump (s : List Shape) (end p t : ℕ) : Type 0 where
  pub later : p < t
  pub within : t < end
  pub same : opened s t ≡ opened s p

abbrev pub IsAgain : Shape → Type 0
IsAgain (Again t) = Unit {0}
IsAgain j = ⊥

-- the loop that begins at p ends with its Again, directly before t
pub record IsLoop (s : List Shape) (end p t : ℕ) : Type 0 where
  pub later : p + 1 < t
  pub within : t ≤ end
  pub again : IsAgain (shape_at s (t - 1))
  pub own : innermost (opened s (t - 1)) ≡ Within (Loop p)

abbrev pub LeadsWell : List Shape → (end p : ℕ) → Shape → Type 0
LeadsWell s end p (Jump t) = IsJump s end p t
LeadsWell s end p (Branch t) = IsJump s end p t
LeadsWell s end p (While t) = IsLoop s end p t
LeadsWell s end p (Again t) = innermost (opened s p) ≡ Within (Loop t)
LeadsWell s end p j = Unit {0}

abbrev pub MayBeLast : Shape → Type 0
MayBeLast Return = Unit {0}
MayBeLast Fail = Unit {0}
MayBeLast (Jump t) = Unit {0}
MayBeLast j = ⊥

pub record KeepsTarget (s : List Shape) (end p : ℕ) : Type 0 where
  pub leads : LeadsWell s end p (shape_at s p)
  pub last : p + 1 ≡ end → MayBeLast (shape_at s p)

-- V3. By the depths of the routines so far: a call out of routine n is of a lower one, of a depth below 32
abbrev pub CallsWell : List ℕ → ℕ → Shape → Type 0
CallsWell depths n (Call m) = (m < n) × (slice_index depths m + 1 ≤ 32)
CallsWell depths n j = Unit {0}

abbrev pub calls_deep : List ℕ → Shape → ℕ
calls_deep depths (Call m) = slice_index depths m
calls_deep depths j = 0

-- the greatest depth that k instructions from a place on call
abbrev pub deepest : List Shape → List ℕ → ℕ → ℕ → ℕ
deepest s depths from zero = 0
deepest s depths from (suc k) = max (deepest s depths from k) (calls_deep depths (shape_at s (from + k)))

-- V4. A window opens in no window; one is closed, and a loop begins, in a window and in no loop; a Return stands in none
abbrev pub IsOutside : Option (List Bracket) → Type 0
IsOutside o = (in_window o ≡ false) × (in_loop o ≡ false)

abbrev pub StandsWell : Option (List Bracket) → Shape → Type 0
StandsWell o (Open bytes) = in_window o ≡ false
StandsWell o Close = (in_window o ≡ true) × (in_loop o ≡ false)
StandsWell o (While t) = (in_window o ≡ true) × (in_loop o ≡ false)
StandsWell o Return = IsOutside o
StandsWell o j = Unit {0}

-- no way from a While's body to its Again takes no byte
abbrev pub TurnsBusy : List Shape → (ℕ → Type 0) → ℕ → Shape → Type 0
TurnsBusy s Empty p (While t) = IdleWay s Empty (p + 1) (t - 1) → ⊥
TurnsBusy s Empty p j = Unit {0}

pub record KeepsNesting (s : List Shape) (Empty : ℕ → Type 0) (end p : ℕ) : Type 0 where
  pub stands : StandsWell (opened s p) (shape_at s p)
  pub closed : p + 1 ≡ end → IsOutside (opened s end)
  pub busy : TurnsBusy s Empty p (shape_at s p)

-- V6. By the weights of the routines so far: what an instruction weighs, and what it adds where it stands
abbrev pub own_weight : List ℕ → Shape → ℕ
own_weight weights (Straight bytes weight) = weight
own_weight weights (Call m) = 1 + slice_index weights m
own_weight weights (While t) = 3
own_weight weights (Again t) = 3
own_weight weights j = 1

abbrev pub counts_twice : Option (List Bracket) → Shape → Bool
counts_twice o (Again t) = false
counts_twice o (While t) = false
counts_twice o j = in_loop o

abbrev pub cost : List ℕ → Option (List Bracket) → Shape → ℕ
cost weights o j = cond (counts_twice o j) (2 * own_weight weights j) (own_weight weights j)

-- the weight of k instructions from a place on
abbrev pub weigh : List Shape → List ℕ → ℕ → ℕ → ℕ
weigh s weights from zero = 0
weigh s weights from (suc k) = weigh s weights from k + cost weights (opened s (from + k)) (shape_at s (from + k))
