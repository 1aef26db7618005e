-- Ways through code, and those that may take no byte (own rule).
use Rattle.std.specs.Prelude.{◌≡◌, ℕ, zero, suc, ◌+◌, ◌<◌, ◌≤◌, ◌⊎◌, ◌≢◌, List, Option, Bool, true}
use Rattle.td_ir.specs.Tables.{begin}
use Rattle.td_verify.specs.Brackets.{shape_at, opened, window_bytes}
use Rattle.td_verify.specs.declared.shape.Shape.{Shape}
use Rattle.td_verify.specs.declared.shape.Shape.TheVariants.{Straight, Jump, Branch, Call, Return, Fail, While, Again, Close}
use Rattle.td_verify.specs.declared.bracket.Bracket.{Bracket}

-- an instruction at p leads to q; a loop as a whole to what stands behind it
abbrev pub Leads : ℕ → Shape → ℕ → Type 0
Leads p (Jump t) q = q ≡ t
Leads p (Branch t) q = (q ≡ t) ⊎ (q ≡ p + 1)
Leads p Return q = ⊥
Leads p Fail q = ⊥
Leads p (While t) q = q ≡ t
Leads p (Again t) q = ⊥
Leads p j q = q ≡ p + 1

-- an instruction may take no byte, where Empty holds of the routines that may; the bytes of a window count where it is closed
abbrev pub IsIdle : (ℕ → Type 0) → Option (List Bracket) → Shape → Type 0
IsIdle Empty o (Straight bytes weight) = bytes ≡ 0
IsIdle Empty o (Call m) = Empty m
IsIdle Empty o Close = window_bytes o ≡ 0
IsIdle Empty o j = Unit {0}

-- a set of places that is never left without a byte being taken
abbrev pub IsClosed : List Shape → (ℕ → Type 0) → (ℕ → Bool) → Type 0
IsClosed s Empty set = (p q : ℕ) → p < q → Leads p (shape_at s p) q → IsIdle Empty (opened s p) (shape_at s p) → set p ≡ true → set q ≡ true

-- a way from one place to another, always to a later instruction, may take no byte: the other is in each such set that has the one
abbrev pub IdleWay : List Shape → (ℕ → Type 0) → ℕ → ℕ → Type 0
IdleWay s Empty from to = (set : ℕ → Bool) → IsClosed s Empty set → set from ≡ true → set to ≡ true

-- a stretch has such a way from its begin to a Return
abbrev pub CanReturn : List Shape → (ℕ → Type 0) → ℕ → ℕ → Type 0
CanReturn s Empty from end = (q : ℕ) × (from ≤ q) × (q < end) × (shape_at s q ≡ Return) × IdleWay s Empty from q

-- routine m may take no byte, of the first n; what is no lower routine counts as one that may
abbrev pub MayBeEmpty : List Shape → List ℕ → ℕ → ℕ → Type 0
MayBeEmpty s ls zero m = Unit {0}
MayBeEmpty s ls (suc n) m = ((m ≡ n) × CanReturn s (λ k. MayBeEmpty s ls n k) (begin ls n) (begin ls (suc n))) ⊎ ((m ≢ n) × MayBeEmpty s ls n m)
