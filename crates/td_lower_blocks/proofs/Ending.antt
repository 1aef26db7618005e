-- Blocks of the language never go on behind their end. Cited by other crates.
use Rattle.std.proofs.Common.{ℕ, ◌+◌, ◌≤◌, List, [], ◌∷◌, arith}
use Rattle.td_lower_blocks.specs.Block.{Block, Done, Then, Stop, Leave, Guard, Scope, Window, Loop, size, Ends}
use Rattle.td_lower_blocks.specs.Constructs.{Expr, Lit, Slot, Binary, Not, Complement, ShiftLeft, Both, Either, Choice, Range, value, values, Steps, End, Start, Place, Skipped, Number, Listed, Part, Computed, Kept, Remaining, Test, Act, Named, AllBytes, AllZeros, ZeroEnd, Copied, Never, Arguments, BySize, ByConstant, steps, Cases, Case, Default, NoDefault, cases, Body, Struct, Casetype, Where, body}

pub ends_some : (b : Block) → Ends b → 1 ≤ size b
ends_some Done h = absurd h
ends_some (Then j b) h = omega arith
ends_some (Stop j) h = omega arith
ends_some Leave h = absurd h
ends_some (Guard g r one rest) h = omega arith
ends_some (Scope inside rest) h = let k = ends_some rest h in omega (arith, k)
ends_some (Window j site inside rest) h = omega arith
ends_some (Loop inside rest) h = omega arith

pub ends_value : (t : ℕ) (e : Expr) (k : Block) → Ends k → Ends (value t e k)
ends_value t (Lit n) k h = h
ends_value t (Slot place) k h = h
ends_value t (Binary op a b) k h = ends_value t a _ (ends_value (t + 1) b _ h)
ends_value t (Not a) k h = ends_value t a _ h
ends_value t (Complement mask a) k h = ends_value t a _ h
ends_value t (ShiftLeft mask a b) k h = ends_value t a _ (ends_value (t + 1) b _ h)
ends_value t (Both a b) k h = ends_value t a _ h
ends_value t (Either a b) k h = ends_value t a _ h
ends_value t (Choice c a b) k h = ends_value t c _ h
ends_value t (Range size offset access) k h = ends_value t size _ (ends_value (t + 1) offset _ (ends_value (t + 2) access _ h))

pub ends_values : (t : ℕ) (es : List Expr) (k : Block) → Ends k → Ends (values t es k)
ends_values t [] k h = h
ends_values t (e ∷ es) k h = ends_value t e _ (ends_values (t + 1) es k h)

pub ends_steps : (x : Steps) → Ends (steps x)
ends_steps End = tt
ends_steps (Start k) = ends_steps k
ends_steps (Place slot k) = ends_steps k
ends_steps (Skipped width site k) = ends_steps k
ends_steps (Number slot order width site k) = ends_steps k
ends_steps (Listed slot order width set site t k) = ends_steps k
ends_steps (Part slot unit low width k) = ends_steps k
ends_steps (Computed t slot e k) = ends_value t e _ (ends_steps k)
ends_steps (Kept slot cell k) = ends_steps k
ends_steps (Remaining slot k) = ends_steps k
ends_steps (Test t site e k) = ends_value t e _ (ends_steps k)
ends_steps (Act t site a k) = ends_steps k
ends_steps (Named t routine cells site args k) = ends_values t args _ (ends_steps k)
ends_steps (AllBytes k) = ends_steps k
ends_steps (AllZeros site k) = ends_steps k
ends_steps (ZeroEnd t width site e k) = ends_value t e _ (ends_steps k)
ends_steps (Copied t buffer site e k) = ends_value t e _ (ends_steps k)
ends_steps (Never site) = tt
ends_steps (Arguments t args k) = ends_values t args _ (ends_steps k)
ends_steps (BySize t site e x k) = ends_value t e _ (ends_steps k)
ends_steps (ByConstant size site x k) = ends_steps k

pub ends_cases : (t : ℕ) (x : Cases) → Ends (cases t x)
ends_cases t (Case k fields more) = ends_cases t more
ends_cases t (Default fields) = ends_steps fields
ends_cases t (NoDefault site) = tt

pub ends_body : (x : Body) → Ends (body x)
ends_body (Struct fields) = ends_steps fields
ends_body (Casetype t e all) = ends_value t e _ (ends_cases t all)
ends_body (Where t site e x) = ends_value t e _ (ends_body x)
