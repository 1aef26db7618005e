-- The registers that an operator's block needs. Cited by other crates.
use Rattle.std.proofs.Common.{◌≡◌, ℕ, ◌+◌, max, refl}
use Rattle.td_lower_blocks.specs.Imports.{Binary, Add, Subtract, Multiply, Divide, Remainder, BitAnd, BitOr, BitXor, ShiftLeft, ShiftRight}
use Rattle.td_lower_blocks.specs.Constructs.{Expr}
use Rattle.td_lower_blocks.specs.Lowered.{computed_of}
use Rattle.td_lower_blocks.specs.Tops.{top}

pub computed_top : (op : Binary) (mask t : ℕ) (a b : Expr) → top t (computed_of op mask a b) ≡ max (top t a) (top (t + 1) b)
computed_top Add mask t a b = refl
computed_top Subtract mask t a b = refl
computed_top Multiply mask t a b = refl
computed_top Divide mask t a b = refl
computed_top Remainder mask t a b = refl
computed_top BitAnd mask t a b = refl
computed_top BitOr mask t a b = refl
computed_top BitXor mask t a b = refl
computed_top ShiftLeft mask t a b = refl
computed_top ShiftRight mask t a b = refl
