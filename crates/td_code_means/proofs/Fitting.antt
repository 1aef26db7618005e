-- What fits an entry point of code fits that of its module: below a power of two is at most the greatest number of the width.
use Rattle.std.proofs.Common.{◌≡◌, ℕ, suc, ◌*◌, ◌^◌, ◌<◌, ◌≤◌, List, [], ◌∷◌, length, arith}
use Rattle.td_num.specs.Numbers.{bytes_in}
use Rattle.td_num.specs.declared.number.Width.{Width}
use Rattle.td_num.specs.declared.number.Width.TheVariants.{One, Two, Four, Eight}
use Rattle.td_core.specs.declared.module.Param.{Param}
use Rattle.td_core.specs.declared.module.Cell.{Cell}
use Rattle.td_core.specs.declared.module.CellKind.{CellKind}
use Rattle.td_core.specs.declared.module.CellKind.TheVariants.{Number, Pointer}
use Rattle.td_core.specs.Formed.{AllFit, scalar_of, whole, cell_bound, param_bounds, cell_bounds}
use Rattle.td_ir.specs.Entries.{cell_bits, AreArguments, AreValues}

width_back : (w : Width) (v : ℕ) → v < 2 ^ (8 * bytes_in w) → v ≤ (whole (scalar_of w)).most
width_back One v h = omega (arith, h)
width_back Two v h = omega (arith, h)
width_back Four v h = omega (arith, h)
width_back Eight v h = omega (arith, h)

kind_back : (k : CellKind) (v : ℕ) → v < 2 ^ cell_bits k → v ≤ (cell_bound k).most
kind_back (Number w) v h = width_back w v h
kind_back Pointer v h = omega (arith, h)

pub args_back : (params : List Param) (args : List ℕ) → length args ≡ length params → AreArguments params args (length args)
    → AllFit (param_bounds params) args
args_back [] [] e h = tt
args_back [] (v ∷ vs) e h = absurd (omega (arith, e))
args_back (p ∷ ps) [] e h = absurd (omega (arith, e))
args_back (p ∷ ps) (v ∷ vs) e h = (width_back p.width v (h 0 (omega arith)), args_back ps vs (omega (arith, e)) (λ k l. h (suc k) (omega (arith, l))))

pub cells_back : (cells : List Cell) (values : List ℕ) → length values ≡ length cells → AreValues cells values (length values)
    → AllFit (cell_bounds cells) values
cells_back [] [] e h = tt
cells_back [] (v ∷ vs) e h = absurd (omega (arith, e))
cells_back (c ∷ cs) [] e h = absurd (omega (arith, e))
cells_back (c ∷ cs) (v ∷ vs) e h = (kind_back c.kind v (h 0 (omega arith)), cells_back cs vs (omega (arith, e)) (λ k l. h (suc k) (omega (arith, l))))
