-- Blocks whose numbers, beside those that the verifier bounds, have room in an instruction's fields; and so have those of their
-- code.
use Rattle.std.proofs.Common.{ℕ, ◌+◌, ◌^◌, ◌<◌, ◌∷◌, Bool, true, false, arith}
use Rattle.td_num.specs.Lists.{Each}
use Rattle.td_image_fits.specs.Imports.{Instr}
use Rattle.td_ir.specs.declared.instructions.Instr.TheVariants as i
use Rattle.td_lower_blocks.specs.Block.{Block, Done, Then, Stop, Leave, Guard, Scope, Window, Loop, size, guard, code}
use Rattle.td_num.proofs.Lists.{each_append}

-- targets of jumps, a call's first argument and routine, constants and divisors
abbrev pub IsRoomy : Instr → Type 0
IsRoomy (i.Const into value) = value < 2 ^ 64
IsRoomy (i.Jump target) = target < 2 ^ 32
IsRoomy (i.JumpIf test target) = target < 2 ^ 32
IsRoomy (i.JumpUnless test target) = target < 2 ^ 32
IsRoomy (i.Call first routine map site) = (first < 2 ^ 16) × (routine < 2 ^ 32)
IsRoomy (i.Divides size step site) = step < 2 ^ 64
IsRoomy (i.While target) = target < 2 ^ 32
IsRoomy (i.Again target) = target < 2 ^ 32
IsRoomy j = Unit {0}

abbrev pub AreRoomy : Block → Type 0
AreRoomy Done = Unit {0}
AreRoomy (Then j b) = IsRoomy j × AreRoomy b
AreRoomy (Stop j) = IsRoomy j
AreRoomy Leave = Unit {0}
AreRoomy (Guard g r one rest) = AreRoomy one × AreRoomy rest
AreRoomy (Scope body rest) = AreRoomy body × AreRoomy rest
AreRoomy (Window j site body rest) = IsRoomy j × (AreRoomy body × AreRoomy rest)
AreRoomy (Loop body rest) = AreRoomy body × AreRoomy rest

guard_roomy : (g : Bool) (r t : ℕ) → t < 2 ^ 32 → IsRoomy (guard g r t)
guard_roomy true r t h = h
guard_roomy false r t h = h

pub code_roomy : (p x : ℕ) (b : Block) → p + size b < 2 ^ 32 → x < 2 ^ 32 → AreRoomy b → Each IsRoomy (code p x b)
code_roomy p x Done h k a = tt
code_roomy p x (Then j b) h k a = (a.0, code_roomy (p + 1) x b (omega (arith, h)) k a.1)
code_roomy p x (Stop j) h k a = (a, tt)
code_roomy p x Leave h k a = (k, tt)
code_roomy p x (Guard g r one rest) h k a = (
  guard_roomy g r (p + 1 + size one) (omega (arith, h)),
  each_append IsRoomy (code (p + 1) x one) (code (p + 1 + size one) x rest) (code_roomy (p + 1) x one (omega (arith, h)) k a.0) (code_roomy (p + 1 + size one) x rest (omega (arith, h)) k a.1),
)
code_roomy p x (Scope body rest) h k a =
    each_append IsRoomy (code p (p + size body) body) (code (p + size body) x rest)
    (code_roomy p (p + size body) body (omega (arith, h)) (omega (arith, h)) a.0) (code_roomy (p + size body) x rest (omega (arith, h)) k a.1)
code_roomy p x (Window j site body rest) h k a = (
  a.0,
  each_append IsRoomy (code (p + 1) x body) (i.Widen site ∷ code (p + 1 + size body + 1) x rest) (code_roomy (p + 1) x body (omega (arith, h)) k a.1.0)
      (tt, code_roomy (p + 1 + size body + 1) x rest (omega (arith, h)) k a.1.1),
)
code_roomy p x (Loop body rest) h k a = (
  omega (arith, h),
  each_append IsRoomy (code (p + 1) x body) (i.Again p ∷ code (p + 1 + size body + 1) x rest) (code_roomy (p + 1) x body (omega (arith, h)) k a.0)
      (omega (arith, h), code_roomy (p + 1 + size body + 1) x rest (omega (arith, h)) k a.1),
)
