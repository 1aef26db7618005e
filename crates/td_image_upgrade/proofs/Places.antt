-- Cited by other crates.
-- The place of a site among those that are used is within their count.
use Rattle.std.proofs.Common.{◌≡◌, ℕ, ◌≤◌, Bool, true, false, List, [], ◌∷◌, ◌++◌, length, refl, arith}
use Rattle.std.specs.Prelude.{nat_eq}
use Rattle.std.specs.List.{position_or_len}
use Rattle.td_ir.specs.declared.instructions.Instr.{Instr}
use Rattle.td_ir.specs.Fields.{named}
use Rattle.td_image_upgrade.specs.Upgrade.{with_used, used_in}

pub used_more : (old : ℕ) (used : List ℕ) (js : List Instr) (j : Instr) → used_in old used (js ++ j ∷ []) ≡ with_used old (used_in old used js) (named j)
used_more old used [] j = refl
used_more old used (x ∷ js) j = used_more old (with_used old used (named x)) js j

place_by : (k x : ℕ) (u : List ℕ) (b : Bool) → nat_eq k x ≡ b → position_or_len (nat_eq k) u ≤ length u → position_or_len (nat_eq k) (x ∷ u) ≤ length (x ∷ u)
place_by k x u true e h = rw e (omega arith)
place_by k x u false e h = rw e (omega (arith, h))

pub place_within : (k : ℕ) (u : List ℕ) → position_or_len (nat_eq k) u ≤ length u
place_within k [] = omega arith
place_within k (x ∷ u) = place_by k x u (nat_eq k x) refl (place_within k u)
