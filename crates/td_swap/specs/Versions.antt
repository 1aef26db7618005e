-- Versions, and what contracts see of the codes.
use Rattle.std.specs.Prelude.{◌≡◌, ℕ, ◌+◌, List, [], ◌∷◌}
use Rattle.atomic_table.specs.Seated.{TableId}
use Rattle.td_ir.specs.declared.tables.Parts.{Parts}
use Rattle.td_swap.specs.declared.version.Version.{Version}

abbrev pub version_code : Version → Parts
version_code v = v.code

-- numbered from n on, in their order
abbrev pub AreNumbered : ℕ → List Version → Type 0
AreNumbered n [] = Unit {0}
AreNumbered n (v ∷ vs) = (v.number ≡ n) × AreNumbered (n + 1) vs

-- the version word's table, and the codes in the order of their numbers
pub record CodesState : Type 0 where
  pub table : TableId
  pub codes : List Parts
