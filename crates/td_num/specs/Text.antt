-- The dot between the two names of `M.x` (own rule: several modules in one text).
use Rattle.std.specs.Prelude.{ℕ, Bool, ◌==◌}
use Rattle.td_num.specs.declared.text.TheConstants.{DOT}

abbrev pub is_dot : ℕ → Bool
is_dot b = b == DOT
