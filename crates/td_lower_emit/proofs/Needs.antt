-- Levels behind a field's parts, in either order.
use Rattle.std.proofs.Common.{◌≡◌, ℕ, ◌+◌, List, ap, arith}
use Rattle.td_core.specs.declared.module.Field.{Field}
use Rattle.td_meaning_needed.specs.Needed.{needed_list}

pub needed_turned : (level count : ℕ) (fs : List Field) → needed_list (level + count) fs ≡ needed_list (count + level) fs
needed_turned level count fs = let e : level + count ≡ count + level = omega arith in ap (λ n. needed_list n fs) e
