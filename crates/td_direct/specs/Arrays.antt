-- Arrays, as far as they are validated by one function; of use inside this crate alone.
use Rattle.std.specs.Prelude.{ℕ, suc, ◌-◌, nat_eq, List}
use Rattle.td_direct.specs.Imports.{ListSize}
use Rattle.td_core.specs.Outcome.{Behavior}
use Rattle.td_meaning.specs.Meaning.{demanded, elements}

-- elements up to the end, of a field that began at start
abbrev pub window_elements : (ℕ → List ℕ → Behavior) → ℕ → ℕ → ℕ → List ℕ → Behavior
window_elements each start end p cells = elements each (suc (end - p)) start end p cells

-- an element must have ended at the end
abbrev pub once_rest : ℕ → ℕ → ℕ → List ℕ → Behavior
once_rest start end r cells = demanded ListSize (nat_eq r end) start r cells
