-- Which numbers of a struct are needed, by marks of levels; of use below the validator alone.
use Rattle.std.specs.Prelude.{◌≡◌, ℕ, ◌+◌, ◌<◌, ◌||◌, Bool, false, List, [], ◌∷◌, length, get_or}
use Rattle.td_core.specs.declared.module.Field.{Field}
use Rattle.td_meaning.specs.Naming.{is_needed}

-- each level has a mark just where the test says so
pub record AreMarks (marks : List Bool) (test : ℕ → Bool) : Type 0 where
  pub at : (i : ℕ) → i < length marks → get_or marks i false ≡ test i

-- just the levels of the test were marked
pub record Marked (old new : List Bool) (test : ℕ → Bool) : Type 0 where
  pub long : length new ≡ length old
  pub at : (i : ℕ) → i < length old → get_or new i false ≡ (get_or old i false || test i)

-- as many values as fields bring into scope
abbrev pub levels_of : List Field → ℕ
levels_of [] = 0
levels_of (f ∷ fs) = length f.parts + levels_of fs

-- for each field whether its number is needed, the first one's value at this level
abbrev pub needed_list : ℕ → List Field → List Bool
needed_list level [] = []
needed_list level (f ∷ later) = is_needed level f.parts later ∷ needed_list (level + length f.parts) later
