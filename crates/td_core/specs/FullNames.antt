-- The names of definitions of parts, as they are told (own rule: several modules in one text).
use Rattle.std.specs.Prelude.{ℕ, List, ◌∷◌, ◌++◌, Option, Some, None}
use Rattle.td_num.specs.declared.text.TheConstants.{DOT}

-- a part's name, a dot and the name there
abbrev pub name_in : List ℕ → List ℕ → List ℕ
name_in part own = part ++ DOT ∷ own

-- a name of a part, or a name of no part
abbrev pub full_name : Option (List ℕ) → List ℕ → List ℕ
full_name None own = own
full_name (Some part) own = name_in part own
