-- The code that a session has (own rule).
use Rattle.std.specs.Prelude.{ℕ, List, [], slice_index_or}
use Rattle.std.specs.Arc.{arc_value}
use Rattle.td_ir.specs.declared.tables.Parts.{Parts}
use Rattle.td_session.specs.declared.kept.Source.{Source}
use Rattle.td_session.specs.declared.kept.Source.TheVariants.{Own, Listed}

-- what is said of a place that a list hasn't never matters
abbrev pub no_code : Parts
no_code = record { names = []; sites = []; maps = []; sets = []; routines = []; entries = []; instructions = [] }

abbrev pub code_at : List Parts → ℕ → Parts
code_at codes n = slice_index_or codes n no_code

-- the code that stands there
abbrev pub code_in : Source → Parts
code_in (Own code) = code
code_in (Listed version) = code_at (arc_value version.codes).codes version.at
