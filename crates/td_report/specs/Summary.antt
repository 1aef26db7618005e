-- What is told of an accepted module (own rule): `ok definitions D entries E`.
use Rattle.std.specs.Prelude.{ℕ, List, ◌++◌, length, codes, decimal}
use Rattle.td_report.specs.Imports.{Module}

-- how many definitions its text has, and how many entry points
unfoldable pub summary : Module → List ℕ
summary m = codes "ok definitions " ++ decimal m.written ++ codes " entries " ++ decimal (length m.entries) ++ codes "\n"
