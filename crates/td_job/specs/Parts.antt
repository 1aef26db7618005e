-- The parts that a path is written of (own rule).
use Rattle.std.specs.Prelude.{ℕ, List, ◌++◌, Some, codes}
use Rattle.td_core.specs.Paths.{indexed}
use Rattle.td_job.specs.declared.error.PathParts.{PathParts}
use Rattle.td_job.specs.declared.error.PathParts.TheVariants.{Name, Within, Inside}
use Rattle.td_job.specs.Errors.{placed}

-- a name, and the place in a list in brackets after it, where there is one; the same after an element of a list and a dot; or a
-- name, places in brackets, and a code after a blank
abbrev pub parts_bytes : PathParts → List ℕ
parts_bytes (Name name index) = indexed name.now index
parts_bytes (Within element name index) = indexed element.list.now (Some element.place) ++ codes "." ++ indexed name.now index
parts_bytes (Inside name places code) = placed name.now places.now ++ codes " " ++ code.now
