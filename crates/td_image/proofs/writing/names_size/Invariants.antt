use Rattle.std.proofs.Common.{◌≡◌, length, min, take}
use Rattle.std.specs.List.{flat_map}
use Rattle.td_image.specs.Rows as rows
use Rattle.td_image.proofs.writing.names_size.Given as goal

-- the size of the names before this one
abbrev pub invariant-loop-name : goal.invariant-loop-name
invariant-loop-name l = l.size ≡ min (length (flat_map rows.name (take l.name-index l.names))) 18446744073709551615
