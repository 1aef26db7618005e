-- Extents of fields (3D manual, "Arrays").
use Rattle.std.specs.Prelude.{Bool, true, false, Option, Some, None}
use Rattle.td_ast.specs.declared.fields.ExtentTree.{ExtentTree}
use Rattle.td_ast.specs.declared.fields.ExtentTree.TheVariants.{Bytes, ByteSize, SingleElement, Zeroterm, Bits, Given, OfCell}

-- an array, a single element too
abbrev pub is_array : Option ExtentTree → Bool
is_array None = false
is_array (Some (Bytes e)) = true
is_array (Some (ByteSize e)) = true
is_array (Some (SingleElement e)) = true
is_array (Some (Zeroterm e)) = true
is_array (Some (Bits n)) = false
is_array (Some (Given e)) = false
is_array (Some (OfCell at n)) = false
