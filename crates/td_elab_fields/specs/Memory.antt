-- Which arrays, and which fields without bytes, take memory.
use Rattle.std.specs.Prelude.{Option, Some, None}
use Rattle.td_ast.specs.declared.fields.ExtentTree.{ExtentTree}
use Rattle.td_ast.specs.declared.fields.ExtentTree.TheVariants.{Bytes, ByteSize, SingleElement, Zeroterm, Bits, Given, OfCell}
use Rattle.td_elab_exprs.specs.Memory.{HasOperator}

-- an array's size, or a value that is given, has an operator or is `is_range_okay`
abbrev pub HasSizeOperator : Option ExtentTree → Type 0
HasSizeOperator None = ⊥
HasSizeOperator (Some (Bytes e)) = HasOperator e
HasSizeOperator (Some (ByteSize e)) = HasOperator e
HasSizeOperator (Some (SingleElement e)) = HasOperator e
HasSizeOperator (Some (Zeroterm e)) = HasOperator e
HasSizeOperator (Some (Bits n)) = ⊥
HasSizeOperator (Some (Given e)) = HasOperator e
HasSizeOperator (Some (OfCell star p)) = ⊥
