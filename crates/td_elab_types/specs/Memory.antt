-- Which types and parameters take memory.
use Rattle.std.specs.Prelude.{◌<◌, length}
use Rattle.td_ast.specs.declared.fields.TypeKind.{TypeKind}
use Rattle.td_ast.specs.declared.fields.TypeKind.TheVariants as type
use Rattle.td_elab_rules.specs.declared.known.Parameter.{Parameter}
use Rattle.td_elab_rules.specs.declared.known.Parameter.TheVariants.{Value, Cells, Buffer}

-- it has arguments
abbrev pub HasArguments : TypeKind → Type 0
HasArguments (type.Number t) = ⊥
HasArguments type.Unit = ⊥
HasArguments type.AllBytes = ⊥
HasArguments type.AllZeros = ⊥
HasArguments (type.Named n args) = 0 < length args

-- it takes a value, and neither cells nor a copy buffer
abbrev pub IsValue : Parameter → Type 0
IsValue (Value w) = Unit {0}
IsValue (Cells t) = ⊥
IsValue (Buffer room) = ⊥
