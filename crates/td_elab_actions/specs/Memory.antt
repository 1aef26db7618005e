-- Which assigned values take memory.
use Rattle.td_ast.specs.declared.actions.Assigned.{Assigned}
use Rattle.td_ast.specs.declared.actions.Assigned.TheVariants.{Value, FieldPtr}
use Rattle.td_elab_exprs.specs.Memory.{HasOperator}

-- it is an expression that has an operator or is `is_range_okay`
abbrev pub StoresOperator : Assigned → Type 0
StoresOperator (Value e) = HasOperator e
StoresOperator (FieldPtr at) = ⊥
