-- When memory may run out.
use Rattle.td_parser_expr.specs.declared.failure.Failure.{Failure}
use Rattle.td_parser_expr.specs.declared.failure.Failure.TheVariants as failures

-- this holds where memory ran out
abbrev pub OnMemory : Type 0 → Failure → Type 0
OnMemory P failures.OutOfMemory = P
OnMemory P (failures.Unexpected rest) = Unit {0}
OnMemory P (failures.TooDeep rest) = Unit {0}
