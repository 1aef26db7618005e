use Rattle.std.proofs.Common.{◌≡◌, false, take}
use Rattle.std.specs.List.{list_any}
use Rattle.td_ir.specs.Opcodes.{is_same, field_of}
use Rattle.td_ir.proofs.opcodes.has.Given as goal

abbrev pub invariant-loop-operand : goal.invariant-loop-operand
invariant-loop-operand l = list_any (λ operand. is_same (field_of operand) l.field) (take l.operand-index l.operand-items) ≡ false
