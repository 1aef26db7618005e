use Rattle.std.proofs.Common.{take}
use Rattle.td_num.specs.Lists.{Each}
use Rattle.td_verify.specs.Operands.{HasRegister}
use Rattle.td_verify.proofs.operands.are_registers.Given as goal

abbrev pub invariant-loop-operand : goal.invariant-loop-operand
invariant-loop-operand l = Each (HasRegister l.count l.params l.fields) (take l.operand-index l.operands)
