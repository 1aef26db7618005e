use Rattle.std.proofs.Common.{sym, subst}
use Rattle.td_num.specs.Lists.{Each}
use Rattle.td_ir.specs.Opcodes.{row_of}
use Rattle.td_verify.specs.Operands.{HasRegister}
use Rattle.td_verify.proofs.Registers.{by_operands}
use Rattle.td_verify.proofs.operands.has_registers.Goals as goal

pub returns : goal.returns
returns c =
    let n = c.args.count in
    let m = c.args.params in
    let B = by_operands n m c.args.instruction in
    let e = c.fields_of-fields.ensures in
    let o = c.opcode_of.ensures.operands in
    let R = c.are_registers.ensures in (
      λ h. B.0 (subst (λ f. Each (HasRegister n m f) (row_of f.number).operands) e (subst (λ os. Each (HasRegister n m c.fields_of-fields.result) os) o (R.0 h))),
      λ h. R.1 (subst (λ os. Each (HasRegister n m c.fields_of-fields.result) os) (sym o) (subst (λ f. Each (HasRegister n m f) (row_of f.number).operands) (sym e) (B.1 h))),
    )
