-- The registers of an instruction by its operands are those of the rule (V2).
use Rattle.std.proofs.Common.{◌↔◌, ℕ}
use Rattle.td_num.specs.Lists.{Each}
use Rattle.td_ir.specs.declared.instructions.Instr.{Instr}
use Rattle.td_ir.specs.declared.instructions.Instr.TheVariants as i
use Rattle.td_ir.specs.Fields.{fields_of}
use Rattle.td_ir.specs.Opcodes.{row_of}
use Rattle.td_verify.specs.Operands.{HasRegister, HasRegisters}

pub by_operands : (count params : ℕ) (j : Instr) → Each (HasRegister count params (fields_of j)) (row_of (fields_of j).number).operands ↔ HasRegisters count params j
by_operands count params (i.Const into value) = (λ h. h.0, λ h. (h, (tt, tt)))
by_operands count params (i.Member into source set) = (λ h. (h.0, h.1.0), λ h. (h.0, (h.1, (tt, tt))))
by_operands count params (i.Op into operator left right) = (λ h. (h.0, h.1.1.0, h.1.1.1.0), λ h. (h.0, (tt, (h.1, (h.2, tt)))))
by_operands count params (i.Bits into source low bits) = (λ h. (h.0, h.1.0), λ h. (h.0, (h.1, (tt, (tt, tt)))))
by_operands count params (i.Pos into) = (λ h. h.0, λ h. (h, tt))
by_operands count params (i.Jump target) = (λ h. tt, λ h. (tt, tt))
by_operands count params (i.JumpIf test target) = (λ h. h.0, λ h. (h, (tt, tt)))
by_operands count params (i.JumpUnless test target) = (λ h. h.0, λ h. (h, (tt, tt)))
by_operands count params (i.Call first routine map site) = (λ h. h.0, λ h. (h, (tt, (tt, (tt, tt)))))
by_operands count params i.Return = (λ h. tt, λ h. tt)
by_operands count params (i.Fetch into order width site) = (λ h. h.0, λ h. (h, (tt, (tt, (tt, tt)))))
by_operands count params (i.SkipK bytes site) = (λ h. tt, λ h. (tt, (tt, tt)))
by_operands count params (i.Skip size site) = (λ h. h.0, λ h. (h, (tt, tt)))
by_operands count params i.Rest = (λ h. tt, λ h. tt)
by_operands count params (i.Zeros site) = (λ h. tt, λ h. (tt, tt))
by_operands count params (i.Zeroterm bound width site) = (λ h. h.0, λ h. (h, (tt, (tt, tt))))
by_operands count params (i.NarrowK bytes site) = (λ h. tt, λ h. (tt, (tt, tt)))
by_operands count params (i.Narrow size site) = (λ h. h.0, λ h. (h, (tt, tt)))
by_operands count params (i.Divides size step site) = (λ h. h.0, λ h. (h, (tt, (tt, tt))))
by_operands count params (i.While target) = (λ h. tt, λ h. (tt, tt))
by_operands count params (i.Again target) = (λ h. tt, λ h. (tt, tt))
by_operands count params (i.Widen site) = (λ h. tt, λ h. (tt, tt))
by_operands count params (i.Fail reason site) = (λ h. tt, λ h. (tt, (tt, tt)))
by_operands count params (i.Get into cell) = (λ h. h.0, λ h. (h, (tt, tt)))
by_operands count params (i.Set source cell) = (λ h. h.0, λ h. (h, (tt, tt)))
by_operands count params i.Mark = (λ h. tt, λ h. tt)
by_operands count params (i.Copy size buffer site) = (λ h. h.0, λ h. (h, (tt, (tt, tt))))
by_operands count params (i.Left into) = (λ h. h.0, λ h. (h, tt))
