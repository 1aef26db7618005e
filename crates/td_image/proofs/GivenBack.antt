-- An instruction's fields give it back, and those that fit are given back.
use Rattle.std.proofs.Common.{◌≡◌, ℕ, zero, suc, ◌≤◌, Bool, cond, refl, arith}
use Rattle.td_image.specs.Imports.{Instr, Fields}
use Rattle.td_ir.specs.declared.instructions.Instr.TheVariants as i
use Rattle.td_ir.specs.declared.opcodes.OperandField.TheVariants as field
use Rattle.td_ir.specs.Opcodes.{has}
use Rattle.td_ir.specs.Fields.{instruction_by, instruction_of, fields_of}

pub given_back : (i : Instr) → instruction_of (fields_of i) ≡ i
given_back (i.Const into value) = refl
given_back (i.Member into source set) = refl
given_back (i.Op into operator left right) = refl
given_back (i.Bits into source low count) = refl
given_back (i.Pos into) = refl
given_back (i.Jump target) = refl
given_back (i.JumpIf test target) = refl
given_back (i.JumpUnless test target) = refl
given_back (i.Call first routine map site) = refl
given_back i.Return = refl
given_back (i.Fetch into order width site) = refl
given_back (i.SkipK bytes site) = refl
given_back (i.Skip size site) = refl
given_back i.Rest = refl
given_back (i.Zeros site) = refl
given_back (i.Zeroterm bound width site) = refl
given_back (i.NarrowK bytes site) = refl
given_back (i.Narrow size site) = refl
given_back (i.Divides size step site) = refl
given_back (i.While target) = refl
given_back (i.Again target) = refl
given_back (i.Widen site) = refl
given_back (i.Fail reason site) = refl
given_back (i.Get into cell) = refl
given_back (i.Set source cell) = refl
given_back i.Mark = refl
given_back (i.Copy size buffer site) = refl
given_back (i.Left into) = refl

abbrev pub keep : Bool → ℕ → ℕ
keep used n = cond used n 0

-- without what the kind hasn't
abbrev pub kept : ℕ → Fields → Fields
kept n f =
    record { number = n; x = keep (has n field.X) f.x; a = keep (has n field.A) f.a; b = keep (has n field.B) f.b; c = keep (has n field.C) f.c; t = keep (has n field.T) f.t; site = keep (has n field.Site) f.site; k = keep (has n field.K) f.k }

pub kept_by : (number : ℕ) (f : Fields) → number ≤ 27 → fields_of (instruction_by number f) ≡ kept number f
kept_by zero f le = refl
kept_by (suc zero) f le = refl
kept_by (suc (suc zero)) f le = refl
kept_by (suc (suc (suc zero))) f le = refl
kept_by (suc (suc (suc (suc zero)))) f le = refl
kept_by (suc (suc (suc (suc (suc zero))))) f le = refl
kept_by (suc (suc (suc (suc (suc (suc zero)))))) f le = refl
kept_by (suc (suc (suc (suc (suc (suc (suc zero))))))) f le = refl
kept_by (suc (suc (suc (suc (suc (suc (suc (suc zero)))))))) f le = refl
kept_by (suc (suc (suc (suc (suc (suc (suc (suc (suc zero))))))))) f le = refl
kept_by (suc (suc (suc (suc (suc (suc (suc (suc (suc (suc zero)))))))))) f le = refl
kept_by (suc (suc (suc (suc (suc (suc (suc (suc (suc (suc (suc zero))))))))))) f le = refl
kept_by (suc (suc (suc (suc (suc (suc (suc (suc (suc (suc (suc (suc zero)))))))))))) f le = refl
kept_by (suc (suc (suc (suc (suc (suc (suc (suc (suc (suc (suc (suc (suc zero))))))))))))) f le = refl
kept_by (suc (suc (suc (suc (suc (suc (suc (suc (suc (suc (suc (suc (suc (suc zero)))))))))))))) f le = refl
kept_by (suc (suc (suc (suc (suc (suc (suc (suc (suc (suc (suc (suc (suc (suc (suc zero))))))))))))))) f le = refl
kept_by (suc (suc (suc (suc (suc (suc (suc (suc (suc (suc (suc (suc (suc (suc (suc (suc zero)))))))))))))))) f le = refl
kept_by (suc (suc (suc (suc (suc (suc (suc (suc (suc (suc (suc (suc (suc (suc (suc (suc (suc zero))))))))))))))))) f le = refl
kept_by (suc (suc (suc (suc (suc (suc (suc (suc (suc (suc (suc (suc (suc (suc (suc (suc (suc (suc zero)))))))))))))))))) f le = refl
kept_by (suc (suc (suc (suc (suc (suc (suc (suc (suc (suc (suc (suc (suc (suc (suc (suc (suc (suc (suc zero))))))))))))))))))) f le = refl
kept_by (suc (suc (suc (suc (suc (suc (suc (suc (suc (suc (suc (suc (suc (suc (suc (suc (suc (suc (suc (suc zero)))))))))))))))))))) f le = refl
kept_by (suc (suc (suc (suc (suc (suc (suc (suc (suc (suc (suc (suc (suc (suc (suc (suc (suc (suc (suc (suc (suc zero))))))))))))))))))))) f le = refl
kept_by (suc (suc (suc (suc (suc (suc (suc (suc (suc (suc (suc (suc (suc (suc (suc (suc (suc (suc (suc (suc (suc (suc zero)))))))))))))))))))))) f le = refl
kept_by (suc (suc (suc (suc (suc (suc (suc (suc (suc (suc (suc (suc (suc (suc (suc (suc (suc (suc (suc (suc (suc (suc (suc zero))))))))))))))))))))))) f le = refl
kept_by (suc (suc (suc (suc (suc (suc (suc (suc (suc (suc (suc (suc (suc (suc (suc (suc (suc (suc (suc (suc (suc (suc (suc (suc zero)))))))))))))))))))))))) f le = refl
kept_by (suc (suc (suc (suc (suc (suc (suc (suc (suc (suc (suc (suc (suc (suc (suc (suc (suc (suc (suc (suc (suc (suc (suc (suc (suc zero))))))))))))))))))))))))) f le = refl
kept_by (suc (suc (suc (suc (suc (suc (suc (suc (suc (suc (suc (suc (suc (suc (suc (suc (suc (suc (suc (suc (suc (suc (suc (suc (suc (suc zero)))))))))))))))))))))))))) f le = refl
kept_by (suc (suc (suc (suc (suc (suc (suc (suc (suc (suc (suc (suc (suc (suc (suc (suc (suc (suc (suc (suc (suc (suc (suc (suc (suc (suc (suc zero))))))))))))))))))))))))))) f le = refl
kept_by (suc (suc (suc (suc (suc (suc (suc (suc (suc (suc (suc (suc (suc (suc (suc (suc (suc (suc (suc (suc (suc (suc (suc (suc (suc (suc (suc (suc n)))))))))))))))))))))))))))) f le = absurd (omega (arith, le))
