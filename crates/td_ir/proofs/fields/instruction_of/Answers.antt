use Rattle.std.proofs.Common.{◌≡◌, ◌≤◌, inl, inr, refl, sym, ap, arith}
use Rattle.std.proofs.lemmas.Bool.{cases_lt}
use Rattle.std.proofs.lemmas.List.{get_or_past}
use Rattle.td_ir.specs.declared.instructions.Instr.{Instr}
use Rattle.td_ir.specs.declared.fields.Fields.{Fields}
use Rattle.td_ir.specs.Fields.{makers}
use Rattle.td_ir.proofs.fields.instruction_of.Goals as goal

pub returns-in-0 : goal.returns-in-0
returns-in-0 c = rw (c.in-0.is) refl

pub returns-in-1 : goal.returns-in-1
returns-in-1 c = rw (c.in-1.is) refl

pub returns-in-2 : goal.returns-in-2
returns-in-2 c = rw (c.in-2.is) refl

pub returns-in-3 : goal.returns-in-3
returns-in-3 c = rw (c.in-3.is) refl

pub returns-in-4 : goal.returns-in-4
returns-in-4 c = rw (c.in-4.is) refl

pub returns-in-5 : goal.returns-in-5
returns-in-5 c = rw (c.in-5.is) refl

pub returns-in-6 : goal.returns-in-6
returns-in-6 c = rw (c.in-6.is) refl

pub returns-in-7 : goal.returns-in-7
returns-in-7 c = rw (c.in-7.is) refl

pub returns-in-8 : goal.returns-in-8
returns-in-8 c = rw (c.in-8.is) refl

pub returns-in-9 : goal.returns-in-9
returns-in-9 c = rw (c.in-9.is) refl

pub returns-in-10 : goal.returns-in-10
returns-in-10 c = rw (c.in-10.is) refl

pub returns-in-11 : goal.returns-in-11
returns-in-11 c = rw (c.in-11.is) refl

pub returns-in-12 : goal.returns-in-12
returns-in-12 c = rw (c.in-12.is) refl

pub returns-in-13 : goal.returns-in-13
returns-in-13 c = rw (c.in-13.is) refl

pub returns-in-14 : goal.returns-in-14
returns-in-14 c = rw (c.in-14.is) refl

pub returns-in-15 : goal.returns-in-15
returns-in-15 c = rw (c.in-15.is) refl

pub returns-in-16 : goal.returns-in-16
returns-in-16 c = rw (c.in-16.is) refl

pub returns-in-17 : goal.returns-in-17
returns-in-17 c = rw (c.in-17.is) refl

pub returns-in-18 : goal.returns-in-18
returns-in-18 c = rw (c.in-18.is) refl

pub returns-in-19 : goal.returns-in-19
returns-in-19 c = rw (c.in-19.is) refl

pub returns-in-20 : goal.returns-in-20
returns-in-20 c = rw (c.in-20.is) refl

pub returns-in-21 : goal.returns-in-21
returns-in-21 c = rw (c.in-21.is) refl

pub returns-in-22 : goal.returns-in-22
returns-in-22 c = rw (c.in-22.is) refl

pub returns-in-23 : goal.returns-in-23
returns-in-23 c = rw (c.in-23.is) refl

pub returns-in-24 : goal.returns-in-24
returns-in-24 c = rw (c.in-24.is) refl

pub returns-in-26 : goal.returns-in-26
returns-in-26 c = rw (c.in-26.is) refl

pub returns-in-27 : goal.returns-in-27
returns-in-27 c = rw (c.in-27.is) refl

pub returns-in_default : goal.returns-in_default
returns-in_default c = elim (cases_lt c.args.f.number 26) [
  | inl few ↦ (let is : c.args.f.number ≡ 25 = omega (arith, c.in_default, few) in rw (is) refl)
  | inr more ↦
      let past : 28 ≤ c.args.f.number = omega (arith, c.in_default, more) in
      sym (ap (λ (m : Fields → Instr). m c.args.f) (get_or_past makers _ _ past))
]
