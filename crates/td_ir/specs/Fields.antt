-- An instruction as a row of fields, as an image has it: the number of its kind and seven operands, zero where the kind hasn't one
-- (own rule; docs/language/images.md).
use Rattle.std.specs.Prelude.{ℕ, List, [], ◌∷◌, Option, Some, None, if◌then◌else◌, slice_index_or}
use Rattle.td_ir.specs.declared.instructions.Instr.{Instr}
use Rattle.td_ir.specs.declared.instructions.Instr.TheVariants as i
use Rattle.td_ir.specs.declared.fields.Fields.{Fields}
use Rattle.td_ir.specs.declared.opcodes.Operand.{Operand}
use Rattle.td_ir.specs.declared.opcodes.OperandField.{OperandField}
use Rattle.td_ir.specs.declared.opcodes.OperandField.TheVariants as f
use Rattle.td_ir.specs.Opcodes.{field_of, has}

-- the instructions of all kinds from fields, in order
abbrev pub makers : List (Fields → Instr)
makers =
    (λ f. i.Const f.a f.k) ∷
    (λ f. i.Member f.a f.b f.t) ∷
    (λ f. i.Op f.a f.x f.b f.c) ∷
    (λ f. i.Bits f.a f.b f.x f.c) ∷
    (λ f. i.Pos f.a) ∷
    (λ f. i.Jump f.t) ∷
    (λ f. i.JumpIf f.b f.t) ∷
    (λ f. i.JumpUnless f.b f.t) ∷
    (λ f. i.Call f.a f.t f.k f.site) ∷
    (λ f. i.Return) ∷
    (λ f. i.Fetch f.a f.x f.c f.site) ∷
    (λ f. i.SkipK f.k f.site) ∷
    (λ f. i.Skip f.b f.site) ∷
    (λ f. i.Rest) ∷
    (λ f. i.Zeros f.site) ∷
    (λ f. i.Zeroterm f.b f.c f.site) ∷
    (λ f. i.NarrowK f.k f.site) ∷
    (λ f. i.Narrow f.b f.site) ∷
    (λ f. i.Divides f.b f.k f.site) ∷
    (λ f. i.While f.t) ∷
    (λ f. i.Again f.t) ∷
    (λ f. i.Widen f.site) ∷
    (λ f. i.Fail f.x f.site) ∷
    (λ f. i.Get f.a f.c) ∷
    (λ f. i.Set f.b f.c) ∷
    (λ f. i.Mark) ∷
    (λ f. i.Copy f.b f.c f.site) ∷
    (λ f. i.Left f.a) ∷
    []

abbrev pub instruction_by : ℕ → Fields → Instr
instruction_by number f = slice_index_or makers number (λ f. i.Mark) f

-- the instruction of fields
abbrev pub instruction_of : Fields → Instr
instruction_of f = instruction_by f.number f

abbrev pub no_operands : ℕ → Fields
no_operands number = record { number = number; x = 0; a = 0; b = 0; c = 0; t = 0; site = 0; k = 0 }

-- the fields of an instruction
abbrev pub fields_of : Instr → Fields
fields_of (i.Const into value) = record { number = 0; x = 0; a = into; b = 0; c = 0; t = 0; site = 0; k = value }
fields_of (i.Member into source set) = record { number = 1; x = 0; a = into; b = source; c = 0; t = set; site = 0; k = 0 }
fields_of (i.Op into operator left right) = record { number = 2; x = operator; a = into; b = left; c = right; t = 0; site = 0; k = 0 }
fields_of (i.Bits into source low count) = record { number = 3; x = low; a = into; b = source; c = count; t = 0; site = 0; k = 0 }
fields_of (i.Pos into) = record { number = 4; x = 0; a = into; b = 0; c = 0; t = 0; site = 0; k = 0 }
fields_of (i.Jump target) = record { number = 5; x = 0; a = 0; b = 0; c = 0; t = target; site = 0; k = 0 }
fields_of (i.JumpIf test target) = record { number = 6; x = 0; a = 0; b = test; c = 0; t = target; site = 0; k = 0 }
fields_of (i.JumpUnless test target) = record { number = 7; x = 0; a = 0; b = test; c = 0; t = target; site = 0; k = 0 }
fields_of (i.Call first routine map site) = record { number = 8; x = 0; a = first; b = 0; c = 0; t = routine; site = site; k = map }
fields_of i.Return = record { number = 9; x = 0; a = 0; b = 0; c = 0; t = 0; site = 0; k = 0 }
fields_of (i.Fetch into order width site) = record { number = 10; x = order; a = into; b = 0; c = width; t = 0; site = site; k = 0 }
fields_of (i.SkipK bytes site) = record { number = 11; x = 0; a = 0; b = 0; c = 0; t = 0; site = site; k = bytes }
fields_of (i.Skip size site) = record { number = 12; x = 0; a = 0; b = size; c = 0; t = 0; site = site; k = 0 }
fields_of i.Rest = record { number = 13; x = 0; a = 0; b = 0; c = 0; t = 0; site = 0; k = 0 }
fields_of (i.Zeros site) = record { number = 14; x = 0; a = 0; b = 0; c = 0; t = 0; site = site; k = 0 }
fields_of (i.Zeroterm bound width site) = record { number = 15; x = 0; a = 0; b = bound; c = width; t = 0; site = site; k = 0 }
fields_of (i.NarrowK bytes site) = record { number = 16; x = 0; a = 0; b = 0; c = 0; t = 0; site = site; k = bytes }
fields_of (i.Narrow size site) = record { number = 17; x = 0; a = 0; b = size; c = 0; t = 0; site = site; k = 0 }
fields_of (i.Divides size step site) = record { number = 18; x = 0; a = 0; b = size; c = 0; t = 0; site = site; k = step }
fields_of (i.While target) = record { number = 19; x = 0; a = 0; b = 0; c = 0; t = target; site = 0; k = 0 }
fields_of (i.Again target) = record { number = 20; x = 0; a = 0; b = 0; c = 0; t = target; site = 0; k = 0 }
fields_of (i.Widen site) = record { number = 21; x = 0; a = 0; b = 0; c = 0; t = 0; site = site; k = 0 }
fields_of (i.Fail reason site) = record { number = 22; x = reason; a = 0; b = 0; c = 0; t = 0; site = site; k = 0 }
fields_of (i.Get into cell) = record { number = 23; x = 0; a = into; b = 0; c = cell; t = 0; site = 0; k = 0 }
fields_of (i.Set source cell) = record { number = 24; x = 0; a = 0; b = source; c = cell; t = 0; site = 0; k = 0 }
fields_of i.Mark = record { number = 25; x = 0; a = 0; b = 0; c = 0; t = 0; site = 0; k = 0 }
fields_of (i.Copy size buffer site) = record { number = 26; x = 0; a = 0; b = size; c = buffer; t = 0; site = site; k = 0 }
fields_of (i.Left into) = record { number = 27; x = 0; a = into; b = 0; c = 0; t = 0; site = 0; k = 0 }

abbrev pub in_field : Fields → OperandField → ℕ
in_field fields f.X = fields.x
in_field fields f.A = fields.a
in_field fields f.B = fields.b
in_field fields f.C = fields.c
in_field fields f.T = fields.t
in_field fields f.Site = fields.site
in_field fields f.K = fields.k

-- an operand of fields
abbrev pub value_of : Fields → Operand → ℕ
value_of fields operand = in_field fields (field_of operand)

-- the site that an instruction names
abbrev pub named : Instr → Option ℕ
named j = if has (fields_of j).number f.Site then Some (fields_of j).site else None
