-- The table of instructions (own rule; docs/language/code.md has it with what each does): of each kind, by its number, its name and
-- its operands in the order of the listing.
use Rattle.std.specs.Prelude.{ℕ, Bool, true, false, List, [], ◌∷◌, codes, slice_index_or}
use Rattle.std.specs.List.{list_any}
use Rattle.td_ir.specs.declared.opcodes.Operand.{Operand}
use Rattle.td_ir.specs.declared.opcodes.Operand.TheVariants.{Into, First, Source, Left, Right, Test, Size, Bound, Operator, Low, Count, Order, Width, Reason, Cell, Buffer, Set, Target, Routine, Map, Value, Bytes, Step, Site}
use Rattle.td_ir.specs.declared.opcodes.Opcode.{Opcode}
use Rattle.td_ir.specs.declared.opcodes.OperandField.{OperandField}
use Rattle.td_ir.specs.declared.opcodes.OperandField.TheVariants as f

pub record Row : Type 0 where
  pub name : List ℕ
  pub operands : List Operand

abbrev pub table : List Row
table =
    record { name = codes "Const"; operands = Into ∷ Value ∷ [] } ∷
    record { name = codes "Member"; operands = Into ∷ Source ∷ Set ∷ [] } ∷
    record { name = codes "Op"; operands = Into ∷ Operator ∷ Left ∷ Right ∷ [] } ∷
    record { name = codes "Bits"; operands = Into ∷ Source ∷ Low ∷ Count ∷ [] } ∷
    record { name = codes "Pos"; operands = Into ∷ [] } ∷
    record { name = codes "Jump"; operands = Target ∷ [] } ∷
    record { name = codes "JumpIf"; operands = Test ∷ Target ∷ [] } ∷
    record { name = codes "JumpUnless"; operands = Test ∷ Target ∷ [] } ∷
    record { name = codes "Call"; operands = First ∷ Routine ∷ Map ∷ Site ∷ [] } ∷
    record { name = codes "Return"; operands = [] } ∷
    record { name = codes "Fetch"; operands = Into ∷ Order ∷ Width ∷ Site ∷ [] } ∷
    record { name = codes "SkipK"; operands = Bytes ∷ Site ∷ [] } ∷
    record { name = codes "Skip"; operands = Size ∷ Site ∷ [] } ∷
    record { name = codes "Rest"; operands = [] } ∷
    record { name = codes "Zeros"; operands = Site ∷ [] } ∷
    record { name = codes "Zeroterm"; operands = Bound ∷ Width ∷ Site ∷ [] } ∷
    record { name = codes "NarrowK"; operands = Bytes ∷ Site ∷ [] } ∷
    record { name = codes "Narrow"; operands = Size ∷ Site ∷ [] } ∷
    record { name = codes "Divides"; operands = Size ∷ Step ∷ Site ∷ [] } ∷
    record { name = codes "While"; operands = Target ∷ [] } ∷
    record { name = codes "Again"; operands = Target ∷ [] } ∷
    record { name = codes "Widen"; operands = Site ∷ [] } ∷
    record { name = codes "Fail"; operands = Reason ∷ Site ∷ [] } ∷
    record { name = codes "Get"; operands = Into ∷ Cell ∷ [] } ∷
    record { name = codes "Set"; operands = Source ∷ Cell ∷ [] } ∷
    record { name = codes "Mark"; operands = [] } ∷
    record { name = codes "Copy"; operands = Size ∷ Buffer ∷ Site ∷ [] } ∷
    record { name = codes "Left"; operands = Into ∷ [] } ∷
    []

-- a row of a table by its number; a number that it hasn't stands for one without name and operands
abbrev pub row_in : List Row → ℕ → Row
row_in rows number = slice_index_or rows number (record { name = []; operands = [] })

abbrev pub row_of : ℕ → Row
row_of number = row_in table number

-- a row of the program's table, without where its name and its operands are kept
abbrev pub view : Opcode → Row
view opcode = record { name = opcode.name.now; operands = opcode.operands.now }

-- the field of an image in which an operand stands
abbrev pub field_of : Operand → OperandField
field_of Operator = f.X
field_of Low = f.X
field_of Order = f.X
field_of Reason = f.X
field_of Into = f.A
field_of First = f.A
field_of Source = f.B
field_of Left = f.B
field_of Test = f.B
field_of Size = f.B
field_of Bound = f.B
field_of Right = f.C
field_of Count = f.C
field_of Width = f.C
field_of Cell = f.C
field_of Buffer = f.C
field_of Set = f.T
field_of Target = f.T
field_of Routine = f.T
field_of Site = f.Site
field_of Value = f.K
field_of Map = f.K
field_of Bytes = f.K
field_of Step = f.K

abbrev pub is_same : OperandField → OperandField → Bool
is_same f.X f.X = true
is_same f.A f.A = true
is_same f.B f.B = true
is_same f.C f.C = true
is_same f.T f.T = true
is_same f.Site f.Site = true
is_same f.K f.K = true
is_same a b = false

-- whether a kind has an operand in a field
abbrev pub has : ℕ → OperandField → Bool
has number field = list_any (λ operand. is_same (field_of operand) field) (row_of number).operands
