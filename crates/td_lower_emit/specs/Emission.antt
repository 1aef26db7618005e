-- What code is written for constructs, by what stands behind it.
use Rattle.std.specs.Prelude.{◌≡◌, ℕ, ◌+◌, Bool, true, false, List, ◌++◌, length}
use Rattle.td_ir.specs.declared.instructions.Instr.{Instr}
use Rattle.td_ir.specs.declared.instructions.Instr.TheVariants as i
use Rattle.td_core.specs.declared.expressions.Binary.{Binary}
use Rattle.td_core.specs.declared.expressions.Binary.TheVariants.{Add, Subtract, Multiply, Divide, Remainder, BitAnd, BitOr, BitXor, ShiftLeft, ShiftRight}
use Rattle.td_core.specs.declared.expressions.Relation.{Relation}
use Rattle.td_core.specs.declared.expressions.Relation.TheVariants.{Equal, NotEqual, Less, LessEqual, Greater, GreaterEqual}
use Rattle.td_lower_blocks.specs.Block.{Block, Done, Then, Guard, code}
use Rattle.td_lower_blocks.specs.Constructs.{Expr, value, Inner, inner, Steps, steps}

-- code so far, and a block laid out behind it; the block leaves to x
unfoldable pub laid : List Instr → ℕ → Block → List Instr
laid before x b = before ++ code (length before) x b

-- what was written does the first part of a block, of which the rest may be any
abbrev pub Writes : List Instr → List Instr → (Block → Block) → Type 0
Writes before after f = (x : ℕ) (k : Block) → laid after x k ≡ laid before x (f k)

-- what was written does a whole block, behind which nothing follows
abbrev pub Finishes : ℕ → List Instr → List Instr → Block → Type 0
Finishes x before after b = laid after x Done ≡ laid before x b

-- the same of steps of a field, and of what stands in a window
abbrev pub WritesSteps : List Instr → List Instr → (Steps → Steps) → Type 0
WritesSteps before after f = (x : ℕ) (k : Steps) → laid after x (steps k) ≡ laid before x (steps (f k))

abbrev pub WritesInner : List Instr → List Instr → (Inner → Inner) → Type 0
WritesInner before after f = (x : ℕ) (k : Inner) → laid after x (inner k) ≡ laid before x (inner (f k))

abbrev pub FinishesInner : List Instr → List Instr → Inner → Type 0
FinishesInner before after y = (x : ℕ) → Finishes x before after (inner y)

-- steps behind which nothing is reached
abbrev pub EndsSteps : List Instr → List Instr → (Steps → Steps) → Type 0
EndsSteps before after f = (x : ℕ) (k : Steps) → Finishes x before after (steps (f k))

-- goes on, or doesn't
abbrev pub GoesOn : Bool → List Instr → List Instr → (Steps → Steps) → Type 0
GoesOn true before after f = WritesSteps before after f
GoesOn false before after f = EndsSteps before after f

abbrev pub operator_number : Binary → ℕ
operator_number Add = 0
operator_number Subtract = 1
operator_number Multiply = 2
operator_number Divide = 3
operator_number Remainder = 4
operator_number BitAnd = 5
operator_number BitOr = 6
operator_number BitXor = 7
operator_number ShiftLeft = 8
operator_number ShiftRight = 9

-- an operator on registers t and t + 1, and one on register t and a number
abbrev pub operation_then : (operator t : ℕ) → Block → Block
operation_then operator t k = Then (i.Op t operator t (t + 1)) k

abbrev pub by_number_then : (operator number t : ℕ) → Block → Block
by_number_then operator number t k = Then (i.Const (t + 1) number) (operation_then operator t k)

-- what is shifted to the left keeps the bits of its type
abbrev pub masked_then : Binary → (mask t : ℕ) → Block → Block
masked_then ShiftLeft mask t k = Then (i.Const (t + 1) mask) (Then (i.Op t 5 t (t + 1)) k)
masked_then op mask t k = k

-- an operator on registers t and t + 1
abbrev pub operator_then : Binary → (mask t : ℕ) → Block → Block
operator_then op mask t k = Then (i.Op t (operator_number op) t (t + 1)) (masked_then op mask t k)

abbrev pub relation_number : Relation → ℕ
relation_number Equal = 10
relation_number NotEqual = 11
relation_number Less = 12
relation_number LessEqual = 13
relation_number Greater = 12
relation_number GreaterEqual = 13

-- whether the right operand's value comes first
abbrev pub is_turned : Relation → Bool
is_turned Equal = false
is_turned NotEqual = false
is_turned Less = false
is_turned LessEqual = false
is_turned Greater = true
is_turned GreaterEqual = true

-- whether so many bytes from an offset on lie in a size, these in registers t + 2, t + 1 and t
abbrev pub range_then : ℕ → Block → Block
range_then t k = Then (i.Op (t + 3) 13 (t + 2) t) (Then (i.Op t 1 t (t + 2)) (Then (i.Op t 13 (t + 1) t) (Then (i.Op t 5 t (t + 3)) k)))

-- the first side of `&&` (false) or `||` (true), and the second only where the first is that it counts
abbrev pub both_then : Bool → ℕ → (a b : Expr) → Block → Block
both_then when t a b k = value t a (Guard when t (value t b Done) k)
