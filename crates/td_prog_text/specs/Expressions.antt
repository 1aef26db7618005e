-- Expressions of a small C as text (own rule). Every operand that is an operator itself stands in parentheses. Variables have type uint64_t. A numeral below 2^31 is an int of C, which
-- an operator beside a uint64_t converts; so on the left of a shift, and beside another numeral (as an operand, or as the other branch of a choice), it stands as UINT64_C(..). So
-- each operand but a numeral has type uint64_t. A comparison is an int, 0 or 1: as an operand it is converted.
use Rattle.std.specs.Prelude.{ℕ, ◌^◌, Bool, true, false, cond, List, [], ◌∷◌, ◌++◌, codes, decimal, nat_lt}
use Rattle.td_prog.specs.Syntax.{Var, Next, Held, Pos, End, Start, Outer, Reg, Word, Low, Number, More, Most, Room, Count, Operator, Add, Sub, Mul, Div, Rem, And, Or, Xor, Shl, Shr, Eq, Ne, Lt, Le, Expr, Num, Get, Cell, Binary, Choice, Swapped}

-- a text in pieces, one behind the other
abbrev pub Pieces : Type 0
Pieces = List (List ℕ)

abbrev pub text : Pieces → List ℕ
text [] = []
text (p ∷ ps) = p ++ text ps

abbrev pub variable : Var → List ℕ
variable Next = codes "run->next"
variable Held = codes "run->held"
variable Pos = codes "pos"
variable End = codes "end"
variable Start = codes "start"
variable Outer = codes "outer"
variable (Reg k) = codes "r" ++ decimal k
variable Word = codes "word"
variable Low = codes "low"
variable Number = codes "number"
variable More = codes "more"
variable Most = codes "most"
variable Room = codes "room"
variable Count = codes "count"

abbrev pub sign : Operator → List ℕ
sign Add = codes " + "
sign Sub = codes " - "
sign Mul = codes " * "
sign Div = codes " / "
sign Rem = codes " % "
sign And = codes " & "
sign Or = codes " | "
sign Xor = codes " ^ "
sign Shl = codes " << "
sign Shr = codes " >> "
sign Eq = codes " == "
sign Ne = codes " != "
sign Lt = codes " < "
sign Le = codes " <= "

abbrev pub is_shift : Operator → Bool
is_shift Shl = true
is_shift Shr = true
is_shift o = false

abbrev pub compares : Operator → Bool
compares Eq = true
compares Ne = true
compares Lt = true
compares Le = true
compares o = false

abbrev pub wide : ℕ → List ℕ
wide n = codes "UINT64_C(" ++ decimal n ++ codes ")"

abbrev pub numeral : ℕ → List ℕ
numeral n = cond (nat_lt n (2 ^ 31)) (decimal n) (wide n)

abbrev pub pointed : ℕ → List ℕ
pointed k = codes "*c" ++ decimal k

abbrev pub in_parentheses : Pieces → Pieces
in_parentheses ps = codes "(" ∷ (ps ++ codes ")" ∷ [])

-- an expression's text where it is an operand
abbrev pub operand : Expr → Pieces → Pieces
operand (Num n) ps = ps
operand (Get x) ps = ps
operand (Cell k) ps = ps
operand (Swapped a) ps = ps
operand (Choice c a b) ps = in_parentheses ps
operand (Binary o a b) ps = cond (compares o) (codes "(uint64_t)" ∷ in_parentheses ps) (in_parentheses ps)

-- the left operand, or a choice's first branch, a numeral on the left of a shift or beside a numeral apart
abbrev pub left_by : Bool → Expr → Expr → Pieces → Pieces
left_by shifts (Num n) (Num m) ps = wide n ∷ []
left_by true (Num n) b ps = wide n ∷ []
left_by shifts a b ps = operand a ps

abbrev pub expression : Expr → Pieces
expression (Num n) = numeral n ∷ []
expression (Get x) = variable x ∷ []
expression (Cell k) = pointed k ∷ []
expression (Binary o a b) = left_by (is_shift o) a b (expression a) ++ (sign o ∷ operand b (expression b))
expression (Choice c a b) = in_parentheses (expression c) ++ (codes " ? " ∷ (left_by false a b (expression a) ++ (codes " : " ∷ operand b (expression b))))
expression (Swapped a) = codes "TD_SWAP(" ∷ (expression a ++ codes ")" ∷ [])
