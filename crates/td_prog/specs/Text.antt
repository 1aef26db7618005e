-- What a compiler of C asks of a program (own rule; C11's constraints): each variable, pointer, buffer and function that it names is declared above, functions
-- get as many arguments as they take, numerals have 64 bits, a switch has each case once, a function has each label once, and each goto its label. And what this small C
-- asks beside: a goto leads forward.
use Rattle.std.specs.Prelude.{◌≡◌, ◌⊎◌, ℕ, ◌+◌, ◌^◌, ◌<◌, ◌≤◌, List, [], ◌∷◌, ◌++◌, true, false, Option, Some, None, length, map, slice_get}
use Rattle.td_num.specs.Lists.{Each, AreApart, is_among}
use Rattle.td_ir.specs.WellFormed.{Rises}
use Rattle.td_prog.specs.Names.{IsIdentifier, IsName}
use Rattle.td_prog.specs.Syntax.{Var, Next, Held, Pos, End, Start, Outer, Reg, Word, Low, Number, More, Most, Room, Count, Expr, Num, Get, Cell, Binary, Choice, Swapped, Block, Ends, Assign, Store, Byte, Member, Load, If, While, Label, Goto, Fail, Return, CallHelper, Call, Helper, Function, Program, routine_params, routine_locals}

-- variables by number, each its own
abbrev pub number_of : Var → ℕ
number_of Next = 0
number_of Held = 1
number_of Pos = 2
number_of End = 3
number_of Start = 4
number_of Outer = 5
number_of Word = 6
number_of Low = 7
number_of Number = 8
number_of More = 9
number_of Most = 10
number_of Room = 11
number_of Count = 12
number_of (Reg k) = 13 + k

-- a function with these parameters and locals has them, and the run's two variables
abbrev pub HasVariable : (params locals : List Var) → Var → Type 0
HasVariable params locals x = is_among (map number_of (Next ∷ Held ∷ params ++ locals)) (number_of x) ≡ true

-- no number stands twice
abbrev pub AreDifferent : List ℕ → Type 0
AreDifferent [] = Unit {0}
AreDifferent (n ∷ ns) = (is_among ns n ≡ false) × AreDifferent ns

-- each variable is declared once, and none that the run has
abbrev pub IsDeclaredOnce : (params locals : List Var) → Type 0
IsDeclaredOnce params locals = AreDifferent (map number_of (Next ∷ Held ∷ params ++ locals))

-- there is such a helper, or such a routine, and it takes so many arguments
abbrev pub HelperTakes : (args buffers : ℕ) → Option Helper → Type 0
HelperTakes args buffers None = ⊥
HelperTakes args buffers (Some h) = (length h.params ≡ args) × (h.buffers ≡ buffers)

abbrev pub RoutineTakes : (params cells buffers : ℕ) → Option Function → Type 0
RoutineTakes params cells buffers None = ⊥
RoutineTakes params cells buffers (Some f) = (f.params ≡ params) × (f.cells ≡ cells) × (f.buffers ≡ buffers)

-- of a program, in a function that has these variables, so many pointers to cells and buffers, and above which so many helpers and routines stand
module _ (p : Program) (Has : Var → Type 0) (cells buffers helpers routines : ℕ) where
  abbrev pub IsWritten : Expr → Type 0
  IsWritten (Num n) = n < 2 ^ 64
  IsWritten (Get x) = Has x
  IsWritten (Cell k) = k < cells
  IsWritten (Binary o a b) = IsWritten a × IsWritten b
  IsWritten (Choice c a b) = IsWritten c × IsWritten a × IsWritten b
  IsWritten (Swapped a) = IsWritten a

  abbrev pub IsDeclared : Block → Type 0
  IsDeclared Ends = Unit {0}
  IsDeclared (Assign x e rest) = Has x × IsWritten e × IsDeclared rest
  IsDeclared (Store k e rest) = (k < cells) × IsWritten e × IsDeclared rest
  IsDeclared (Byte b e f rest) = (b < buffers) × IsWritten e × IsWritten f × IsDeclared rest
  IsDeclared (Member x y numbers rest) = Has x × Has y × Each (λ n. n < 2 ^ 64) numbers × Rises numbers × IsDeclared rest
  IsDeclared (Load rest) = Has Word × IsDeclared rest
  IsDeclared (If e inner rest) = IsWritten e × IsDeclared inner × IsDeclared rest
  IsDeclared (While e inner rest) = IsWritten e × IsDeclared inner × IsDeclared rest
  IsDeclared (Label l rest) = IsDeclared rest
  IsDeclared (Goto l rest) = IsDeclared rest
  IsDeclared (Fail reason e ty field rest) = Has Start × IsWritten e × IsDeclared rest
  IsDeclared (Return e rest) = IsWritten e × IsDeclared rest
  IsDeclared (CallHelper x helper es bs rest) =
      Has x × (helper < helpers) × HelperTakes (length es) (length bs) (slice_get p.helpers helper) × Each IsWritten es × Each (λ b. b < buffers) bs × IsDeclared rest
  IsDeclared (Call first params routine cs bs ty field rest) =
      ((k : ℕ) → k < params → Has (Reg (first + k))) × Has Pos × Has End × Has Start × (routine < routines) × RoutineTakes params (length cs) (length bs) (slice_get p.routines routine)
      × Each (λ k. k < cells) cs × Each (λ b. b < buffers) bs × IsDeclared rest

-- labels, in the order of the text
abbrev pub labels : Block → List ℕ
labels Ends = []
labels (Assign x e rest) = labels rest
labels (Store k e rest) = labels rest
labels (Byte b e f rest) = labels rest
labels (Member x y numbers rest) = labels rest
labels (Load rest) = labels rest
labels (If e inner rest) = labels inner ++ labels rest
labels (While e inner rest) = labels inner ++ labels rest
labels (Label l rest) = l ∷ labels rest
labels (Goto l rest) = labels rest
labels (Fail reason e ty field rest) = labels rest
labels (Return e rest) = labels rest
labels (CallHelper x helper es bs rest) = labels rest
labels (Call first params routine cs bs ty field rest) = labels rest

-- each above those before it, from one on
abbrev pub AreRising : ℕ → List ℕ → Type 0
AreRising from [] = Unit {0}
AreRising from (l ∷ ls) = (from ≤ l) × AreRising (l + 1) ls

-- a label stands in a block, not in an inner one
abbrev pub HasLabel : ℕ → Block → Type 0
HasLabel l Ends = ⊥
HasLabel l (Assign x e rest) = HasLabel l rest
HasLabel l (Store k e rest) = HasLabel l rest
HasLabel l (Byte k e f rest) = HasLabel l rest
HasLabel l (Member x e numbers rest) = HasLabel l rest
HasLabel l (Load rest) = HasLabel l rest
HasLabel l (If e inner rest) = HasLabel l rest
HasLabel l (While e inner rest) = HasLabel l rest
HasLabel l (Label m rest) = (l ≡ m) ⊎ HasLabel l rest
HasLabel l (Goto m rest) = HasLabel l rest
HasLabel l (Fail reason e ty field rest) = HasLabel l rest
HasLabel l (Return e rest) = HasLabel l rest
HasLabel l (CallHelper x helper es buffers rest) = HasLabel l rest
HasLabel l (Call first params callee cells buffers ty field rest) = HasLabel l rest

-- each goto leads to a label behind it, in its block or behind an `if` around it; none leads out of a `while`
abbrev pub GoForward : (ℕ → Type 0) → Block → Type 0
GoForward Around Ends = Unit {0}
GoForward Around (Assign x e rest) = GoForward Around rest
GoForward Around (Store k e rest) = GoForward Around rest
GoForward Around (Byte k e f rest) = GoForward Around rest
GoForward Around (Member x e numbers rest) = GoForward Around rest
GoForward Around (Load rest) = GoForward Around rest
GoForward Around (If e inner rest) = GoForward (λ l. HasLabel l rest ⊎ Around l) inner × GoForward Around rest
GoForward Around (While e inner rest) = GoForward (λ l. ⊥) inner × GoForward Around rest
GoForward Around (Label m rest) = GoForward Around rest
GoForward Around (Goto l rest) = (HasLabel l rest ⊎ Around l) × GoForward Around rest
GoForward Around (Fail reason e ty field rest) = GoForward Around rest
GoForward Around (Return e rest) = GoForward Around rest
GoForward Around (CallHelper x helper es buffers rest) = GoForward Around rest
GoForward Around (Call first params callee cells buffers ty field rest) = GoForward Around rest

-- labels of a function's body
pub record HasLabels (body : Block) : Type 0 where
  pub once : AreRising 0 (labels body)
  pub behind : GoForward (λ l. ⊥) body

-- helper n: the function that stands behind n others
pub record IsHelper (p : Program) (n : ℕ) (h : Helper) : Type 0 where
  pub once : IsDeclaredOnce h.params h.locals
  pub declared : IsDeclared p (HasVariable h.params h.locals) 0 h.buffers n 0 h.body
  pub labels : HasLabels h.body

-- routine n, behind all helpers
pub record IsFunction (p : Program) (n : ℕ) (f : Function) : Type 0 where
  pub room : f.params ≤ f.registers
  pub once : IsDeclaredOnce (routine_params f) (routine_locals f)
  pub declared : IsDeclared p (HasVariable (routine_params f) (routine_locals f)) f.cells f.buffers (length p.helpers) n f.body
  pub labels : HasLabels f.body

abbrev pub AreHelpers : Program → ℕ → List Helper → Type 0
AreHelpers p n [] = Unit {0}
AreHelpers p n (h ∷ hs) = IsHelper p n h × AreHelpers p (n + 1) hs

abbrev pub AreFunctions : Program → ℕ → List Function → Type 0
AreFunctions p n [] = Unit {0}
AreFunctions p n (f ∷ fs) = IsFunction p n f × AreFunctions p (n + 1) fs

-- the names of all functions, in the order of the text
abbrev pub function_names : Program → List (List ℕ)
function_names p = map (λ (h : Helper). h.name) p.helpers ++ map (λ (f : Function). f.name) p.routines

-- a program, with the names of types and fields that stand in its strings
pub record IsText (names : List (List ℕ)) (p : Program) : Type 0 where
  pub helpers : AreHelpers p 0 p.helpers
  pub routines : AreFunctions p 0 p.routines
  pub identifiers : Each IsIdentifier (function_names p)
  pub apart : AreApart (function_names p)
  pub strings : Each IsName names
