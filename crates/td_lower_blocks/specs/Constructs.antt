-- The constructs of the language as code in blocks (own rule; docs/language/code.md).
use Rattle.std.specs.Prelude.{ℕ, ◌+◌, true, false, List, [], ◌∷◌}
use Rattle.td_ir.specs.declared.instructions.Instr.TheVariants as i
use Rattle.td_lower_blocks.specs.Block.{Block, Done, Then, Stop, Leave, Guard, Scope, Window, Loop}

-- Expressions. A slot is the register of a value in scope, an operator has its number, and a mask is 2 ^ bits - 1 of a type
pub data Expr : Type 0 where
  Lit : (n : ℕ) → Expr
  Slot : (place : ℕ) → Expr
  Binary : (op : ℕ) → Expr → Expr → Expr
  Not : Expr → Expr
  Complement : (mask : ℕ) → Expr → Expr
  ShiftLeft : (mask : ℕ) → Expr → Expr → Expr
  Both : Expr → Expr → Expr
  Either : Expr → Expr → Expr
  Choice : Expr → Expr → Expr → Expr
  Range : (size offset access : Expr) → Expr

-- puts a value into register t, using those above it, and goes on
abbrev pub value : ℕ → Expr → Block → Block
value t (Lit n) k = Then (i.Const t n) k
value t (Slot place) k = Then (i.Op t 6 place place) k
value t (Binary op a b) k = value t a (value (t + 1) b (Then (i.Op t op t (t + 1)) k))
value t (Not a) k = value t a (Then (i.Const (t + 1) 0) (Then (i.Op t 10 t (t + 1)) k))
value t (Complement mask a) k = value t a (Then (i.Const (t + 1) mask) (Then (i.Op t 7 t (t + 1)) k))
value t (ShiftLeft mask a b) k = value t a (value (t + 1) b (Then (i.Op t 8 t (t + 1)) (Then (i.Const (t + 1) mask) (Then (i.Op t 5 t (t + 1)) k))))
value t (Both a b) k = value t a (Guard false t (value t b Done) k)
value t (Either a b) k = value t a (Guard true t (value t b Done) k)
value t (Choice c a b) k = value t c (Scope (Guard false t (value t a Leave) (value t b Done)) k)
value t (Range size offset access) k =
    value t size (value (t + 1) offset (value (t + 2) access (Then (i.Op (t + 3) 13 (t + 2) t) (Then (i.Op t 1 t (t + 2)) (Then (i.Op t 13 (t + 1) t) (Then (i.Op t 5 t (t + 3)) k))))))

-- arguments into registers from t on
abbrev pub values : ℕ → List Expr → Block → Block
values t [] k = k
values t (e ∷ es) k = value t e (values (t + 1) es k)

-- goes on where a value isn't 0, else fails
abbrev pub tested : ℕ → Expr → (reason site : ℕ) → Block → Block
tested t e reason site k = value t e (Guard true t (Stop (i.Fail reason site)) k)

-- Actions. A value that is read has a slot of its own
pub data Action : Type 0 where
  Finish : Action
  Assign : (cell : ℕ) → Expr → Action → Action
  Read : (slot cell : ℕ) → Action → Action
  If : Expr → Action → Action → Action → Action
  Return : Expr → Action
  Abort : Action

-- Leave goes to the end of the action
abbrev pub acts : (t site : ℕ) → Action → Block → Block
acts t site Finish k = k
acts t site (Assign cell e more) k = value t e (Then (i.Set t cell) (acts t site more k))
acts t site (Read slot cell more) k = Then (i.Get slot cell) (acts t site more k)
acts t site (If e one other more) k = value t e (Guard false t (acts (t + 1) site one Done) (Guard true t (acts (t + 1) site other Done) (acts t site more k)))
acts t site (Return e) k = tested t e 3 site Leave
acts t site Abort k = Stop (i.Fail 3 site)

-- What stands in a window. Calls have so many arguments, which stand in registers from t on
pub data Inner : Type 0 where
  Nothing : Inner  -- unit
  Evenly : (t width site : ℕ) → Inner → Inner  -- elements of constant size, by a size in register t
  Exactly : (t u width site : ℕ) → Inner → Inner  -- a single element of constant size
  Uneven : (site : ℕ) → Inner  -- a constant size that doesn't fit
  All : Inner  -- numbers that aren't read, or all_bytes
  Zeroes : (site : ℕ) → Inner
  OneCall : (t routine cells site count : ℕ) → Inner
  OneListed : (slot order width set site t : ℕ) → Inner
  EachCall : (t routine cells site count : ℕ) → Inner
  EachListed : (slot order width set site t : ℕ) → Inner
  CopyAll : (t buffer size site : ℕ) → Inner  -- so many bytes, which go to a buffer

-- reads a number, and fails where it isn't in a set
abbrev pub listed : (slot order width set site t : ℕ) → Block → Block
listed slot order width set site t k = Then (i.Fetch slot order width site) (Then (i.Member t slot set) (Guard true t (Stop (i.Fail 4 site)) k))

abbrev pub inner : Inner → Block
inner Nothing = Done
inner (Evenly t width site more) = Then (i.Divides t width site) (inner more)
inner (Exactly t u width site more) = Then (i.Const u width) (Then (i.Op u 10 t u) (Guard true u (Stop (i.Fail 2 site)) (inner more)))
inner (Uneven site) = Stop (i.Fail 2 site)
inner All = Then i.Rest Done
inner (Zeroes site) = Then (i.Zeros site) Done
inner (OneCall t routine cells site count) = Then (i.Call t routine cells site) Done
inner (OneListed slot order width set site t) = listed slot order width set site t Done
inner (EachCall t routine cells site count) = Loop (Then (i.Call t routine cells site) Done) Done
inner (EachListed slot order width set site t) = Loop (listed slot order width set site t Done) Done
inner (CopyAll t buffer size site) = Then (i.Const t size) (Then (i.Copy t buffer site) Done)

-- Fields, step by step, up to the end of a struct or of a case. A size is a constant below 2^32 (one above can't be met), or a
-- value
pub data Steps : Type 0 where
  End : Steps
  Start : Steps → Steps  -- a field begins
  Place : (slot : ℕ) → Steps → Steps  -- field_pos
  Skipped : (width site : ℕ) → Steps → Steps  -- a number that isn't read
  Number : (slot order width site : ℕ) → Steps → Steps
  Listed : (slot order width set site : ℕ) → (t : ℕ) → Steps → Steps  -- an enum
  Part : (slot unit low width : ℕ) → Steps → Steps  -- a bit field of a unit that was read
  Computed : (t slot : ℕ) → Expr → Steps → Steps  -- a number without bytes: an expression's value
  Kept : (slot cell : ℕ) → Steps → Steps  -- what a cell holds
  Remaining : (slot : ℕ) → Steps → Steps  -- how many bytes are left
  Test : (t site : ℕ) → Expr → Steps → Steps
  Act : (t site : ℕ) → Action → Steps → Steps
  Named : (t routine cells site : ℕ) → List Expr → Steps → Steps
  AllBytes : Steps → Steps
  AllZeros : (site : ℕ) → Steps → Steps
  ZeroEnd : (t width site : ℕ) → Expr → Steps → Steps
  Copied : (t buffer site : ℕ) → Expr → Steps → Steps  -- bytes that go to a buffer, by their number
  Never : (site : ℕ) → Steps  -- a constant size that no message has
  Arguments : (t : ℕ) → List Expr → Steps → Steps  -- of the elements of the array that follows
  BySize : (t site : ℕ) → Expr → Inner → Steps → Steps  -- an array or a single element
  ByConstant : (size site : ℕ) → Inner → Steps → Steps

abbrev pub steps : Steps → Block
steps End = Stop i.Return
steps (Start k) = Then i.Mark (steps k)
steps (Place slot k) = Then (i.Pos slot) (steps k)
steps (Skipped width site k) = Then (i.SkipK width site) (steps k)
steps (Number slot order width site k) = Then (i.Fetch slot order width site) (steps k)
steps (Listed slot order width set site t k) = listed slot order width set site t (steps k)
steps (Part slot unit low width k) = Then (i.Bits slot unit low width) (steps k)
steps (Computed t slot e k) = value t e (Then (i.Op slot 6 t t) (steps k))
steps (Kept slot cell k) = Then (i.Get slot cell) (steps k)
steps (Remaining slot k) = Then (i.Left slot) (steps k)
steps (Test t site e k) = tested t e 4 site (steps k)
steps (Act t site a k) = Scope (acts t site a Done) (steps k)
steps (Named t routine cells site args k) = values t args (Then (i.Call t routine cells site) (steps k))
steps (AllBytes k) = Then i.Rest (steps k)
steps (AllZeros site k) = Then (i.Zeros site) (steps k)
steps (ZeroEnd t width site e k) = value t e (Then (i.Zeroterm t width site) (steps k))
steps (Copied t buffer site e k) = value t e (Then (i.Copy t buffer site) (steps k))
steps (Never site) = Stop (i.Fail 0 site)
steps (Arguments t args k) = values t args (steps k)
steps (BySize t site e x k) = value t e (Window (i.Narrow t site) site (inner x) (steps k))
steps (ByConstant size site x k) = Window (i.NarrowK size site) site (inner x) (steps k)

-- Definitions

pub data Cases : Type 0 where
  Case : (n : ℕ) → Steps → Cases → Cases
  Default : Steps → Cases
  NoDefault : (site : ℕ) → Cases

-- the switch value is in register t
abbrev pub cases : ℕ → Cases → Block
cases t (Case n fields more) = Then (i.Const (t + 1) n) (Then (i.Op (t + 1) 10 t (t + 1)) (Guard false (t + 1) (steps fields) (cases t more)))
cases t (Default fields) = steps fields
cases t (NoDefault site) = Stop (i.Fail 1 site)

pub data Body : Type 0 where
  Struct : Steps → Body
  Casetype : (t : ℕ) → Expr → Cases → Body
  Where : (t site : ℕ) → Expr → Body → Body

abbrev pub body : Body → Block
body (Struct fields) = steps fields
body (Casetype t e all) = value t e (cases t all)
body (Where t site e b) = tested t e 4 site (body b)
