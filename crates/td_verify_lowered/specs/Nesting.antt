-- Blocks as the rules of the verifier want them (own rule): how they nest, which instructions stand in them,
-- what they weigh, and which of them take a byte.
use Rattle.std.specs.Prelude.{◌≡◌, ℕ, ◌+◌, ◌*◌, ◌<◌, ◌≤◌, ◌⊎◌, List, Bool, true, false, cond, length}
use Rattle.td_verify_lowered.specs.Imports.{Parts, Instr, Shape}
use Rattle.td_verify.specs.declared.shape.Shape.TheVariants as s
use Rattle.td_verify.specs.Shape.{shape}
use Rattle.td_ir.specs.Tables.{routine_of}
use Rattle.td_verify.specs.Rules.{own_weight}
use Rattle.td_verify_lowered.specs.Good.{IsSiteOf}
use Rattle.td_verify.specs.Operands.{HasRegisters, HasTables, OwnsSite, HasOperands, callee_params}
use Rattle.td_lower_blocks.specs.Block.{Block, Done, Then, Stop, Leave, Guard, Scope, Window, Loop}

-- Where blocks may stand

pub data Level : Type 0 where
  Outside : Level
  InWindow : Level
  InLoop : Level

-- it goes on to the next instruction, and opens and closes nothing
abbrev pub IsPlain : Shape → Type 0
IsPlain (s.Straight b w) = Unit {0}
IsPlain (s.Call m) = Unit {0}
IsPlain (s.Jump t) = ⊥
IsPlain (s.Branch t) = ⊥
IsPlain s.Return = ⊥
IsPlain s.Fail = ⊥
IsPlain (s.While t) = ⊥
IsPlain (s.Again t) = ⊥
IsPlain (s.Open k) = ⊥
IsPlain s.Close = ⊥

abbrev pub IsStop : Level → Shape → Type 0
IsStop l s.Fail = Unit {0}
IsStop Outside s.Return = Unit {0}
IsStop InWindow s.Return = ⊥
IsStop InLoop s.Return = ⊥
IsStop l (s.Straight b w) = ⊥
IsStop l (s.Call m) = ⊥
IsStop l (s.Jump t) = ⊥
IsStop l (s.Branch t) = ⊥
IsStop l (s.While t) = ⊥
IsStop l (s.Again t) = ⊥
IsStop l (s.Open k) = ⊥
IsStop l s.Close = ⊥

abbrev pub IsOpen : Shape → Type 0
IsOpen (s.Open k) = Unit {0}
IsOpen (s.Straight b w) = ⊥
IsOpen (s.Call m) = ⊥
IsOpen (s.Jump t) = ⊥
IsOpen (s.Branch t) = ⊥
IsOpen s.Return = ⊥
IsOpen s.Fail = ⊥
IsOpen (s.While t) = ⊥
IsOpen (s.Again t) = ⊥
IsOpen s.Close = ⊥

-- it takes a byte, where Empty holds of the routines that may take none
abbrev pub Takes : (ℕ → Type 0) → Shape → Type 0
Takes Empty (s.Straight b w) = 1 ≤ b
Takes Empty (s.Call m) = Empty m → ⊥
Takes Empty (s.Jump t) = ⊥
Takes Empty (s.Branch t) = ⊥
Takes Empty s.Return = ⊥
Takes Empty s.Fail = ⊥
Takes Empty (s.While t) = ⊥
Takes Empty (s.Again t) = ⊥
Takes Empty (s.Open k) = ⊥
Takes Empty s.Close = ⊥

-- a block whose first instruction takes a byte
abbrev pub BeginsBusy : (ℕ → Type 0) → Block → Type 0
BeginsBusy Empty (Then j b) = Takes Empty (shape j)
BeginsBusy Empty Done = ⊥
BeginsBusy Empty (Stop j) = ⊥
BeginsBusy Empty Leave = ⊥
BeginsBusy Empty (Guard g r one rest) = ⊥
BeginsBusy Empty (Scope body rest) = ⊥
BeginsBusy Empty (Window j site body rest) = ⊥
BeginsBusy Empty (Loop body rest) = ⊥

-- windows stand outside, loops directly in windows; a scope is left within one window or loop
abbrev pub Nests : (ℕ → Type 0) → Level → Bool → Block → Type 0
Nests Empty l leaves Done = Unit {0}
Nests Empty l leaves (Then j b) = IsPlain (shape j) × Nests Empty l leaves b
Nests Empty l leaves (Stop j) = IsStop l (shape j)
Nests Empty l leaves Leave = leaves ≡ true
Nests Empty l leaves (Guard g r one rest) = Nests Empty l leaves one × Nests Empty l leaves rest
Nests Empty l leaves (Scope body rest) = Nests Empty l true body × Nests Empty l leaves rest
Nests Empty l leaves (Window j site body rest) = (l ≡ Outside) × IsOpen (shape j) × Nests Empty InWindow false body × Nests Empty l leaves rest
Nests Empty l leaves (Loop body rest) = (l ≡ InWindow) × BeginsBusy Empty body × Nests Empty InLoop false body × Nests Empty l leaves rest

-- a call goes to an earlier routine of less depth
abbrev pub CallsBelow : (ℕ → ℕ) → ℕ → Shape → Type 0
CallsBelow depth n (s.Call m) = (m < n) × (depth m + 1 ≤ depth n)
CallsBelow depth n (s.Straight b w) = Unit {0}
CallsBelow depth n (s.Jump t) = Unit {0}
CallsBelow depth n (s.Branch t) = Unit {0}
CallsBelow depth n s.Return = Unit {0}
CallsBelow depth n s.Fail = Unit {0}
CallsBelow depth n (s.While t) = Unit {0}
CallsBelow depth n (s.Again t) = Unit {0}
CallsBelow depth n (s.Open k) = Unit {0}
CallsBelow depth n s.Close = Unit {0}

-- each instruction that it writes has registers, tables, operands and calls
pub record IsFit (c : Parts) (depth : ℕ → ℕ) (n : ℕ) (j : Instr) : Type 0 where
  pub registers : HasRegisters (routine_of c n).registers (callee_params c j) j
  pub tables : HasTables c n j × OwnsSite c n j
  pub operands : HasOperands j
  pub calls : CallsBelow depth n (shape j)

abbrev pub Fits : Parts → (ℕ → ℕ) → ℕ → Block → Type 0
Fits c depth n Done = Unit {0}
Fits c depth n (Then j b) = IsFit c depth n j × Fits c depth n b
Fits c depth n (Stop j) = IsFit c depth n j
Fits c depth n Leave = Unit {0}
Fits c depth n (Guard g r one rest) = (r < (routine_of c n).registers) × Fits c depth n one × Fits c depth n rest
Fits c depth n (Scope body rest) = Fits c depth n body × Fits c depth n rest
Fits c depth n (Window j site body rest) = IsFit c depth n j × Fits c depth n body × IsSiteOf c n site × Fits c depth n rest
Fits c depth n (Loop body rest) = Fits c depth n body × Fits c depth n rest

-- what a block weighs
abbrev pub twice : Bool → ℕ → ℕ
twice looping w = cond looping (2 * w) w

abbrev pub weight : List ℕ → Bool → Block → ℕ
weight ws looping Done = 0
weight ws looping (Then j b) = twice looping (own_weight ws (shape j)) + weight ws looping b
weight ws looping (Stop j) = twice looping (own_weight ws (shape j))
weight ws looping Leave = twice looping 1
weight ws looping (Guard g r one rest) = twice looping 1 + (weight ws looping one + weight ws looping rest)
weight ws looping (Scope body rest) = weight ws looping body + weight ws looping rest
weight ws looping (Window j site body rest) = twice looping 1 + (weight ws looping body + (twice looping 1 + weight ws looping rest))
weight ws looping (Loop body rest) = 3 + (weight ws true body + (3 + weight ws looping rest))

-- Blocks that take a byte

-- it has no Return
abbrev pub IsCalm : Block → Type 0
IsCalm Done = Unit {0}
IsCalm (Then j b) = IsCalm b
IsCalm (Stop j) = shape j ≡ s.Fail
IsCalm Leave = Unit {0}
IsCalm (Guard g r one rest) = IsCalm one × IsCalm rest
IsCalm (Scope body rest) = IsCalm body × IsCalm rest
IsCalm (Window j site body rest) = IsCalm body × IsCalm rest
IsCalm (Loop body rest) = IsCalm body × IsCalm rest

abbrev pub opens_bytes : Shape → ℕ
opens_bytes (s.Open k) = k
opens_bytes (s.Straight b w) = 0
opens_bytes (s.Call m) = 0
opens_bytes (s.Jump t) = 0
opens_bytes (s.Branch t) = 0
opens_bytes s.Return = 0
opens_bytes s.Fail = 0
opens_bytes (s.While t) = 0
opens_bytes (s.Again t) = 0
opens_bytes s.Close = 0

-- neither its end nor a Return of it is reached with no byte taken
abbrev pub Busy : (ℕ → Type 0) → Block → Type 0
Busy Empty Done = ⊥
Busy Empty (Then j b) = Takes Empty (shape j) ⊎ Busy Empty b
Busy Empty (Stop j) = shape j ≡ s.Fail
Busy Empty Leave = ⊥
Busy Empty (Guard g r one rest) = (IsCalm one ⊎ Busy Empty one) × Busy Empty rest
Busy Empty (Scope body rest) = IsCalm body × Busy Empty rest
Busy Empty (Window j site body rest) = IsCalm body × ((1 ≤ opens_bytes (shape j)) ⊎ Busy Empty rest)
Busy Empty (Loop body rest) = IsCalm body × Busy Empty rest
