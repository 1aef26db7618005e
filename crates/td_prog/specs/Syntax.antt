-- Programs of the small C (own rule): what they consist of. The text of C stands beside each construct; td_prog_text
-- prints it, and docs/written-c.md says what the C standard says of it.
use Rattle.std.specs.Prelude.{ℕ, zero, suc, ◌+◌, ◌-◌, List, [], ◌∷◌, ◌++◌}
use Rattle.td_core.specs.declared.module.NameId.{NameId}
use Rattle.td_core.specs.declared.outcome.Reason.{Reason}
use Rattle.td_core.specs.declared.outcome.Spot.{Spot}

-- Variables, all of type uint64_t. All functions share two, in the run that each is passed: `run->next`, the word behind
-- the one that was loaded last, and `run->held`, what that load gave. The others are a function's own. `pos` is the
-- position, `end` the end of the message or of the window, `start` the place where the type begins, `outer` the end
-- outside of the window; `r3` is a register; the last seven are the helpers' and the loops'.
pub data Var : Type 0 where
  Next : Var
  Held : Var
  Pos : Var
  End : Var
  Start : Var
  Outer : Var
  Reg : ℕ → Var
  Word : Var
  Low : Var
  Number : Var
  More : Var
  Most : Var
  Room : Var
  Count : Var

-- `+ - * / % & | ^ << >>`, and `== != < <=`, which give 0 or 1
pub data Operator : Type 0 where
  Add : Operator
  Sub : Operator
  Mul : Operator
  Div : Operator
  Rem : Operator
  And : Operator
  Or : Operator
  Xor : Operator
  Shl : Operator
  Shr : Operator
  Eq : Operator
  Ne : Operator
  Lt : Operator
  Le : Operator

-- Expressions, which change nothing:
--   Num 5             `5`
--   Get Pos           `pos`
--   Cell 0            `*c0`
--   Binary Add a b    `a + b`
--   Choice c a b      `c ? a : b`
--   Swapped a         `TD_SWAP(a)`, the eight bytes of a number the other way round
pub data Expr : Type 0 where
  Num : ℕ → Expr
  Get : Var → Expr
  Cell : ℕ → Expr
  Binary : Operator → Expr → Expr → Expr
  Choice : Expr → Expr → Expr → Expr
  Swapped : Expr → Expr

-- Statements, each with those behind it:
--   Ends                   nothing
--   Assign x e             `x = e;`
--   Store 0 e              `*c0 = e;`
--   Byte 0 e f             `b0[e] = (uint8_t)(f);`
--   Member x y (1 ∷ 4)     `switch (y) { case 1: case 4: x = 1; break; default: x = 0; break; }`, of a variable, so that cases
--                          are compared at 64 bits
--   Load                   `run->held = TD_LOAD(&run->words[word]); run->next = word + 1;`, always of the variable `word`, which
--                          the first of the two leaves as it is
--   If e inner             `if (e) { .. }`
--   While e inner          `while (e) { .. }`
--   Label 7                `l7:;`
--   Goto 7                 `goto l7;`, to a label behind it
--   Fail r e "T" "x"       `return td_fail(run->outcome, TD_PADDING, e, "T", "x", start);`
--   Return e               `return e;`
--   CallHelper x h es bs   `x = td_little_4(run, pos, b0);`, of a helper that stands above
--   Call 2 1 n cs bs       `pos = td_3_T(run, pos, end, r2, c0, b0); if (pos == TD_FAILED) { return td_frame(run->outcome, "T", "x", start); }`,
--                          of a routine that stands above, with one argument from r2 on
pub data Block : Type 0 where
  Ends : Block
  Assign : Var → Expr → Block → Block
  Store : (cell : ℕ) → Expr → Block → Block
  Byte : (buffer : ℕ) → Expr → Expr → Block → Block
  Member : Var → Var → List ℕ → Block → Block
  Load : Block → Block
  If : Expr → Block → Block → Block
  While : Expr → Block → Block → Block
  Label : ℕ → Block → Block
  Goto : ℕ → Block → Block
  Fail : Reason → Expr → NameId → Spot → Block → Block
  Return : Expr → Block → Block
  CallHelper : Var → (helper : ℕ) → List Expr → (buffers : List ℕ) → Block → Block
  Call : (first params routine : ℕ) → (cells buffers : List ℕ) → NameId → Spot → Block → Block

-- A function that never fails: `TD_FUNCTION uint64_t NAME(struct td_run *run, uint64_t pos, .., uint8_t *b0, ..)`. It calls
-- helpers above it.
pub record Helper : Type 0 where
  pub name : List ℕ
  pub params : List Var
  pub locals : List Var
  pub buffers : ℕ
  pub body : Block

-- A function that gives a position, or fails: `TD_FUNCTION uint64_t NAME(struct td_run *run, uint64_t pos, uint64_t end,
-- uint64_t r0, .., uint64_t *c0, .., uint8_t *b0, ..)`. It calls helpers, and routines above it. The first of its registers
-- are its parameters.
pub record Function : Type 0 where
  pub name : List ℕ
  pub params : ℕ
  pub registers : ℕ
  pub cells : ℕ
  pub buffers : ℕ
  pub body : Block

pub record Program : Type 0 where
  pub helpers : List Helper
  pub routines : List Function

-- so many registers, from one on
abbrev pub registers : ℕ → ℕ → List Var
registers first zero = []
registers first (suc n) = Reg first ∷ registers (first + 1) n

-- a routine's variables: its parameters, and what it declares with `= 0`
abbrev pub routine_params : Function → List Var
routine_params f = Pos ∷ End ∷ registers 0 f.params

abbrev pub routine_locals : Function → List Var
routine_locals f = Start ∷ Outer ∷ Number ∷ Most ∷ Room ∷ registers f.params (f.registers - f.params)
