-- Statements of a small C as text (own rule): a line for each, four blanks before it for each block around it.
use Rattle.std.specs.Prelude.{ℕ, zero, suc, ◌+◌, ◌*◌, ◌||◌, Bool, false, cond, List, [], ◌∷◌, ◌++◌, codes, decimal, flat_map, replicate, nat_eq, slice_index_or}
use Rattle.td_core.specs.declared.module.NameId.{NameId}
use Rattle.td_core.specs.declared.outcome.Reason.{Reason}
use Rattle.td_core.specs.declared.outcome.Reason.TheVariants.{NotEnough, Impossible, ListSize, Action, Constraint, Padding}
use Rattle.td_core.specs.declared.outcome.Spot.{Spot}
use Rattle.td_core.specs.declared.outcome.Spot.TheVariants.{Field, Where, Switch}
use Rattle.td_prog.specs.Syntax.{Var, Word, Expr, Block, Ends, Assign, Store, Byte, Member, Load, If, While, Label, Goto, Fail, Return, CallHelper, Call}
use Rattle.td_prog_text.specs.Expressions.{Pieces, text, variable, numeral, expression, pointed}

abbrev pub indented : ℕ → List ℕ → List ℕ
indented depth text = replicate (4 * depth) 32 ++ text ++ codes "\n"

-- a line of pieces, before what follows
abbrev pub lined : ℕ → Pieces → Pieces → Pieces
lined depth ps rest = replicate (4 * depth) 32 ∷ (ps ++ codes "\n" ∷ rest)

-- a comma and a blank before each
abbrev pub listed : List (List ℕ) → List ℕ
listed texts = flat_map (λ text. codes ", " ++ text) texts

abbrev pub reason : Reason → List ℕ
reason NotEnough = codes "TD_NOT_ENOUGH"
reason Impossible = codes "TD_IMPOSSIBLE"
reason ListSize = codes "TD_LIST_SIZE"
reason Action = codes "TD_ACTION"
reason Constraint = codes "TD_CONSTRAINT"
reason Padding = codes "TD_PADDING"

-- whether a goto leads to a label
abbrev pub goes : ℕ → Block → Bool
goes l Ends = false
goes l (Assign x e rest) = goes l rest
goes l (Store k e rest) = goes l rest
goes l (Byte b e f rest) = goes l rest
goes l (Member x y numbers rest) = goes l rest
goes l (Load rest) = goes l rest
goes l (If e inner rest) = goes l inner || goes l rest
goes l (While e inner rest) = goes l inner || goes l rest
goes l (Label m rest) = goes l rest
goes l (Goto m rest) = nat_eq l m || goes l rest
goes l (Fail r e ty field rest) = goes l rest
goes l (Return e rest) = goes l rest
goes l (CallHelper x helper es buffers rest) = goes l rest
goes l (Call first params routine cells buffers ty field rest) = goes l rest

abbrev pub cells_text : List ℕ → List ℕ
cells_text cells = flat_map (λ k. codes ", c" ++ decimal k) cells

abbrev pub buffers_text : List ℕ → List ℕ
buffers_text buffers = flat_map (λ k. codes ", b" ++ decimal k) buffers

abbrev pub registers_text : ℕ → ℕ → List ℕ
registers_text first zero = []
registers_text first (suc n) = codes ", r" ++ decimal first ++ registers_text (first + 1) n

-- arguments of a helper, a comma and a blank before each
abbrev pub arguments : List Expr → Pieces
arguments [] = []
arguments (e ∷ es) = codes ", " ∷ (expression e ++ arguments es)

abbrev pub case_text : ℕ → ℕ → List ℕ
case_text depth n = text (lined depth (codes "case " ∷ numeral n ∷ codes ":" ∷ []) [])

-- what stands in a switch where a number is one of these
abbrev pub among : ℕ → Var → List ℕ → List ℕ
among depth x [] = []
among depth x (n ∷ ns) = flat_map (case_text depth) (n ∷ ns) ++ text (lined (depth + 1) (variable x ∷ codes " = 1;" ∷ []) (lined (depth + 1) (codes "break;" ∷ []) []))

abbrev pub label_text : Bool → ℕ → List ℕ
label_text b l = cond b (codes "l" ++ decimal l ++ codes ":;\n") []

-- with the names of types and fields
module _ (names : List (List ℕ)) where
  abbrev pub named : NameId → List ℕ
  named name = codes "\"" ++ slice_index_or names name.number [] ++ codes "\""

  abbrev pub spot : Spot → List ℕ
  spot (Field name) = named name
  spot Where = codes "\"where\""
  spot Switch = codes "\"switch\""

  abbrev pub site : NameId → Spot → Pieces
  site ty field = named ty ∷ codes ", " ∷ spot field ∷ codes ", start);" ∷ []

-- with the names of helpers and routines, too, and the whole function's block
module _ (names helpers routines : List (List ℕ)) (whole : Block) where
  abbrev pub statements : ℕ → Block → Pieces
  statements depth Ends = []
  statements depth (Assign x e rest) = lined depth (variable x ∷ codes " = " ∷ (expression e ++ codes ";" ∷ [])) (statements depth rest)
  statements depth (Store k e rest) = lined depth (pointed k ∷ codes " = " ∷ (expression e ++ codes ";" ∷ [])) (statements depth rest)
  statements depth (Byte b e f rest) =
      lined depth (codes "b" ∷ decimal b ∷ codes "[" ∷ (expression e ++ codes "] = (uint8_t)(" ∷ (expression f ++ codes ");" ∷ []))) (statements depth rest)
  statements depth (Member x y numbers rest) =
      lined depth (codes "switch (" ∷ variable y ∷ codes ") {" ∷ [])
      (among depth x numbers
      ∷ lined depth (codes "default:" ∷ [])
      (lined (depth + 1) (variable x ∷ codes " = 0;" ∷ [])
      (lined (depth + 1) (codes "break;" ∷ [])
      (lined depth (codes "}" ∷ []) (statements depth rest)))))
  statements depth (Load rest) =
      lined depth (codes "run->held = TD_LOAD(&run->words[" ∷ variable Word ∷ codes "]);" ∷ [])
      (lined depth (codes "run->next = " ∷ variable Word ∷ codes " + 1;" ∷ []) (statements depth rest))
  statements depth (If e inner rest) =
      lined depth (codes "if (" ∷ (expression e ++ codes ") {" ∷ [])) (statements (depth + 1) inner ++ lined depth (codes "}" ∷ []) (statements depth rest))
  statements depth (While e inner rest) =
      lined depth (codes "while (" ∷ (expression e ++ codes ") {" ∷ [])) (statements (depth + 1) inner ++ lined depth (codes "}" ∷ []) (statements depth rest))
  statements depth (Label l rest) = label_text (goes l whole) l ∷ statements depth rest
  statements depth (Goto l rest) = lined depth (codes "goto l" ∷ decimal l ∷ codes ";" ∷ []) (statements depth rest)
  statements depth (Fail r e ty field rest) =
      lined depth (codes "return td_fail(run->outcome, " ∷ reason r ∷ codes ", " ∷ (expression e ++ codes ", " ∷ site names ty field)) (statements depth rest)
  statements depth (Return e rest) = lined depth (codes "return " ∷ (expression e ++ codes ";" ∷ [])) (statements depth rest)
  statements depth (CallHelper x helper es buffers rest) =
      lined depth (variable x ∷ codes " = " ∷ slice_index_or helpers helper [] ∷ codes "(run" ∷ (arguments es ++ buffers_text buffers ∷ codes ");" ∷ [])) (statements depth rest)
  statements depth (Call first params routine cells buffers ty field rest) =
      lined depth (codes "pos = " ∷ slice_index_or routines routine [] ∷ codes "(run, pos, end" ∷ registers_text first params ∷ cells_text cells ∷ buffers_text buffers ∷ codes ");" ∷ [])
      (lined depth (codes "if (pos == TD_FAILED) {" ∷ [])
      (lined (depth + 1) (codes "return td_frame(run->outcome, " ∷ site names ty field)
      (lined depth (codes "}" ∷ []) (statements depth rest))))
