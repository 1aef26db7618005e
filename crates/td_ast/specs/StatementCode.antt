-- How the logic stores a statement: the labels of its parts in postfix order, and two stacks that give it back. No
-- definition of the language rests on this file.
use Rattle.std.specs.Prelude.{◌≡◌, ◌+◌, ◌≤◌, List, [], ◌∷◌, refl}
use Rattle.std.proofs.Common.{ap, arith}
use Rattle.std.specs.Coded.{Coded, code_by, coded_list}
use denote.Param.Weighed.{most}
use Rattle.td_ast.specs.declared.token.Span.{Span}
use Rattle.td_ast.specs.declared.names.Name.{Name}
use Rattle.td_ast.specs.declared.actions.Assigned.{Assigned}
use Rattle.td_ast.specs.Trees.{Tree}
use Rattle.td_ast.specs.Statements.{Statement, Statements, Store, StoreField, Var, If, IfElse, Return, Abort, End, More, block_of, statement_size, block_size, list_size}

pub block_of_size : (l : List Statement) → block_size (block_of l) ≡ list_size l
block_of_size [] = refl
block_of_size (x ∷ xs) = rw (block_of_size xs) refl

pub most_le_list_size : (l : List Statement) → most (λ x. statement_size x + 1) l ≤ list_size l
most_le_list_size [] = omega arith
most_le_list_size (x ∷ xs) = omega (arith, most_le_list_size xs)

-- a node without its blocks
pub data Label : Type 0 where
  StoreLabel : Span → Name → Assigned → Label
  StoreFieldLabel : Span → Name → Name → Assigned → Label
  VarLabel : Span → Name → Span → Name → Label
  IfLabel : Span → Tree → Label
  IfElseLabel : Span → Tree → Label
  ReturnLabel : Span → Tree → Label
  AbortLabel : Span → Label
  EndLabel : Label
  MoreLabel : Label

abbrev mutual
  pub postfix : Statement → List Label → List Label
  postfix (Store s n r) rest = StoreLabel s n r ∷ rest
  postfix (StoreField s n f r) rest = StoreFieldLabel s n f r ∷ rest
  postfix (Var s n t p) rest = VarLabel s n t p ∷ rest
  postfix (If s e b) rest = postfix_block b (IfLabel s e ∷ rest)
  postfix (IfElse s e b c) rest = postfix_block b (postfix_block c (IfElseLabel s e ∷ rest))
  postfix (Return s e) rest = ReturnLabel s e ∷ rest
  postfix (Abort s) rest = AbortLabel s ∷ rest

  pub postfix_block : Statements → List Label → List Label
  postfix_block End rest = EndLabel ∷ rest
  postfix_block (More x xs) rest = postfix x (postfix_block xs (MoreLabel ∷ rest))

-- the statements and the blocks that are ready
abbrev Stacks : Type 0
Stacks = List Statement × List Statements

abbrev pub put : Statement → Stacks → Stacks
put x stacks = (x ∷ stacks.0, stacks.1)

abbrev pub one_block : (Statements → Statement) → List Statement → List Statements → Stacks
one_block f xs [] = (xs, [])
one_block f xs (b ∷ bs) = (f b ∷ xs, bs)

abbrev pub two_blocks : (Statements → Statements → Statement) → List Statement → List Statements → Stacks
two_blocks f xs [] = (xs, [])
two_blocks f xs (c ∷ []) = (xs, [])
two_blocks f xs (c ∷ b ∷ bs) = (f b c ∷ xs, bs)

abbrev pub more : List Statement → List Statements → Stacks
more [] bs = ([], bs)
more (x ∷ xs) [] = (xs, [])
more (x ∷ xs) (b ∷ bs) = (xs, More x b ∷ bs)

abbrev pub step : Stacks → Label → Stacks
step stacks (StoreLabel s n r) = put (Store s n r) stacks
step stacks (StoreFieldLabel s n f r) = put (StoreField s n f r) stacks
step stacks (VarLabel s n t p) = put (Var s n t p) stacks
step stacks (IfLabel s e) = one_block (If s e) stacks.0 stacks.1
step stacks (IfElseLabel s e) = two_blocks (IfElse s e) stacks.0 stacks.1
step stacks (ReturnLabel s e) = put (Return s e) stacks
step stacks (AbortLabel s) = put (Abort s) stacks
step stacks EndLabel = (stacks.0, End ∷ stacks.1)
step stacks MoreLabel = more stacks.0 stacks.1

abbrev pub run : List Label → Stacks → Stacks
run [] stacks = stacks
run (l ∷ ls) stacks = run ls (step stacks l)

mutual
  pub run_postfix : (x : Statement) (rest : List Label) (xs : List Statement) (bs : List Statements) → run (postfix x rest) (xs, bs) ≡ run rest (x ∷ xs, bs)
  run_postfix (Store s n r) rest xs bs = refl
  run_postfix (StoreField s n f r) rest xs bs = refl
  run_postfix (Var s n t p) rest xs bs = refl
  run_postfix (If s e b) rest xs bs = run_postfix_block b (IfLabel s e ∷ rest) xs bs
  run_postfix (IfElse s e b c) rest xs bs = rw (run_postfix_block b (postfix_block c (IfElseLabel s e ∷ rest)) xs bs, run_postfix_block c (IfElseLabel s e ∷ rest) xs (b ∷ bs)) refl
  run_postfix (Return s e) rest xs bs = refl
  run_postfix (Abort s) rest xs bs = refl

  pub run_postfix_block : (b : Statements) (rest : List Label) (xs : List Statement) (bs : List Statements) → run (postfix_block b rest) (xs, bs) ≡ run rest (xs, b ∷ bs)
  run_postfix_block End rest xs bs = refl
  run_postfix_block (More y ys) rest xs bs = rw (run_postfix y (postfix_block ys (MoreLabel ∷ rest)) xs bs, run_postfix_block ys (MoreLabel ∷ rest) (y ∷ xs) bs) refl

abbrev nowhere : Span
nowhere = record { from = 0; to = 0 }

abbrev pub top : Stacks → Statement
top stacks = top_of stacks.0
  where
    top_of : List Statement → Statement
    top_of [] = Abort nowhere
    top_of (x ∷ xs) = x

-- the code of statements, from a code of labels
abbrev pub statement_code_by : Coded Label → Coded Statement
statement_code_by label_code = code_by (List Label) (coded_list label_code) (λ x. postfix x []) (λ ls. top (run ls ([], []))) (λ x. ap top (run_postfix x [] [] []))
