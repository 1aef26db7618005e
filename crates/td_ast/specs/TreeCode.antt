-- How the logic stores a tree: the labels of its nodes in postfix order, and a stack of trees that gives it back. No
-- definition of the language rests on this file.
use Rattle.std.specs.Prelude.{◌≡◌, ℕ, Bool, List, [], ◌∷◌, refl}
use Rattle.std.proofs.Common.{ap}
use Rattle.std.specs.Coded.{Coded, code_by, coded_list}
use Rattle.td_ast.specs.declared.token.Span.{Span}
use Rattle.td_ast.specs.declared.token.Base.{Base}
use Rattle.td_ast.specs.declared.names.Name as names
use Rattle.td_ast.specs.declared.expressions.UnaryOperator.{UnaryOperator}
use Rattle.td_ast.specs.declared.expressions.BinaryOperator.{BinaryOperator}
use Rattle.td_ast.specs.declared.expressions.SizeofOperand.{SizeofOperand}
use Rattle.td_ast.specs.Trees.{Tree, Number, Truth, Name, FieldPos, Sizeof, RangeOkay, Unary, Binary, Choice}

-- a node without its operands
pub data Label : Type 0 where
  NumberLabel : Span → ℕ → Base → Label
  TruthLabel : Span → Bool → Label
  NameLabel : Span → names.Name → Label
  FieldPosLabel : Span → Span → Label
  SizeofLabel : Span → Span → SizeofOperand → Span → Label
  RangeOkayLabel : Span → Label
  UnaryLabel : Span → UnaryOperator → Span → Label
  BinaryLabel : Span → BinaryOperator → Span → Label
  ChoiceLabel : Span → Span → Label

-- the labels of a tree, and after them others
abbrev pub postfix : Tree → List Label → List Label
postfix (Number s n b) rest = NumberLabel s n b ∷ rest
postfix (Truth s b) rest = TruthLabel s b ∷ rest
postfix (Name s n) rest = NameLabel s n ∷ rest
postfix (FieldPos s p) rest = FieldPosLabel s p ∷ rest
postfix (Sizeof s w o p) rest = SizeofLabel s w o p ∷ rest
postfix (RangeOkay s a b c) rest = postfix a (postfix b (postfix c (RangeOkayLabel s ∷ rest)))
postfix (Unary s o p a) rest = postfix a (UnaryLabel s o p ∷ rest)
postfix (Binary s o p a b) rest = postfix a (postfix b (BinaryLabel s o p ∷ rest))
postfix (Choice s p a b c) rest = postfix a (postfix b (postfix c (ChoiceLabel s p ∷ rest)))

-- the stack after one label
abbrev pub step : List Tree → Label → List Tree
step stack (NumberLabel s n b) = Number s n b ∷ stack
step stack (TruthLabel s b) = Truth s b ∷ stack
step stack (NameLabel s n) = Name s n ∷ stack
step stack (FieldPosLabel s p) = FieldPos s p ∷ stack
step stack (SizeofLabel s w o p) = Sizeof s w o p ∷ stack
step (c ∷ b ∷ a ∷ stack) (RangeOkayLabel s) = RangeOkay s a b c ∷ stack
step (a ∷ stack) (UnaryLabel s o p) = Unary s o p a ∷ stack
step (b ∷ a ∷ stack) (BinaryLabel s o p) = Binary s o p a b ∷ stack
step (c ∷ b ∷ a ∷ stack) (ChoiceLabel s p) = Choice s p a b c ∷ stack
step stack _ = stack

-- the stack after all labels
abbrev pub run : List Label → List Tree → List Tree
run [] stack = stack
run (l ∷ ls) stack = run ls (step stack l)

-- the labels of a tree put it on the stack
pub run_postfix : (t : Tree) (rest : List Label) (stack : List Tree) → run (postfix t rest) stack ≡ run rest (t ∷ stack)
run_postfix (Number s n b) rest stack = refl
run_postfix (Truth s b) rest stack = refl
run_postfix (Name s n) rest stack = refl
run_postfix (FieldPos s p) rest stack = refl
run_postfix (Sizeof s w o p) rest stack = refl
run_postfix (RangeOkay s a b c) rest stack = rw (run_postfix a (postfix b (postfix c (RangeOkayLabel s ∷ rest))) stack, run_postfix b (postfix c (RangeOkayLabel s ∷ rest)) (a ∷ stack), run_postfix c (RangeOkayLabel s ∷ rest) (b ∷ a ∷ stack)) refl
run_postfix (Unary s o p a) rest stack = run_postfix a (UnaryLabel s o p ∷ rest) stack
run_postfix (Binary s o p a b) rest stack = rw (run_postfix a (postfix b (BinaryLabel s o p ∷ rest)) stack, run_postfix b (BinaryLabel s o p ∷ rest) (a ∷ stack)) refl
run_postfix (Choice s p a b c) rest stack = rw (run_postfix a (postfix b (postfix c (ChoiceLabel s p ∷ rest))) stack, run_postfix b (postfix c (ChoiceLabel s p ∷ rest)) (a ∷ stack), run_postfix c (ChoiceLabel s p ∷ rest) (b ∷ a ∷ stack)) refl

abbrev nowhere : Span
nowhere = record { from = 0; to = 0 }

abbrev pub top : List Tree → Tree
top [] = FieldPos nowhere nowhere
top (t ∷ stack) = t

-- the code of trees, from a code of labels
abbrev pub tree_code_by : Coded Label → Coded Tree
tree_code_by label_code = code_by (List Label) (coded_list label_code) (λ t. postfix t []) (λ ls. top (run ls [])) (λ t. ap top (run_postfix t [] []))
