-- Which expressions take memory.
use Rattle.td_ast.specs.Trees.{Tree, Number, Truth, Name, FieldPos, Sizeof, RangeOkay, Unary, Binary, Choice}

-- it has an operator or is `is_range_okay`
abbrev pub HasOperator : Tree → Type 0
HasOperator (Number s n b) = ⊥
HasOperator (Truth s b) = ⊥
HasOperator (Name s n) = ⊥
HasOperator (FieldPos s p) = ⊥
HasOperator (Sizeof s w o p) = ⊥
HasOperator (RangeOkay s a b c) = Unit {0}
HasOperator (Unary s o p a) = Unit {0}
HasOperator (Binary s o p a b) = Unit {0}
HasOperator (Choice s p a b c) = Unit {0}
