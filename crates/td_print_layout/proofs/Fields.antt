-- Parameters and fields read back.
use Rattle.std.proofs.Common.{◌≡◌, ℕ, [], ◌∷◌, ◌++◌, refl, ap}
use Rattle.td_ast.specs.declared.token.Span.{Span}
use Rattle.td_ast.specs.declared.token.TokenKind.TheVariants as kinds
use Rattle.td_ast.specs.declared.names.Name.{Name}
use Rattle.td_ast.specs.declared.names.Literal.{Literal}
use Rattle.td_ast.specs.declared.names.NumberTree.{NumberTree}
use Rattle.td_ast.specs.declared.parameters.ParamTree.{ParamTree}
use Rattle.td_ast.specs.declared.parameters.ParamTree.TheVariants as params
use Rattle.td_ast.specs.declared.parameters.HeadTree.{HeadTree}
use Rattle.td_ast.specs.declared.fields.TypeKind.{TypeKind}
use Rattle.td_ast.specs.declared.fields.TypeKind.TheVariants as types
use Rattle.td_ast.specs.declared.fields.TypeTree.{TypeTree}
use Rattle.td_ast.specs.declared.fields.ExtentTree.{ExtentTree}
use Rattle.td_ast.specs.declared.fields.ExtentTree.TheVariants as extents
use Rattle.td_ast.specs.declared.fields.FieldTree.{FieldTree}
use Rattle.td_ast.specs.Trees.{Tree}
use Rattle.td_grammar.specs.Grammar.{◌then◌, ◌making◌}
use Rattle.td_grammar.specs.Tokens.{terminal}
use Rattle.td_grammar.specs.Expressions.{expr}
use Rattle.td_grammar.specs.Actions.{action}
use Rattle.td_grammar.specs.Parameters.{param, head}
use Rattle.td_grammar.specs.Fields.{type_tree, source, extent, refinement, field}
use Rattle.td_print_layout.specs.Pieces.{Word}
use Rattle.td_print_layout.specs.Sequences.{name_piece}
use Rattle.td_print_layout.specs.Expressions.{expression_pieces}
use Rattle.td_print_layout.specs.Parameters.{parameter_pieces, condition_pieces, head_pieces}
use Rattle.td_print_layout.specs.Fields.{type_pieces, extent_pieces, refinement_pieces, action_after, field_pieces, field_line}
use Rattle.td_print_layout.specs.Unspanned.{nowhere, unspanned_expression, unspanned_parameter, unspanned_head, unspanned_type, unspanned_extent, unspanned_action, unspanned_field}
use Rattle.td_print_layout.proofs.Back.{Back, blank, deep, ended, both, made, left, right, maybe_back}
use Rattle.td_print_layout.proofs.Words.{terminal_back, name_back, qualified_back, named_back, literal_back, number_back, plain_back}
use Rattle.td_print_layout.proofs.Expressions.{expression_back}
use Rattle.td_print_layout.proofs.Bytes.{buffer_back, place_back}
use Rattle.td_print_layout.proofs.Actions.{action_back}
use Rattle.td_print_layout.proofs.Sequences.{parentheses_back}

-- ---- parameters

pub parameter_back : (p : ParamTree) → Back param.Spells (parameter_pieces p) (λ r. unspanned_parameter r ≡ unspanned_parameter p)
unfolding param
parameter_back (params.Value type name) = left (made (both (plain_back type) (blank (name_back name))) (λ x g. cc (g.0, g.1)))
parameter_back (params.Mutable target name) = right (made (both (terminal_back kinds.Mutable refl) (blank (place_back target name))) (λ x g. g.1))
parameter_back (params.Bytes name room) = right (made (both (terminal_back kinds.Mutable refl) (blank (buffer_back name room))) (λ x g. g.1))

condition_back : (e : Tree) → Back ((terminal kinds.Where then expr) making λ (at, condition). condition).Spells (condition_pieces e) (λ r. unspanned_expression r ≡ unspanned_expression e)
condition_back e = made (both (blank (terminal_back kinds.Where refl)) (blank (expression_back e))) (λ x g. g.1)

pub head_back : (h : HeadTree) → Back head.Spells (head_pieces h) (λ r. unspanned_head r ≡ unspanned_head h)
unfolding head
head_back h =
    made (both (parentheses_back param parameter_pieces unspanned_parameter parameter_back h.params)
    (maybe_back ((terminal kinds.Where then expr) making λ (at, condition). condition).Spells condition_pieces unspanned_expression condition_back h.condition))
    (λ x g. cc (g.0, g.1))

-- ---- types and extents

kind_back : (s : Span) (k : TypeKind) → Back type_tree.Spells (type_pieces k) (λ r. unspanned_type r ≡ unspanned_type (record { span = s; kind = k }))
unfolding type_tree
kind_back s (types.Number n) = left (made (number_back (record { number = n; span = nowhere })) (λ r e. ap (λ (x : NumberTree). unspanned_type (record { span = s; kind = types.Number x.number })) e))
kind_back s types.Unit = right (left (made (terminal_back kinds.Unit refl) (λ r e. refl)))
kind_back s types.AllBytes = right (right (left (made (terminal_back kinds.AllBytes refl) (λ r e. refl))))
kind_back s types.AllZeros = right (right (right (left (made (terminal_back kinds.AllZeros refl) (λ r e. refl)))))
kind_back s (types.Named text arguments) =
    right (right (right (right (made (both (qualified_back text) (parentheses_back expr expression_pieces unspanned_expression expression_back arguments)) (λ x g. cc (g.0, g.1))))))

type_back : (t : TypeTree) → Back type_tree.Spells (type_pieces t.kind) (λ r. unspanned_type r ≡ unspanned_type t)
type_back t = kind_back t.span t.kind

-- what stands behind `=`
given_back : (e : Tree) → Back source.Spells (expression_pieces e) (λ r. unspanned_extent r ≡ unspanned_extent (extents.Given e))
unfolding source
given_back e = right (made (expression_back e) (λ x g. ap (λ (t : Tree). extents.Given t) g))

cell_back : (s : Span) (c : Name) → Back source.Spells (Word kinds.Star ∷ name_piece c ∷ []) (λ r. unspanned_extent r ≡ unspanned_extent (extents.OfCell s c))
unfolding source
cell_back s c = left (made (both (terminal_back kinds.Star refl) (name_back c)) (λ x g. ap (λ (n : Name). extents.OfCell nowhere n) g.1))

extent_back : (x : ExtentTree) → Back extent.Spells (extent_pieces x) (λ r. unspanned_extent r ≡ unspanned_extent x)
unfolding extent
extent_back (extents.Bytes e) = left (made (both (terminal_back kinds.OpenBracket refl) (both (expression_back e) (terminal_back kinds.CloseBracket refl))) (λ x g. ap (λ (t : Tree). extents.Bytes t) g.1.0))
extent_back (extents.ByteSize e) = right (left (made (both (terminal_back kinds.ByteSize refl) (both (blank (expression_back e)) (terminal_back kinds.CloseBracket refl))) (λ x g. ap (λ (t : Tree). extents.ByteSize t) g.1.0)))
extent_back (extents.SingleElement e) = right (right (left (made (both (terminal_back kinds.SingleElement refl) (both (blank (expression_back e)) (terminal_back kinds.CloseBracket refl))) (λ x g. ap (λ (t : Tree). extents.SingleElement t) g.1.0))))
extent_back (extents.Zeroterm e) = right (right (right (left (made (both (terminal_back kinds.Zeroterm refl) (both (blank (expression_back e)) (terminal_back kinds.CloseBracket refl))) (λ x g. ap (λ (t : Tree). extents.Zeroterm t) g.1.0)))))
extent_back (extents.Bits w) = right (right (right (right (left (made (both (blank (terminal_back kinds.Colon refl)) (blank (literal_back w))) (λ x g. ap (λ (l : Literal). extents.Bits l) g.1))))))
extent_back (extents.Given e) = right (right (right (right (right (made (both (blank (terminal_back kinds.Assign refl)) (blank (given_back e))) (λ x g. g.1))))))
extent_back (extents.OfCell s c) = right (right (right (right (right (made (both (blank (terminal_back kinds.Assign refl)) (blank (cell_back s c))) (λ x g. g.1))))))

refinement_back : (e : Tree) → Back refinement.Spells (refinement_pieces e) (λ r. unspanned_expression r ≡ unspanned_expression e)
unfolding refinement
refinement_back e = made (both (blank (terminal_back kinds.OpenBrace refl)) (both (blank (expression_back e)) (blank (terminal_back kinds.CloseBrace refl)))) (λ x g. g.1.0)

-- ---- fields

pub field_back : (f : FieldTree) → Back field.Spells (field_pieces f) (λ r. unspanned_field r ≡ unspanned_field f)
unfolding field
field_back f =
    made (both (type_back f.type_tree) (both (blank (name_back f.name)) (both (maybe_back extent.Spells extent_pieces unspanned_extent extent_back f.extent)
    (both (maybe_back refinement.Spells refinement_pieces unspanned_expression refinement_back f.refinement)
    (both (maybe_back action.Spells action_after unspanned_action (λ a. blank (action_back a)) f.action) (terminal_back kinds.Semicolon refl))))))
    (λ x g. cc (g.0, g.1.0, g.1.1.0, g.1.1.1.0, g.1.1.1.1.0))

pub line_back : (n : ℕ) (f : FieldTree) → Unit {0} → Back field.Spells (field_line n f) (λ r. unspanned_field r ≡ unspanned_field f)
line_back n f is = deep n (ended (field_back f))
