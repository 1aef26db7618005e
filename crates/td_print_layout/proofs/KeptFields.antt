-- Parameters and fields within the limits are kept.
use Rattle.std.proofs.Common.{◌≡◌, ℕ, true, false, List, [], ◌∷◌, ◌++◌, map, Option, refl, ap}
use Rattle.td_num.specs.Lists.{Each}
use Rattle.td_ast.specs.declared.token.Span.{Span}
use Rattle.td_ast.specs.declared.token.TokenKind.TheVariants as kinds
use Rattle.td_ast.specs.declared.names.NumberTree.{NumberTree}
use Rattle.td_ast.specs.declared.names.Literal.{Literal}
use Rattle.td_ast.specs.declared.names.Name.{Name}
use Rattle.td_ast.specs.declared.parameters.ParamTree.{ParamTree}
use Rattle.td_ast.specs.declared.parameters.HeadTree.{HeadTree}
use Rattle.td_ast.specs.declared.fields.TypeKind.{TypeKind}
use Rattle.td_ast.specs.declared.fields.TypeKind.TheVariants as types
use Rattle.td_ast.specs.declared.fields.TypeTree.{TypeTree}
use Rattle.td_ast.specs.declared.fields.ExtentTree.{ExtentTree}
use Rattle.td_ast.specs.declared.fields.ExtentTree.TheVariants as extents
use Rattle.td_ast.specs.declared.fields.FieldTree.{FieldTree}
use Rattle.td_ast.specs.Trees.{Tree}
use Rattle.td_ast.specs.declared.actions.ActionTree.{ActionTree}
use Rattle.td_grammar.specs.Grammar.{Grammar, ◌then◌, ◌making◌, all_of}
use Rattle.td_grammar.specs.Tokens.{terminal, name}
use Rattle.td_grammar.specs.Expressions.{expr}
use Rattle.td_grammar.specs.Actions.{action}
use Rattle.td_grammar.specs.Sequences.{in_parentheses, list_of, parted}
use Rattle.td_grammar.specs.Parameters.{param, head}
use Rattle.td_grammar.specs.Fields.{type_tree, source, extent, refinement, field}
use Rattle.td_grammar.proofs.Sets.{disjoint}
use Rattle.td_grammar.proofs.Exact.{IsApart}
use Rattle.td_grammar.proofs.Defs.{param_exact}
use Rattle.td_print_layout.specs.Pieces.{Piece, Word}
use Rattle.td_print_layout.specs.Sequences.{comma, name_piece}
use Rattle.td_print_layout.specs.Sequences as sequences
use Rattle.td_print_layout.specs.Names.{before_dot}
use Rattle.td_print_layout.specs.Expressions.{expression_pieces}
use Rattle.td_print_layout.specs.Parameters.{parameter_pieces, condition_pieces, head_pieces}
use Rattle.td_print_layout.specs.Fields.{type_pieces, extent_pieces, refinement_pieces, action_after, field_pieces, field_line}
use Rattle.td_print_layout.specs.Unspanned.{nowhere, unspanned_expression, unspanned_parameter, unspanned_head, unspanned_type, unspanned_extent, unspanned_action, unspanned_field}
use Rattle.td_print_layout.proofs.Fields.{parameter_back}
use Rattle.td_print_layout.proofs.Kept.{Kept, blank, deep, ended, both, made, none, some, second, into, each_kept, maybe_kept, IfAny}
use Rattle.td_print_layout.proofs.Plainly.{plainly, never_one, never_both, never_either, never_qualified, terminal_kept, name_kept, qualified_kept, literal_kept, number_kept}
use Rattle.td_print_layout.proofs.Light.{IsLight, expression_kept}
use Rattle.td_print_layout.proofs.Bytes.{never_place}
use Rattle.td_print_layout.proofs.KeptActions.{FitsAction, action_kept}

-- ---- what is within the limits

abbrev pub FitsType : TypeKind → Type 0
FitsType (types.Named text arguments) = Each IsLight arguments
FitsType _ = Unit {0}

abbrev pub FitsExtent : ExtentTree → Type 0
FitsExtent (extents.Bytes e) = IsLight e
FitsExtent (extents.ByteSize e) = IsLight e
FitsExtent (extents.SingleElement e) = IsLight e
FitsExtent (extents.Zeroterm e) = IsLight e
FitsExtent (extents.Bits w) = Unit {0}
FitsExtent (extents.Given e) = IsLight e
FitsExtent (extents.OfCell s c) = Unit {0}

pub record FitsField (f : FieldTree) : Type 0 where
  pub type : FitsType f.type_tree.kind
  pub extent : IfAny FitsExtent f.extent
  pub refinement : IfAny IsLight f.refinement
  pub action : IfAny FitsAction f.action

-- ---- lists in parentheses

abbrev next_of : {A : Type 0} → Grammar A → Grammar A
next_of g = (terminal kinds.Comma then g) making λ (comma, next). next

abbrev enclosed_of : {A : Type 0} → Grammar A → Grammar (List A)
enclosed_of g = (terminal kinds.OpenParen then parted g then terminal kinds.CloseParen) making λ (opening, (xs, closing)). xs

module _ {A : Type 0} (g : Grammar A) (pieces : A → List Piece) (un : A → A) (F : A → Type 0) (kept : (x : A) → F x → Kept g (pieces x) (λ y. un y ≡ un x))
    (s1 : IsApart (terminal kinds.Comma) g)
    (s2 : (next_of g).reader.may_be_empty ≡ false)
    (s3 : disjoint (next_of g).reader.begins (next_of g).reader.goes_on ≡ true)
    (s4 : IsApart g (all_of (next_of g)))
    (s5 : IsApart (parted g) (terminal kinds.CloseParen))
    (s6 : IsApart (terminal kinds.OpenParen) (parted g then terminal kinds.CloseParen))
    (s7 : (enclosed_of g).reader.may_be_empty ≡ false) where
  abbrev SameList : List A → List A → Type 0
  SameList xs ys = map un ys ≡ map un xs

  next_kept : (x : A) → F x → Kept (next_of g) (comma ++ pieces x) (λ y. un y ≡ un x)
  next_kept x f = made (λ (comma, next). next) (both (terminal_kept kinds.Comma refl) (blank (kept x f)) s1) (λ z h. h.1)

  parted_kept : (x : A) (xs : List A) → F x → Each F xs → Kept (parted g) (sequences.parted_by comma pieces (x ∷ xs)) (SameList (x ∷ xs))
  parted_kept x xs f fs = made (λ (first, others). first ∷ others) (both (kept x f) (each_kept (next_of g) s2 s3 (λ y. comma ++ pieces y) un F next_kept xs fs) s4) (λ z h. cc (h.0, h.1))

  pub parentheses_kept : (xs : List A) → Each F xs → Kept (in_parentheses g) (sequences.in_parentheses pieces xs) (SameList xs)
  parentheses_kept [] f = made list_of (none (enclosed_of g)) (λ o e. ap (λ (r : Option (List A)). map un (list_of r)) e)
  parentheses_kept (x ∷ xs) f =
      made list_of (some {H = λ o. SameList (x ∷ xs) (list_of o)} s7 (made {H = SameList (x ∷ xs)} (λ (opening, (xs, closing)). xs)
      (both (terminal_kept kinds.OpenParen refl) (both (parted_kept x xs f.0 f.1) (terminal_kept kinds.CloseParen refl) s5) s6)
      (λ z h. h.1.0)) (λ z h. h)) (λ o e. e)

arguments_kept : (xs : List Tree) → Each IsLight xs → Kept (in_parentheses expr) (sequences.in_parentheses expression_pieces xs) (λ ys. map unspanned_expression ys ≡ map unspanned_expression xs)
unfolding expr
arguments_kept xs f = parentheses_kept expr expression_pieces unspanned_expression IsLight expression_kept refl refl refl refl refl refl refl xs f

-- ---- parameters

parameter_kept : (p : ParamTree) → Unit {0} → Kept param (parameter_pieces p) (λ r. unspanned_parameter r ≡ unspanned_parameter p)
unfolding param
parameter_kept p is =
    plainly param_exact (never_either (never_both _ (never_either never_one never_qualified) never_one) (never_both _ never_one never_place)) (parameter_back p)

each_parameter : (xs : List ParamTree) → Each (λ p. Unit {0}) xs
each_parameter [] = tt
each_parameter (x ∷ xs) = (tt, each_parameter xs)

parameters_kept : (xs : List ParamTree) → Kept (in_parentheses param) (sequences.in_parentheses parameter_pieces xs) (λ ys. map unspanned_parameter ys ≡ map unspanned_parameter xs)
unfolding param
parameters_kept xs = parentheses_kept param parameter_pieces unspanned_parameter (λ p. Unit {0}) parameter_kept refl refl refl refl refl refl refl xs (each_parameter xs)

abbrev pub condition : Grammar Tree
condition = (terminal kinds.Where then expr) making λ (at, condition). condition

condition_kept : (e : Tree) → IsLight e → Kept condition (condition_pieces e) (λ r. unspanned_expression r ≡ unspanned_expression e)
unfolding expr
condition_kept e f = made _ (both (blank (terminal_kept kinds.Where refl)) (blank (expression_kept e f)) refl) (λ x g. g.1)

pub head_kept : (h : HeadTree) → IfAny IsLight h.condition → Kept head (head_pieces h) (λ r. unspanned_head r ≡ unspanned_head h)
unfolding head param expr
head_kept h f =
    made _ (both (parameters_kept h.params) (maybe_kept condition refl condition_pieces unspanned_expression IsLight condition_kept h.condition f) refl)
    (λ x g. cc (g.0, g.1))

-- ---- types and extents

kind_kept : (s : Span) (k : TypeKind) → FitsType k → Kept type_tree (type_pieces k) (λ r. unspanned_type r ≡ unspanned_type (record { span = s; kind = k }))
unfolding type_tree expr
kind_kept s (types.Number n) f = into type_tree (kinds.Int n) (made (λ n. record { span = n.span; kind = types.Number n.number }) (number_kept (record { number = n; span = nowhere })) (λ r e. ap (λ (x : NumberTree). unspanned_type (record { span = s; kind = types.Number x.number })) e)) refl (λ t ts e. rw e refl) refl refl
kind_kept s types.Unit f = into type_tree kinds.Unit (made (λ at. record { span = at; kind = types.Unit }) (terminal_kept kinds.Unit refl) (λ r e. refl)) refl (λ t ts e. rw e refl) refl refl
kind_kept s types.AllBytes f = into type_tree kinds.AllBytes (made (λ at. record { span = at; kind = types.AllBytes }) (terminal_kept kinds.AllBytes refl) (λ r e. refl)) refl (λ t ts e. rw e refl) refl refl
kind_kept s types.AllZeros f = into type_tree kinds.AllZeros (made (λ at. record { span = at; kind = types.AllZeros }) (terminal_kept kinds.AllZeros refl) (λ r e. refl)) refl (λ t ts e. rw e refl) refl refl
kind_kept s (types.Named text arguments) f =
    into type_tree (kinds.Name (before_dot text)) (made (λ (name, arguments). record { span = name.span; kind = types.Named name.text arguments })
    (both (qualified_kept text) (arguments_kept arguments f) refl) (λ x g. cc (g.0, g.1)))
    refl (λ t ts e. rw e refl) refl refl

type_kept : (t : TypeTree) → FitsType t.kind → Kept type_tree (type_pieces t.kind) (λ r. unspanned_type r ≡ unspanned_type t)
type_kept t f = kind_kept t.span t.kind f

-- what stands behind `=`
given_kept : (e : Tree) → IsLight e → Kept source (expression_pieces e) (λ r. unspanned_extent r ≡ unspanned_extent (extents.Given e))
unfolding source expr
given_kept e f = second ((terminal kinds.Star then name) making λ (star, cell). extents.OfCell star cell) (made extents.Given (expression_kept e f) (λ x g. ap (λ (t : Tree). extents.Given t) g)) refl refl

cell_kept : (s : Span) (c : Name) → Kept source (Word kinds.Star ∷ name_piece c ∷ []) (λ r. unspanned_extent r ≡ unspanned_extent (extents.OfCell s c))
unfolding source expr
cell_kept s c = into source kinds.Star (made (λ (star, cell). extents.OfCell star cell) (both (terminal_kept kinds.Star refl) (name_kept c) refl) (λ x g. ap (λ (n : Name). extents.OfCell nowhere n) g.1)) refl (λ t ts e. rw e refl) refl refl

extent_kept : (x : ExtentTree) → FitsExtent x → Kept extent (extent_pieces x) (λ r. unspanned_extent r ≡ unspanned_extent x)
unfolding extent source expr
extent_kept (extents.Bytes e) f = into extent kinds.OpenBracket (made (λ (opening, (size, closing)). extents.Bytes size) (both (terminal_kept kinds.OpenBracket refl) (both (expression_kept e f) (terminal_kept kinds.CloseBracket refl) refl) refl) (λ x g. ap (λ (t : Tree). extents.Bytes t) g.1.0)) refl (λ t ts e. rw e refl) refl refl
extent_kept (extents.ByteSize e) f = into extent kinds.ByteSize (made (λ (opening, (size, closing)). extents.ByteSize size) (both (terminal_kept kinds.ByteSize refl) (both (blank (expression_kept e f)) (terminal_kept kinds.CloseBracket refl) refl) refl) (λ x g. ap (λ (t : Tree). extents.ByteSize t) g.1.0)) refl (λ t ts e. rw e refl) refl refl
extent_kept (extents.SingleElement e) f = into extent kinds.SingleElement (made (λ (opening, (size, closing)). extents.SingleElement size) (both (terminal_kept kinds.SingleElement refl) (both (blank (expression_kept e f)) (terminal_kept kinds.CloseBracket refl) refl) refl) (λ x g. ap (λ (t : Tree). extents.SingleElement t) g.1.0)) refl (λ t ts e. rw e refl) refl refl
extent_kept (extents.Zeroterm e) f = into extent kinds.Zeroterm (made (λ (opening, (size, closing)). extents.Zeroterm size) (both (terminal_kept kinds.Zeroterm refl) (both (blank (expression_kept e f)) (terminal_kept kinds.CloseBracket refl) refl) refl) (λ x g. ap (λ (t : Tree). extents.Zeroterm t) g.1.0)) refl (λ t ts e. rw e refl) refl refl
extent_kept (extents.Bits w) f = into extent kinds.Colon (made (λ (colon, width). extents.Bits width) (both (blank (terminal_kept kinds.Colon refl)) (blank (literal_kept w)) refl) (λ x g. ap (λ (l : Literal). extents.Bits l) g.1)) refl (λ t ts e. rw e refl) refl refl
extent_kept (extents.Given e) f = into extent kinds.Assign (made (λ (assign, given). given) (both (blank (terminal_kept kinds.Assign refl)) (blank (given_kept e f)) refl) (λ x g. g.1)) refl (λ t ts e. rw e refl) refl refl
extent_kept (extents.OfCell s c) f = into extent kinds.Assign (made (λ (assign, given). given) (both (blank (terminal_kept kinds.Assign refl)) (blank (cell_kept s c)) refl) (λ x g. g.1)) refl (λ t ts e. rw e refl) refl refl

refinement_kept : (e : Tree) → IsLight e → Kept refinement (refinement_pieces e) (λ r. unspanned_expression r ≡ unspanned_expression e)
unfolding refinement expr
refinement_kept e f = made _ (both (blank (terminal_kept kinds.OpenBrace refl)) (both (blank (expression_kept e f)) (blank (terminal_kept kinds.CloseBrace refl)) refl) refl) (λ x g. g.1.0)

-- ---- fields

action_after_kept : (a : ActionTree) → FitsAction a → Kept action (action_after a) (λ r. unspanned_action r ≡ unspanned_action a)
action_after_kept a f = blank (action_kept a f)

pub field_kept : (f : FieldTree) → FitsField f → Kept field (field_pieces f) (λ r. unspanned_field r ≡ unspanned_field f)
unfolding field type_tree extent source refinement action expr
field_kept x f =
    made _ (both (type_kept x.type_tree f.type) (both (blank (name_kept x.name)) (both (maybe_kept extent refl extent_pieces unspanned_extent FitsExtent extent_kept x.extent f.extent)
    (both (maybe_kept refinement refl refinement_pieces unspanned_expression IsLight refinement_kept x.refinement f.refinement)
    (both (maybe_kept action refl action_after unspanned_action FitsAction action_after_kept x.action f.action) (terminal_kept kinds.Semicolon refl) refl) refl) refl) refl) refl)
    (λ x g. cc (g.0, g.1.0, g.1.1.0, g.1.1.1.0, g.1.1.1.1.0))

pub line_kept : (n : ℕ) (f : FieldTree) → FitsField f → Kept field (field_line n f) (λ r. unspanned_field r ≡ unspanned_field f)
line_kept n x f = deep n (ended (field_kept x f))
