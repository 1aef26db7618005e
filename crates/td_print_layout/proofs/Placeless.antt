-- The canonical text doesn't look at places: that of a tree without them is the same.
use Rattle.std.proofs.Common.{◌≡◌, ℕ, zero, suc, Bool, true, false, List, [], ◌∷◌, ◌++◌, map, Option, Some, None, refl, sym, ap, ◌∙◌}
use Rattle.std.specs.Prelude.{option_map, flat_map}
use Rattle.td_ast.specs.declared.names.ConstTree.{ConstTree}
use Rattle.td_ast.specs.declared.names.ConstTree.TheVariants as constants
use Rattle.td_ast.specs.declared.names.PlainTree.{PlainTree}
use Rattle.td_ast.specs.declared.names.PlainTree.TheVariants as plains
use Rattle.td_ast.specs.declared.actions.Assigned.{Assigned}
use Rattle.td_ast.specs.declared.actions.Assigned.TheVariants.{Value, FieldPtr}
use Rattle.td_ast.specs.declared.actions.ActionTree.{ActionTree}
use Rattle.td_ast.specs.declared.actions.ActionTree.TheVariants.{Done, Copied}
use Rattle.td_ast.specs.declared.parameters.TargetTree.{TargetTree}
use Rattle.td_ast.specs.declared.parameters.TargetTree.TheVariants as targets
use Rattle.td_ast.specs.declared.parameters.ParamTree.{ParamTree}
use Rattle.td_ast.specs.declared.parameters.ParamTree.TheVariants as params
use Rattle.td_ast.specs.declared.parameters.HeadTree.{HeadTree}
use Rattle.td_ast.specs.declared.fields.TypeKind.{TypeKind}
use Rattle.td_ast.specs.declared.fields.TypeKind.TheVariants as types
use Rattle.td_ast.specs.declared.fields.ExtentTree.{ExtentTree}
use Rattle.td_ast.specs.declared.fields.ExtentTree.TheVariants as extents
use Rattle.td_ast.specs.declared.fields.FieldTree.{FieldTree}
use Rattle.td_ast.specs.declared.definitions.ItemTree.{ItemTree}
use Rattle.td_ast.specs.declared.definitions.StructTree.{StructTree}
use Rattle.td_ast.specs.declared.definitions.CaseTree.{CaseTree}
use Rattle.td_ast.specs.declared.definitions.CasetypeTree.{CasetypeTree}
use Rattle.td_ast.specs.declared.definitions.SlotKind.{SlotKind}
use Rattle.td_ast.specs.declared.definitions.SlotKind.TheVariants as slots
use Rattle.td_ast.specs.declared.definitions.SlotTree.{SlotTree}
use Rattle.td_ast.specs.declared.definitions.Def.{Def}
use Rattle.td_ast.specs.declared.definitions.Def.TheVariants as defs
use Rattle.td_ast.specs.declared.parts.PartTree.{PartTree}
use Rattle.td_ast.specs.declared.parts.InputTree.{InputTree}
use Rattle.td_ast.specs.declared.parts.InputTree.TheVariants.{Module, Parts}
use Rattle.td_ast.specs.Trees as trees
use Rattle.td_ast.specs.Trees.{Tree}
use Rattle.td_ast.specs.Statements as statements
use Rattle.td_ast.specs.Statements.{Statement, Statements}
use Rattle.td_print_layout.specs.Pieces.{Piece, LineEnd, text_of}
use Rattle.td_print_layout.specs.Sequences.{comma, indented, parted_by, in_parentheses, optional}
use Rattle.td_print_layout.specs.Names.{constant_pieces, plain_pieces}
use Rattle.td_print_layout.specs.Operators.{left_of, right_of}
use Rattle.td_print_layout.specs.Expressions.{tree_level, fitted, expression_pieces}
use Rattle.td_print_layout.specs.Actions.{assigned_pieces, statement_pieces, block_pieces, statement_after, action_pieces}
use Rattle.td_print_layout.specs.Parameters.{target_pieces, parameter_pieces, condition_pieces, head_pieces}
use Rattle.td_print_layout.specs.Fields.{type_pieces, extent_pieces, refinement_pieces, action_after, field_pieces, field_line}
use Rattle.td_print_layout.specs.Definitions.{value_pieces, item_pieces, item_lines, case_lines, default_lines, slot_piece, slot_line, struct_pieces, casetype_pieces, definition_pieces, definition_lines, part_lines, layout}
use Rattle.td_print_layout.specs.Unspanned.{unspanned_constant, unspanned_plain, unspanned_expression, unspanned_assigned, unspanned_statement, unspanned_block, unspanned_action, unspanned_target, unspanned_parameter, unspanned_head, unspanned_kind, unspanned_extent, unspanned_field, unspanned_item, unspanned_struct, unspanned_case, unspanned_casetype, unspanned_slot_kind, unspanned_slot, unspanned_definition, unspanned_part, unspanned}
use Rattle.td_print_layout.specs.Laws.{SameText}

-- ---- several

module _ {A : Type 0} (p : A → List Piece) (un : A → A) (same : (x : A) → p (un x) ≡ p x) where
  flat_same : (xs : List A) → flat_map p (map un xs) ≡ flat_map p xs
  flat_same [] = refl
  flat_same (x ∷ xs) = cc (same x, flat_same xs)

  optional_same : (o : Option A) → optional p (option_map un o) ≡ optional p o
  optional_same None = refl
  optional_same (Some x) = same x

-- between two the same pieces
parted_same : {A : Type 0} (between : List Piece) (p : A → List Piece) (un : A → A) → ((x : A) → p (un x) ≡ p x) → (xs : List A) → parted_by between p (map un xs) ≡ parted_by between p xs
parted_same between p un same [] = refl
parted_same between p un same (x ∷ xs) =
    let others = flat_same (λ y. between ++ p y) un (λ y. ap (λ (l : List Piece). between ++ l) (same y)) xs in
    cc (same x, others)

parentheses_same : {A : Type 0} (p : A → List Piece) (un : A → A) → ((x : A) → p (un x) ≡ p x) → (xs : List A) → in_parentheses p (map un xs) ≡ in_parentheses p xs
parentheses_same p un same [] = refl
parentheses_same p un same (x ∷ xs) =
    let inside = parted_same comma p un same (x ∷ xs) in
    cc (inside)

constant_same : (c : ConstTree) → constant_pieces (unspanned_constant c) ≡ constant_pieces c
constant_same (constants.Number n) = refl
constant_same (constants.Named n) = refl

plain_same : (c : PlainTree) → plain_pieces (unspanned_plain c) ≡ plain_pieces c
plain_same (plains.Number n) = refl
plain_same (plains.Named n) = refl

-- ---- expressions

level_same : (t : Tree) → tree_level (unspanned_expression t) ≡ tree_level t
level_same (trees.Number s n b) = refl
level_same (trees.Truth s b) = refl
level_same (trees.Name s n) = refl
level_same (trees.FieldPos s p) = refl
level_same (trees.Sizeof s w o p) = refl
level_same (trees.RangeOkay s a b c) = refl
level_same (trees.Unary s o p a) = refl
level_same (trees.Binary s o p a b) = refl
level_same (trees.Choice s p a b c) = refl

fitted_same : (k : ℕ) (t : Tree) → expression_pieces (unspanned_expression t) ≡ expression_pieces t → fitted k (unspanned_expression t) (expression_pieces (unspanned_expression t)) ≡ fitted k t (expression_pieces t)
fitted_same k t e = let level = level_same t in rw (level, e) refl

expression_same : (t : Tree) → expression_pieces (unspanned_expression t) ≡ expression_pieces t
expression_same (trees.Number s n b) = refl
expression_same (trees.Truth s b) = refl
expression_same (trees.Name s n) = refl
expression_same (trees.FieldPos s p) = refl
expression_same (trees.Sizeof s w o p) = refl
expression_same (trees.RangeOkay s a b c) = cc (expression_same a, expression_same b, expression_same c)
expression_same (trees.Unary s o p a) = cc (fitted_same 1 a (expression_same a))
expression_same (trees.Binary s o p a b) = cc (fitted_same (left_of o) a (expression_same a), fitted_same (right_of o) b (expression_same b))
expression_same (trees.Choice s p a b c) = cc (fitted_same 11 a (expression_same a), expression_same b, expression_same c)

-- ---- actions

assigned_same : (a : Assigned) → assigned_pieces (unspanned_assigned a) ≡ assigned_pieces a
assigned_same (Value v) = expression_same v
assigned_same (FieldPtr s) = refl

mutual
  statement_same : (x : Statement) → statement_pieces (unspanned_statement x) ≡ statement_pieces x
  statement_same (statements.Store s c v) = cc (assigned_same v)
  statement_same (statements.StoreField s c f v) = cc (assigned_same v)
  statement_same (statements.Var s l t c) = refl
  statement_same (statements.If s e b) = cc (expression_same e, block_same b)
  statement_same (statements.IfElse s e b d) = cc (expression_same e, block_same b, block_same d)
  statement_same (statements.Return s e) = cc (expression_same e)
  statement_same (statements.Abort s) = refl

  block_same : (b : Statements) → block_pieces (unspanned_block b) ≡ block_pieces b
  block_same statements.End = refl
  block_same (statements.More x xs) = cc (statement_same x, block_same xs)

after_same : (x : Statement) → statement_after (unspanned_statement x) ≡ statement_after x
after_same x = cc (statement_same x)

action_same : (a : ActionTree) → action_after (unspanned_action a) ≡ action_after a
action_same (Done kind span statements) = cc (flat_same statement_after unspanned_statement after_same statements)
action_same (Copied span name) = refl

-- ---- parameters and fields

target_same : (t : TargetTree) → target_pieces (unspanned_target t) ≡ target_pieces t
target_same (targets.Number n) = refl
target_same (targets.Pointer s) = refl
target_same (targets.Named n) = refl

parameter_same : (p : ParamTree) → parameter_pieces (unspanned_parameter p) ≡ parameter_pieces p
parameter_same (params.Value type name) = cc (plain_same type)
parameter_same (params.Mutable target name) = cc (target_same target)
parameter_same (params.Bytes name room) = cc (constant_same room)

condition_same : (e : Tree) → condition_pieces (unspanned_expression e) ≡ condition_pieces e
condition_same e = cc (expression_same e)

head_same : (h : HeadTree) → head_pieces (unspanned_head h) ≡ head_pieces h
head_same h = cc (parentheses_same parameter_pieces unspanned_parameter parameter_same h.params, optional_same condition_pieces unspanned_expression condition_same h.condition)

kind_same : (k : TypeKind) → type_pieces (unspanned_kind k) ≡ type_pieces k
kind_same (types.Number n) = refl
kind_same types.Unit = refl
kind_same types.AllBytes = refl
kind_same types.AllZeros = refl
kind_same (types.Named text arguments) = cc (parentheses_same expression_pieces unspanned_expression expression_same arguments)

extent_same : (x : ExtentTree) → extent_pieces (unspanned_extent x) ≡ extent_pieces x
extent_same (extents.Bytes e) = cc (expression_same e)
extent_same (extents.ByteSize e) = cc (expression_same e)
extent_same (extents.SingleElement e) = cc (expression_same e)
extent_same (extents.Zeroterm e) = cc (expression_same e)
extent_same (extents.Bits w) = refl
extent_same (extents.Given e) = cc (expression_same e)
extent_same (extents.OfCell s c) = refl

refinement_same : (e : Tree) → refinement_pieces (unspanned_expression e) ≡ refinement_pieces e
refinement_same e = cc (expression_same e)

field_same : (f : FieldTree) → field_pieces (unspanned_field f) ≡ field_pieces f
field_same f =
    cc (
      kind_same f.type_tree.kind,
      optional_same extent_pieces unspanned_extent extent_same f.extent,
      optional_same refinement_pieces unspanned_expression refinement_same f.refinement,
      optional_same action_after unspanned_action action_same f.action,
    )

line_same : (n : ℕ) (f : FieldTree) → field_line n (unspanned_field f) ≡ field_line n f
line_same n f = ap (λ (u : List Piece). indented n (u ++ LineEnd ∷ [])) (field_same f)

lines_same : (n : ℕ) (fs : List FieldTree) → flat_map (field_line n) (map unspanned_field fs) ≡ flat_map (field_line n) fs
lines_same n fs = flat_same (field_line n) unspanned_field (line_same n) fs

-- ---- definitions

value_same : (c : ConstTree) → value_pieces (unspanned_constant c) ≡ value_pieces c
value_same c = cc (constant_same c)

item_same : (i : ItemTree) → item_pieces (unspanned_item i) ≡ item_pieces i
item_same i = cc (optional_same value_pieces unspanned_constant value_same i.value)

items_same : (xs : List ItemTree) → item_lines (map unspanned_item xs) ≡ item_lines xs
items_same [] = refl
items_same (x ∷ []) = cc (item_same x)
items_same (x ∷ y ∷ ys) = cc (item_same x, items_same (y ∷ ys))

case_same : (c : CaseTree) → case_lines (unspanned_case c) ≡ case_lines c
case_same c = cc (constant_same c.constant, lines_same 3 c.fields)

default_same : (fs : List FieldTree) → default_lines (map unspanned_field fs) ≡ default_lines fs
default_same fs = cc (lines_same 3 fs)

slot_kind_same : (k : SlotKind) → slot_piece (unspanned_slot_kind k) ≡ slot_piece k
slot_kind_same (slots.Number n) = refl
slot_kind_same (slots.Pointer s) = refl

slot_same : (s : SlotTree) → slot_line (unspanned_slot s) ≡ slot_line s
slot_same s = cc (slot_kind_same s.kind)

struct_same : (d : StructTree) → struct_pieces (unspanned_struct d) ≡ struct_pieces d
struct_same d = cc (head_same d.head, lines_same 1 d.fields)

casetype_same : (d : CasetypeTree) → casetype_pieces (unspanned_casetype d) ≡ casetype_pieces d
casetype_same d =
    cc (head_same d.head, expression_same d.subject, flat_same case_lines unspanned_case case_same d.cases, optional_same default_lines (map unspanned_field) default_same d.default)

definition_same : (d : Def) → definition_pieces (unspanned_definition d) ≡ definition_pieces d
definition_same (defs.Define d) = refl
definition_same (defs.Enum d) = cc (items_same d.items)
definition_same (defs.Alias d) = cc (plain_same d.target)
definition_same (defs.Struct d) = struct_same d
definition_same (defs.Casetype d) = casetype_same d
definition_same (defs.Output d) = cc (flat_same slot_line unspanned_slot slot_same d.slots)

definitions_same : (ds : List Def) → definition_lines (map unspanned_definition ds) ≡ definition_lines ds
definitions_same ds = parted_same (LineEnd ∷ []) definition_pieces unspanned_definition definition_same ds

part_same : (p : PartTree) → part_lines (unspanned_part p) ≡ part_lines p
part_same p = cc (definitions_same p.definitions)

layout_same : (input : InputTree) → layout (unspanned input) ≡ layout input
layout_same (Module tree) = definitions_same tree.definitions
layout_same (Parts parts) = parted_same (LineEnd ∷ []) part_lines unspanned_part part_same parts

pub same_text : SameText
same_text a b e = ap text_of (sym (layout_same a) ∙ (ap layout e ∙ layout_same b))
