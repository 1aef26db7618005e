-- The names in a part that may name a definition of another part, in the order of the text, and which of them do (own rule).
use Rattle.std.specs.Prelude.{ℕ, List, [], ◌∷◌, ◌++◌, flat_map, Option, Some, None}
use Rattle.td_ast.specs.declared.token.Span.{Span}
use Rattle.td_ast.specs.declared.names.Name.{Name}
use Rattle.td_ast.specs.declared.names.ConstTree.{ConstTree}
use Rattle.td_ast.specs.declared.names.ConstTree.TheVariants as constant
use Rattle.td_ast.specs.declared.names.PlainTree.{PlainTree}
use Rattle.td_ast.specs.declared.names.PlainTree.TheVariants as plain
use Rattle.td_ast.specs.declared.expressions.SizeofOperand.{SizeofOperand}
use Rattle.td_ast.specs.declared.expressions.SizeofOperand.TheVariants as operand
use Rattle.td_ast.specs.declared.actions.Assigned.{Assigned}
use Rattle.td_ast.specs.declared.actions.Assigned.TheVariants.{Value, FieldPtr}
use Rattle.td_ast.specs.declared.actions.ActionTree.{ActionTree}
use Rattle.td_ast.specs.declared.actions.ActionTree.TheVariants.{Done, Copied}
use Rattle.td_ast.specs.declared.fields.TypeKind.{TypeKind}
use Rattle.td_ast.specs.declared.fields.TypeKind.TheVariants as type
use Rattle.td_ast.specs.declared.fields.ExtentTree.{ExtentTree}
use Rattle.td_ast.specs.declared.fields.ExtentTree.TheVariants.{Bytes, ByteSize, SingleElement, Zeroterm, Bits, Given, OfCell}
use Rattle.td_ast.specs.declared.fields.FieldTree.{FieldTree}
use Rattle.td_ast.specs.declared.parameters.HeadTree.{HeadTree}
use Rattle.td_ast.specs.declared.parameters.ParamTree.{ParamTree}
use Rattle.td_ast.specs.declared.parameters.ParamTree.TheVariants as param
use Rattle.td_ast.specs.declared.parameters.TargetTree.{TargetTree}
use Rattle.td_ast.specs.declared.parameters.TargetTree.TheVariants as pointee
use Rattle.td_ast.specs.declared.definitions.ItemTree.{ItemTree}
use Rattle.td_ast.specs.declared.definitions.CaseTree.{CaseTree}
use Rattle.td_ast.specs.declared.definitions.Def.{Def}
use Rattle.td_ast.specs.declared.definitions.Def.TheVariants.{Define, Enum, Alias, Struct, Casetype, Output}
use Rattle.td_ast.specs.declared.parts.PartTree.{PartTree}
use Rattle.td_ast.specs.Trees.{Tree}
use Rattle.td_ast.specs.Trees as tree
use Rattle.td_ast.specs.Statements.{Statement, Statements, Store, StoreField, Var, If, IfElse, Return, Abort, End, More, block_of}
use Rattle.td_front_flat.specs.Names.{part_named}

-- a name that names a part is one use of it, at the name's place
abbrev pub use_at : Option (List ℕ) → Span → List Name
use_at None at = []
use_at (Some part) at = record { text = part; span = at } ∷ []

abbrev pub text_uses : List ℕ → Span → List Name
text_uses x at = use_at (part_named x) at

abbrev pub name_uses : Name → List Name
name_uses n = text_uses n.text n.span

abbrev pub operand_uses : SizeofOperand → Span → List Name
operand_uses (operand.Number t) at = []
operand_uses (operand.Name n) at = text_uses n at
operand_uses operand.This at = []

abbrev pub tree_uses : Tree → List Name
tree_uses (tree.Number at n base) = []
tree_uses (tree.Truth at b) = []
tree_uses (tree.Name at n) = name_uses n
tree_uses (tree.FieldPos at word) = []
tree_uses (tree.Sizeof at word z place) = operand_uses z place
tree_uses (tree.RangeOkay at a b c) = tree_uses a ++ (tree_uses b ++ tree_uses c)
tree_uses (tree.Unary at op word a) = tree_uses a
tree_uses (tree.Binary at op word a b) = tree_uses a ++ tree_uses b
tree_uses (tree.Choice at word c a b) = tree_uses c ++ (tree_uses a ++ tree_uses b)

abbrev pub option_uses : Option Tree → List Name
option_uses None = []
option_uses (Some e) = tree_uses e

abbrev pub assigned_uses : Assigned → List Name
assigned_uses (Value e) = tree_uses e
assigned_uses (FieldPtr at) = []

abbrev mutual
  pub statement_uses : Statement → List Name
  statement_uses (Store at p rhs) = assigned_uses rhs
  statement_uses (StoreField at p f rhs) = assigned_uses rhs
  statement_uses (Var at x star p) = []
  statement_uses (If at e one) = tree_uses e ++ block_uses one
  statement_uses (IfElse at e one other) = tree_uses e ++ (block_uses one ++ block_uses other)
  statement_uses (Return at e) = tree_uses e
  statement_uses (Abort at) = []

  pub block_uses : Statements → List Name
  block_uses End = []
  block_uses (More x rest) = statement_uses x ++ block_uses rest

abbrev pub action_uses : Option ActionTree → List Name
action_uses None = []
action_uses (Some (Done kind at xs)) = block_uses (block_of xs)
action_uses (Some (Copied at n)) = []

abbrev pub constant_uses : ConstTree → List Name
constant_uses (constant.Number n) = []
constant_uses (constant.Named n) = name_uses n

abbrev pub plain_uses : PlainTree → List Name
plain_uses (plain.Number t) = []
plain_uses (plain.Named n) = name_uses n

abbrev pub target_uses : TargetTree → List Name
target_uses (pointee.Number t) = []
target_uses (pointee.Pointer at) = []
target_uses (pointee.Named n) = name_uses n

abbrev pub param_uses : ParamTree → List Name
param_uses (param.Value t n) = plain_uses t
param_uses (param.Mutable t n) = target_uses t
param_uses (param.Bytes n k) = constant_uses k

abbrev pub head_uses : HeadTree → List Name
head_uses h = flat_map param_uses h.params ++ option_uses h.condition

abbrev pub kind_uses : TypeKind → Span → List Name
kind_uses (type.Number t) at = []
kind_uses type.Unit at = []
kind_uses type.AllBytes at = []
kind_uses type.AllZeros at = []
kind_uses (type.Named n args) at = text_uses n at ++ flat_map tree_uses args

abbrev pub size_uses : ExtentTree → List Name
size_uses (Bytes e) = tree_uses e
size_uses (ByteSize e) = tree_uses e
size_uses (SingleElement e) = tree_uses e
size_uses (Zeroterm e) = tree_uses e
size_uses (Bits n) = []
size_uses (Given e) = tree_uses e
size_uses (OfCell star n) = []

abbrev pub extent_uses : Option ExtentTree → List Name
extent_uses None = []
extent_uses (Some x) = size_uses x

abbrev pub field_uses : FieldTree → List Name
field_uses f = kind_uses f.type_tree.kind f.type_tree.span ++ (extent_uses f.extent ++ (option_uses f.refinement ++ action_uses f.action))

abbrev pub fields_uses : List FieldTree → List Name
fields_uses fs = flat_map field_uses fs

abbrev pub value_uses : Option ConstTree → List Name
value_uses None = []
value_uses (Some c) = constant_uses c

abbrev pub item_uses : ItemTree → List Name
item_uses i = value_uses i.value

abbrev pub case_uses : CaseTree → List Name
case_uses c = constant_uses c.constant ++ fields_uses c.fields

abbrev pub default_uses : Option (List FieldTree) → List Name
default_uses None = []
default_uses (Some fs) = fields_uses fs

abbrev pub definition_uses : Def → List Name
definition_uses (Define d) = []
definition_uses (Enum d) = flat_map item_uses d.items
definition_uses (Alias d) = plain_uses d.target
definition_uses (Struct d) = head_uses d.head ++ fields_uses d.fields
definition_uses (Casetype d) = head_uses d.head ++ (tree_uses d.subject ++ (flat_map case_uses d.cases ++ default_uses d.default))
definition_uses (Output d) = []

-- the names of parts that a part uses, each at the place of the qualified name, in the order of the text
abbrev pub part_uses : PartTree → List Name
part_uses p = flat_map definition_uses p.definitions
