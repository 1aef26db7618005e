-- The depth of a definition (own rule): one more than the greatest depth of the definitions that its text names, those of
-- constants and in `sizeof` too. A member of an enum names no definition.
use Rattle.std.specs.Prelude.{ℕ, max, List, map, Option, Some, None}
use Rattle.td_ast.specs.Trees.{Tree}
use Rattle.td_ast.specs.Trees as tree
use Rattle.td_ast.specs.Statements.{Statement, Store, StoreField, Var, If, IfElse, Return, Abort, Statements, End, More, block_of}
use Rattle.td_ast.specs.declared.expressions.SizeofOperand.{SizeofOperand}
use Rattle.td_ast.specs.declared.expressions.SizeofOperand.TheVariants as operand
use Rattle.td_limits.specs.Imports.{Assigned, Value, FieldPtr, ActionTree, Done, Copied, PlainTree, TypeKind, ExtentTree, Bytes, ByteSize, SingleElement, Zeroterm, Bits, Given, OfCell, FieldTree, HeadTree, ParamTree, TargetTree, ItemTree, CaseTree, Def, Define, Enum, Alias, Struct, Casetype, Output}
use Rattle.td_ast.specs.declared.names.ConstTree.{ConstTree}
use Rattle.td_ast.specs.declared.names.ConstTree.TheVariants as constant
use Rattle.td_ast.specs.declared.names.PlainTree.TheVariants as plain
use Rattle.td_ast.specs.declared.fields.TypeKind.TheVariants as type
use Rattle.td_ast.specs.declared.parameters.ParamTree.TheVariants as param
use Rattle.td_ast.specs.declared.parameters.TargetTree.TheVariants as pointee
use Rattle.td_limits.specs.Excesses.{greatest}
use Rattle.td_limits.specs.Measures.{Measures, constant_depth_of, type_depth_of}

abbrev pub operand_depth : Measures → SizeofOperand → ℕ
operand_depth known (operand.Number t) = 0
operand_depth known (operand.Name n) = type_depth_of known n
operand_depth known operand.This = 0

abbrev pub tree_depth : Measures → Tree → ℕ
tree_depth known (tree.Number at n base) = 0
tree_depth known (tree.Truth at b) = 0
tree_depth known (tree.Name at n) = constant_depth_of known n.text
tree_depth known (tree.FieldPos at own) = 0
tree_depth known (tree.Sizeof at own z place) = operand_depth known z
tree_depth known (tree.RangeOkay at z o a) = max (tree_depth known z) (max (tree_depth known o) (tree_depth known a))
tree_depth known (tree.Unary at op own a) = tree_depth known a
tree_depth known (tree.Binary at op own a b) = max (tree_depth known a) (tree_depth known b)
tree_depth known (tree.Choice at own c a b) = max (tree_depth known c) (max (tree_depth known a) (tree_depth known b))

abbrev pub trees_depth : Measures → List Tree → ℕ
trees_depth known es = greatest (map (tree_depth known) es)

abbrev pub option_depth : Measures → Option Tree → ℕ
option_depth known None = 0
option_depth known (Some e) = tree_depth known e

abbrev pub assigned_depth : Measures → Assigned → ℕ
assigned_depth known (Value e) = tree_depth known e
assigned_depth known (FieldPtr at) = 0

abbrev mutual
  pub statement_depth : Measures → Statement → ℕ
  statement_depth known (Store at p rhs) = assigned_depth known rhs
  statement_depth known (StoreField at p f rhs) = assigned_depth known rhs
  statement_depth known (Var at x star p) = 0
  statement_depth known (If at e one) = max (tree_depth known e) (block_depth known one)
  statement_depth known (IfElse at e one other) = max (tree_depth known e) (max (block_depth known one) (block_depth known other))
  statement_depth known (Return at e) = tree_depth known e
  statement_depth known (Abort at) = 0

  pub block_depth : Measures → Statements → ℕ
  block_depth known End = 0
  block_depth known (More x rest) = max (statement_depth known x) (block_depth known rest)

abbrev pub action_depth : Measures → Option ActionTree → ℕ
action_depth known None = 0
action_depth known (Some (Done kind at b)) = block_depth known (block_of b)
action_depth known (Some (Copied at n)) = 0

abbrev pub kind_depth : Measures → TypeKind → ℕ
kind_depth known (type.Number t) = 0
kind_depth known type.Unit = 0
kind_depth known type.AllBytes = 0
kind_depth known type.AllZeros = 0
kind_depth known (type.Named n args) = max (type_depth_of known n) (trees_depth known args)

abbrev pub extent_depth : Measures → Option ExtentTree → ℕ
extent_depth known None = 0
extent_depth known (Some (Bytes e)) = tree_depth known e
extent_depth known (Some (ByteSize e)) = tree_depth known e
extent_depth known (Some (SingleElement e)) = tree_depth known e
extent_depth known (Some (Zeroterm e)) = tree_depth known e
extent_depth known (Some (Bits n)) = 0
extent_depth known (Some (Given e)) = tree_depth known e
extent_depth known (Some (OfCell at n)) = 0

abbrev pub field_depth : Measures → FieldTree → ℕ
field_depth known f =
    max (max (kind_depth known f.type_tree.kind) (extent_depth known f.extent))
    (max (option_depth known f.refinement) (action_depth known f.action))

abbrev pub fields_depth : Measures → List FieldTree → ℕ
fields_depth known fs = greatest (map (field_depth known) fs)

abbrev pub value_depth : Measures → ConstTree → ℕ
value_depth known (constant.Number n) = 0
value_depth known (constant.Named n) = constant_depth_of known n.text

abbrev pub case_depth : Measures → CaseTree → ℕ
case_depth known c = max (value_depth known c.constant) (fields_depth known c.fields)

abbrev pub default_depth : Measures → Option (List FieldTree) → ℕ
default_depth known None = 0
default_depth known (Some fs) = fields_depth known fs

abbrev pub plain_depth : Measures → PlainTree → ℕ
plain_depth known (plain.Number t) = 0
plain_depth known (plain.Named n) = type_depth_of known n.text

abbrev pub target_depth : Measures → TargetTree → ℕ
target_depth known (pointee.Number t) = 0
target_depth known (pointee.Pointer at) = 0
target_depth known (pointee.Named n) = type_depth_of known n.text

abbrev pub param_depth : Measures → ParamTree → ℕ
param_depth known (param.Value t n) = plain_depth known t
param_depth known (param.Mutable t n) = target_depth known t
param_depth known (param.Bytes n room) = value_depth known room

abbrev pub head_depth : Measures → HeadTree → ℕ
head_depth known h = max (greatest (map (param_depth known) h.params)) (option_depth known h.condition)

abbrev pub item_depth : Measures → ItemTree → ℕ
item_depth known i = elim i.value [ None ↦ 0 | Some c ↦ value_depth known c ]

-- the greatest depth of the definitions that a definition names
abbrev pub uses_depth : Measures → Def → ℕ
uses_depth known (Define d) = 0
uses_depth known (Enum d) = greatest (map (item_depth known) d.items)
uses_depth known (Alias d) = plain_depth known d.target
uses_depth known (Struct d) = max (head_depth known d.head) (fields_depth known d.fields)
uses_depth known (Casetype d) =
    max (max (head_depth known d.head) (tree_depth known d.subject))
    (max (greatest (map (case_depth known) d.cases)) (default_depth known d.default))
uses_depth known (Output d) = 0
