-- The weight of a definition (own rule): 32, and 8 for each node of parameters, `where` and switch and for each case, and
-- the weights of the fields. A field weighs 32, and 8 for each node of its expressions and statements, and what the
-- definition weighs that it names; an array twice that and 64. And the cells of a definition.
use Rattle.std.specs.Prelude.{ℕ, ◌+◌, ◌*◌, Bool, cond, List, map, sum, length, Option, Some, None}
use Rattle.td_ast.specs.Extents.{is_array}
use Rattle.td_ast.specs.Trees.{tree_size}
use Rattle.td_limits.specs.Imports.{PlainTree, TypeKind, FieldTree, HeadTree, ParamTree, TargetTree, CaseTree, Def, Define, Enum, Alias, Struct, Casetype, Output}
use Rattle.td_ast.specs.declared.names.PlainTree.TheVariants as plain
use Rattle.td_ast.specs.declared.fields.TypeKind.TheVariants as type
use Rattle.td_ast.specs.declared.parameters.ParamTree.TheVariants as param
use Rattle.td_ast.specs.declared.parameters.TargetTree.TheVariants as pointee
use Rattle.td_limits.specs.Measures.{Measures, type_weight_of, type_cells_of}
use Rattle.td_limits.specs.Nodes.{inner_nodes, head_nodes}

abbrev pub kind_weight : Measures → TypeKind → ℕ
kind_weight known (type.Number t) = 0
kind_weight known type.Unit = 0
kind_weight known type.AllBytes = 0
kind_weight known type.AllZeros = 0
kind_weight known (type.Named n args) = type_weight_of known n

abbrev pub in_array : Bool → ℕ → ℕ
in_array is weight = cond is (2 * weight + 64) weight

abbrev pub field_weight : Measures → FieldTree → ℕ
field_weight known f = in_array (is_array f.extent) (32 + (8 * inner_nodes f + kind_weight known f.type_tree.kind))

abbrev pub fields_weight : Measures → List FieldTree → ℕ
fields_weight known fs = sum (map (field_weight known) fs)

abbrev pub case_weight : Measures → CaseTree → ℕ
case_weight known c = 8 + fields_weight known c.fields

abbrev pub default_weight : Measures → Option (List FieldTree) → ℕ
default_weight known None = 0
default_weight known (Some fs) = fields_weight known fs

abbrev pub plain_weight : Measures → PlainTree → ℕ
plain_weight known (plain.Number t) = 0
plain_weight known (plain.Named n) = type_weight_of known n.text

-- another name for a type weighs what that weighs too; a record's slots are its fields
abbrev pub definition_weight : Measures → Def → ℕ
definition_weight known (Define d) = 32
definition_weight known (Enum d) = 32
definition_weight known (Alias d) = 32 + plain_weight known d.target
definition_weight known (Struct d) = 32 + (8 * head_nodes d.head + fields_weight known d.fields)
definition_weight known (Casetype d) =
    32 + (8 * (head_nodes d.head + tree_size d.subject)
    + (sum (map (case_weight known) d.cases) + default_weight known d.default))
definition_weight known (Output d) = 32 + 32 * length d.slots

-- cells: one for a `mutable` parameter, or one for each slot of its output record; a copy buffer is none
abbrev pub target_cells : Measures → TargetTree → ℕ
target_cells known (pointee.Number t) = 1
target_cells known (pointee.Pointer at) = 1
target_cells known (pointee.Named n) = type_cells_of known n.text

abbrev pub param_cells : Measures → ParamTree → ℕ
param_cells known (param.Value t n) = 0
param_cells known (param.Mutable t n) = target_cells known t
param_cells known (param.Bytes n room) = 0

abbrev pub head_cells : Measures → HeadTree → ℕ
head_cells known h = sum (map (param_cells known) h.params)

abbrev pub count_cells : Measures → Def → ℕ
count_cells known (Define d) = 0
count_cells known (Enum d) = 0
count_cells known (Alias d) = 0
count_cells known (Struct d) = head_cells known d.head
count_cells known (Casetype d) = head_cells known d.head
count_cells known (Output d) = 0
