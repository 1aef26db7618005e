-- The nodes of a text (own rule): definitions, parameters, fields and slots, cases, items of enums, statements and nodes
-- of expressions. Constants of items and cases, rooms of copy buffers, widths of bits, `{:copy}`, `field_ptr`, the cell of `= *p`
-- and the name in `sizeof` are none.
use Rattle.std.specs.Prelude.{ℕ, ◌+◌, List, length, map, sum, Option, Some, None}
use Rattle.td_ast.specs.Trees.{Tree, tree_size}
use Rattle.td_ast.specs.Statements.{Statement, Store, StoreField, Var, If, IfElse, Return, Abort, Statements, End, More, block_of}
use Rattle.td_limits.specs.Imports.{Assigned, Value, FieldPtr, ActionTree, Done, Copied, TypeKind, ExtentTree, Bytes, ByteSize, SingleElement, Zeroterm, Bits, Given, OfCell, FieldTree, HeadTree, CaseTree, Def, Define, Enum, Alias, Struct, Casetype, Output}
use Rattle.td_ast.specs.declared.fields.TypeKind.TheVariants as type

abbrev pub option_nodes : Option Tree → ℕ
option_nodes None = 0
option_nodes (Some e) = tree_size e

abbrev pub assigned_nodes : Assigned → ℕ
assigned_nodes (Value e) = tree_size e
assigned_nodes (FieldPtr at) = 0

abbrev mutual
  pub statement_nodes : Statement → ℕ
  statement_nodes (Store at p rhs) = 1 + assigned_nodes rhs
  statement_nodes (StoreField at p f rhs) = 1 + assigned_nodes rhs
  statement_nodes (Var at x star p) = 1
  statement_nodes (If at e one) = 1 + (tree_size e + block_nodes one)
  statement_nodes (IfElse at e one other) = 1 + (tree_size e + (block_nodes one + block_nodes other))
  statement_nodes (Return at e) = 1 + tree_size e
  statement_nodes (Abort at) = 1

  pub block_nodes : Statements → ℕ
  block_nodes End = 0
  block_nodes (More x rest) = statement_nodes x + block_nodes rest

abbrev pub action_nodes : Option ActionTree → ℕ
action_nodes None = 0
action_nodes (Some (Done kind at b)) = block_nodes (block_of b)
action_nodes (Some (Copied at n)) = 0

abbrev pub kind_nodes : TypeKind → ℕ
kind_nodes (type.Number t) = 0
kind_nodes type.Unit = 0
kind_nodes type.AllBytes = 0
kind_nodes type.AllZeros = 0
kind_nodes (type.Named n args) = sum (map tree_size args)

abbrev pub extent_nodes : Option ExtentTree → ℕ
extent_nodes None = 0
extent_nodes (Some (Bytes e)) = tree_size e
extent_nodes (Some (ByteSize e)) = tree_size e
extent_nodes (Some (SingleElement e)) = tree_size e
extent_nodes (Some (Zeroterm e)) = tree_size e
extent_nodes (Some (Bits n)) = 0
extent_nodes (Some (Given e)) = tree_size e
extent_nodes (Some (OfCell at n)) = 0

-- of a field's expressions and statements
abbrev pub inner_nodes : FieldTree → ℕ
inner_nodes f = kind_nodes f.type_tree.kind + (extent_nodes f.extent + (option_nodes f.refinement + action_nodes f.action))

abbrev pub fields_nodes : List FieldTree → ℕ
fields_nodes fs = sum (map (λ f. 1 + inner_nodes f) fs)

abbrev pub default_nodes : Option (List FieldTree) → ℕ
default_nodes None = 0
default_nodes (Some fs) = fields_nodes fs

abbrev pub cases_nodes : List CaseTree → ℕ
cases_nodes cs = sum (map (λ c. 1 + fields_nodes c.fields) cs)

abbrev pub head_nodes : HeadTree → ℕ
head_nodes h = length h.params + option_nodes h.condition

abbrev pub definition_nodes : Def → ℕ
definition_nodes (Define d) = 1
definition_nodes (Enum d) = 1 + length d.items
definition_nodes (Alias d) = 1
definition_nodes (Struct d) = 1 + (head_nodes d.head + fields_nodes d.fields)
definition_nodes (Casetype d) = 1 + (head_nodes d.head + (tree_size d.subject + (cases_nodes d.cases + default_nodes d.default)))
definition_nodes (Output d) = 1 + length d.slots
