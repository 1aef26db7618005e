-- Short ways to write trees: each takes the parts in the order of the text, and places as `from` and `to`.
use Rattle.std.specs.Prelude.{ℕ, Bool, true, false, List, Option, Some, None}
use Rattle.td_test_rows.specs.Imports.{Width, ByteOrder, LittleEndian, BigEndian, Decimal, Name, Done, Copied, Def, Define, Enum, Alias, Struct, Casetype, Output}
use Rattle.td_ast.specs.declared.token.Base.{Base}
use Rattle.td_ast.specs.declared.names.Literal.{Literal}
use Rattle.td_ast.specs.declared.names.NumberTree.{NumberTree}
use Rattle.td_ast.specs.declared.names.ConstTree.{ConstTree}
use Rattle.td_ast.specs.declared.names.PlainTree.{PlainTree}
use Rattle.td_ast.specs.declared.expressions.BinaryOperator.{BinaryOperator}
use Rattle.td_ast.specs.Trees.{Tree, span_of, spanned, over}
use Rattle.td_ast.specs.Trees as tree
use Rattle.td_ast.specs.Statements.{Statement}
use Rattle.td_ast.specs.declared.actions.ActionKind.{ActionKind}
use Rattle.td_ast.specs.declared.actions.ActionTree.{ActionTree}
use Rattle.td_ast.specs.declared.parameters.ParamTree.{ParamTree}
use Rattle.td_ast.specs.declared.fields.TypeKind.{TypeKind}
use Rattle.td_ast.specs.declared.fields.TypeKind.TheVariants as type
use Rattle.td_ast.specs.declared.fields.TypeTree.{TypeTree}
use Rattle.td_ast.specs.declared.fields.ExtentTree.{ExtentTree}
use Rattle.td_ast.specs.declared.fields.FieldTree.{FieldTree}
use Rattle.td_ast.specs.declared.definitions.ItemTree.{ItemTree}
use Rattle.td_ast.specs.declared.definitions.CaseTree.{CaseTree}
use Rattle.td_ast.specs.declared.definitions.SlotKind.{SlotKind}
use Rattle.td_ast.specs.declared.definitions.SlotTree.{SlotTree}
use Rattle.td_test_rows.specs.Rows.{sp, nm, number}

-- Numbers

abbrev pub literal : ℕ → Base → ℕ → ℕ → Literal
literal value base from to = record { value = value; base = base; span = sp from to }

abbrev pub number_at : Width → ByteOrder → ℕ → ℕ → NumberTree
number_at width order from to = record { number = number width order; span = sp from to }

-- Expressions

-- a number in decimal digits
abbrev pub written : ℕ → ℕ → ℕ → Tree
written value from to = tree.Number (sp from to) value Decimal

abbrev pub named : Prim.Native.String.String → ℕ → ℕ → Tree
named text from to = tree.Name (sp from to) (nm text from to)

-- `left OPERATOR right`, with the place of the operator
abbrev pub binary : BinaryOperator → ℕ → ℕ → Tree → Tree → Tree
binary op from to left right = tree.Binary (over (span_of left) (span_of right)) op (sp from to) left right

-- `condition ? first : second`, with the place of `?`
abbrev pub choice : ℕ → ℕ → Tree → Tree → Tree → Tree
choice from to condition first second = tree.Choice (over (span_of condition) (span_of second)) (sp from to) condition first second

-- `( e )`
abbrev pub in_parens : ℕ → ℕ → Tree → Tree
in_parens from to e = spanned (sp from to) e

-- Fields

abbrev pub type_at : TypeKind → ℕ → ℕ → TypeTree
type_at kind from to = record { span = sp from to; kind = kind }

abbrev pub little : Width → ℕ → ℕ → TypeTree
little width from to = type_at (type.Number (number width LittleEndian)) from to

abbrev pub big : Width → ℕ → ℕ → TypeTree
big width from to = type_at (type.Number (number width BigEndian)) from to

abbrev pub action : ActionKind → ℕ → ℕ → List Statement → ActionTree
action kind from to statements = Done kind (sp from to) statements

-- `{:copy NAME`, with its place
abbrev pub copy : ℕ → ℕ → Name → ActionTree
copy from to name = Copied (sp from to) name

-- type, name, extent, refinement, action
abbrev pub whole_field : TypeTree → Name → Option ExtentTree → Option Tree → Option ActionTree → FieldTree
whole_field type_tree name extent refinement action =
    record { type_tree = type_tree; name = name; extent = extent; refinement = refinement; action = action }

abbrev pub field : TypeTree → Name → FieldTree
field type_tree name = whole_field type_tree name None None None

abbrev pub tested : TypeTree → Name → Tree → FieldTree
tested type_tree name refinement = whole_field type_tree name None (Some refinement) None

abbrev pub sized : TypeTree → Name → ExtentTree → FieldTree
sized type_tree name extent = whole_field type_tree name (Some extent) None None

-- Definitions

abbrev pub define : Name → Literal → Def
define name value = Define (record { name = name; value = value })

abbrev pub item : Name → Option ConstTree → ItemTree
item name value = record { name = name; value = value }

abbrev pub enum_of : NumberTree → Name → List ItemTree → Def
enum_of base name items = Enum (record { base = base; name = name; items = items })

abbrev pub alias : PlainTree → Name → Def
alias target name = Alias (record { target = target; name = name })

abbrev pub struct_with : Bool → Name → List ParamTree → Option Tree → List FieldTree → Name → Def
struct_with entry tag params condition fields name =
    Struct (record { entry = entry; tag = tag; head = record { params = params; condition = condition }; fields = fields; name = name })

abbrev pub struct : Name → List ParamTree → List FieldTree → Name → Def
struct tag params fields name = struct_with false tag params None fields name

abbrev pub entry_struct : Name → List ParamTree → List FieldTree → Name → Def
entry_struct tag params fields name = struct_with true tag params None fields name

-- with its `where`
abbrev pub guarded_struct : Name → List ParamTree → Tree → List FieldTree → Name → Def
guarded_struct tag params condition fields name = struct_with false tag params (Some condition) fields name

abbrev pub case_of : ConstTree → List FieldTree → CaseTree
case_of constant fields = record { constant = constant; fields = fields }

abbrev pub casetype : Name → List ParamTree → Tree → List CaseTree → Option (List FieldTree) → Name → Def
casetype tag params subject cases default name =
    Casetype (record { entry = false; tag = tag; head = record { params = params; condition = None }; subject = subject; cases = cases; default = default; name = name })

abbrev pub slot_of : SlotKind → Name → SlotTree
slot_of kind name = record { kind = kind; name = name }

abbrev pub output : Name → List SlotTree → Name → Def
output tag slots name = Output (record { tag = tag; slots = slots; name = name })
