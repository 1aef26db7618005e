-- Trees without their places (own rule): each span is that of no bytes at place 0, and all else is as it was.
use Rattle.std.specs.Prelude.{map, option_map}
use Rattle.td_ast.specs.declared.token.Span.{Span}
use Rattle.td_ast.specs.declared.names.Name.{Name}
use Rattle.td_ast.specs.declared.names.Literal.{Literal}
use Rattle.td_ast.specs.declared.names.NumberTree.{NumberTree}
use Rattle.td_ast.specs.declared.names.ConstTree.{ConstTree}
use Rattle.td_ast.specs.declared.names.ConstTree.TheVariants as constants
use Rattle.td_ast.specs.declared.names.PlainTree.{PlainTree}
use Rattle.td_ast.specs.declared.names.PlainTree.TheVariants as plains
use Rattle.td_ast.specs.declared.actions.Assigned.{Assigned}
use Rattle.td_ast.specs.declared.actions.Assigned.TheVariants.{Value, FieldPtr}
use Rattle.td_ast.specs.declared.actions.ActionTree.{ActionTree}
use Rattle.td_ast.specs.declared.actions.ActionTree.TheVariants.{Done, Copied}
use Rattle.td_ast.specs.declared.parameters.TargetTree.{TargetTree}
use Rattle.td_ast.specs.declared.parameters.TargetTree.TheVariants as targets
use Rattle.td_ast.specs.declared.parameters.ParamTree.{ParamTree}
use Rattle.td_ast.specs.declared.parameters.ParamTree.TheVariants as params
use Rattle.td_ast.specs.declared.parameters.HeadTree.{HeadTree}
use Rattle.td_ast.specs.declared.fields.TypeKind.{TypeKind}
use Rattle.td_ast.specs.declared.fields.TypeKind.TheVariants as types
use Rattle.td_ast.specs.declared.fields.TypeTree.{TypeTree}
use Rattle.td_ast.specs.declared.fields.ExtentTree.{ExtentTree}
use Rattle.td_ast.specs.declared.fields.ExtentTree.TheVariants as extents
use Rattle.td_ast.specs.declared.fields.FieldTree.{FieldTree}
use Rattle.td_ast.specs.declared.definitions.DefineTree.{DefineTree}
use Rattle.td_ast.specs.declared.definitions.ItemTree.{ItemTree}
use Rattle.td_ast.specs.declared.definitions.EnumTree.{EnumTree}
use Rattle.td_ast.specs.declared.definitions.AliasTree.{AliasTree}
use Rattle.td_ast.specs.declared.definitions.StructTree.{StructTree}
use Rattle.td_ast.specs.declared.definitions.CaseTree.{CaseTree}
use Rattle.td_ast.specs.declared.definitions.CasetypeTree.{CasetypeTree}
use Rattle.td_ast.specs.declared.definitions.SlotKind.{SlotKind}
use Rattle.td_ast.specs.declared.definitions.SlotKind.TheVariants as slots
use Rattle.td_ast.specs.declared.definitions.SlotTree.{SlotTree}
use Rattle.td_ast.specs.declared.definitions.OutputTree.{OutputTree}
use Rattle.td_ast.specs.declared.definitions.Def.{Def}
use Rattle.td_ast.specs.declared.definitions.Def.TheVariants as defs
use Rattle.td_ast.specs.declared.definitions.ModuleTree.{ModuleTree}
use Rattle.td_ast.specs.declared.parts.PartTree.{PartTree}
use Rattle.td_ast.specs.declared.parts.InputTree.{InputTree}
use Rattle.td_ast.specs.declared.parts.InputTree.TheVariants.{Module, Parts}
use Rattle.td_ast.specs.Trees as trees
use Rattle.td_ast.specs.Trees.{Tree}
use Rattle.td_ast.specs.Statements as statements
use Rattle.td_ast.specs.Statements.{Statement, Statements}

abbrev pub nowhere : Span
nowhere = record { from = 0; to = 0 }

-- ---- names

abbrev pub unspanned_name : Name → Name
unspanned_name name = record { text = name.text; span = nowhere }

abbrev pub unspanned_literal : Literal → Literal
unspanned_literal literal = record { value = literal.value; base = literal.base; span = nowhere }

abbrev pub unspanned_number : NumberTree → NumberTree
unspanned_number type = record { number = type.number; span = nowhere }

abbrev pub unspanned_constant : ConstTree → ConstTree
unspanned_constant (constants.Number literal) = constants.Number (unspanned_literal literal)
unspanned_constant (constants.Named name) = constants.Named (unspanned_name name)

abbrev pub unspanned_plain : PlainTree → PlainTree
unspanned_plain (plains.Number type) = plains.Number (unspanned_number type)
unspanned_plain (plains.Named name) = plains.Named (unspanned_name name)

-- ---- expressions

abbrev pub unspanned_expression : Tree → Tree
unspanned_expression (trees.Number s n b) = trees.Number nowhere n b
unspanned_expression (trees.Truth s b) = trees.Truth nowhere b
unspanned_expression (trees.Name s n) = trees.Name nowhere (unspanned_name n)
unspanned_expression (trees.FieldPos s p) = trees.FieldPos nowhere nowhere
unspanned_expression (trees.Sizeof s w o p) = trees.Sizeof nowhere nowhere o nowhere
unspanned_expression (trees.RangeOkay s a b c) = trees.RangeOkay nowhere (unspanned_expression a) (unspanned_expression b) (unspanned_expression c)
unspanned_expression (trees.Unary s o p a) = trees.Unary nowhere o nowhere (unspanned_expression a)
unspanned_expression (trees.Binary s o p a b) = trees.Binary nowhere o nowhere (unspanned_expression a) (unspanned_expression b)
unspanned_expression (trees.Choice s p a b c) = trees.Choice nowhere nowhere (unspanned_expression a) (unspanned_expression b) (unspanned_expression c)

-- ---- actions

abbrev pub unspanned_assigned : Assigned → Assigned
unspanned_assigned (Value value) = Value (unspanned_expression value)
unspanned_assigned (FieldPtr span) = FieldPtr nowhere

abbrev mutual
  pub unspanned_statement : Statement → Statement
  unspanned_statement (statements.Store s cell value) = statements.Store nowhere (unspanned_name cell) (unspanned_assigned value)
  unspanned_statement (statements.StoreField s cell field value) = statements.StoreField nowhere (unspanned_name cell) (unspanned_name field) (unspanned_assigned value)
  unspanned_statement (statements.Var s local star cell) = statements.Var nowhere (unspanned_name local) nowhere (unspanned_name cell)
  unspanned_statement (statements.If s condition block) = statements.If nowhere (unspanned_expression condition) (unspanned_block block)
  unspanned_statement (statements.IfElse s condition block other) = statements.IfElse nowhere (unspanned_expression condition) (unspanned_block block) (unspanned_block other)
  unspanned_statement (statements.Return s value) = statements.Return nowhere (unspanned_expression value)
  unspanned_statement (statements.Abort s) = statements.Abort nowhere

  pub unspanned_block : Statements → Statements
  unspanned_block statements.End = statements.End
  unspanned_block (statements.More statement others) = statements.More (unspanned_statement statement) (unspanned_block others)

abbrev pub unspanned_action : ActionTree → ActionTree
unspanned_action (Done kind span statements) = Done kind nowhere (map unspanned_statement statements)
unspanned_action (Copied span name) = Copied nowhere (unspanned_name name)

-- ---- parameters

abbrev pub unspanned_target : TargetTree → TargetTree
unspanned_target (targets.Number type) = targets.Number (unspanned_number type)
unspanned_target (targets.Pointer span) = targets.Pointer nowhere
unspanned_target (targets.Named name) = targets.Named (unspanned_name name)

abbrev pub unspanned_parameter : ParamTree → ParamTree
unspanned_parameter (params.Value type name) = params.Value (unspanned_plain type) (unspanned_name name)
unspanned_parameter (params.Mutable target name) = params.Mutable (unspanned_target target) (unspanned_name name)
unspanned_parameter (params.Bytes name room) = params.Bytes (unspanned_name name) (unspanned_constant room)

abbrev pub unspanned_head : HeadTree → HeadTree
unspanned_head head = record { params = map unspanned_parameter head.params; condition = option_map unspanned_expression head.condition }

-- ---- fields

abbrev pub unspanned_kind : TypeKind → TypeKind
unspanned_kind (types.Number type) = types.Number type
unspanned_kind types.Unit = types.Unit
unspanned_kind types.AllBytes = types.AllBytes
unspanned_kind types.AllZeros = types.AllZeros
unspanned_kind (types.Named text arguments) = types.Named text (map unspanned_expression arguments)

abbrev pub unspanned_type : TypeTree → TypeTree
unspanned_type type = record { span = nowhere; kind = unspanned_kind type.kind }

abbrev pub unspanned_extent : ExtentTree → ExtentTree
unspanned_extent (extents.Bytes size) = extents.Bytes (unspanned_expression size)
unspanned_extent (extents.ByteSize size) = extents.ByteSize (unspanned_expression size)
unspanned_extent (extents.SingleElement size) = extents.SingleElement (unspanned_expression size)
unspanned_extent (extents.Zeroterm size) = extents.Zeroterm (unspanned_expression size)
unspanned_extent (extents.Bits width) = extents.Bits (unspanned_literal width)
unspanned_extent (extents.Given value) = extents.Given (unspanned_expression value)
unspanned_extent (extents.OfCell star cell) = extents.OfCell nowhere (unspanned_name cell)

abbrev pub unspanned_field : FieldTree → FieldTree
unspanned_field field = record {
  type_tree = unspanned_type field.type_tree;
  name = unspanned_name field.name;
  extent = option_map unspanned_extent field.extent;
  refinement = option_map unspanned_expression field.refinement;
  action = option_map unspanned_action field.action;
}

-- ---- definitions

abbrev pub unspanned_define : DefineTree → DefineTree
unspanned_define define = record { name = unspanned_name define.name; value = unspanned_literal define.value }

abbrev pub unspanned_item : ItemTree → ItemTree
unspanned_item item = record { name = unspanned_name item.name; value = option_map unspanned_constant item.value }

abbrev pub unspanned_enum : EnumTree → EnumTree
unspanned_enum enum = record { base = unspanned_number enum.base; name = unspanned_name enum.name; items = map unspanned_item enum.items }

abbrev pub unspanned_alias : AliasTree → AliasTree
unspanned_alias alias = record { target = unspanned_plain alias.target; name = unspanned_name alias.name }

abbrev pub unspanned_struct : StructTree → StructTree
unspanned_struct struct = record {
  entry = struct.entry;
  tag = unspanned_name struct.tag;
  head = unspanned_head struct.head;
  fields = map unspanned_field struct.fields;
  name = unspanned_name struct.name;
}

abbrev pub unspanned_case : CaseTree → CaseTree
unspanned_case case_tree = record { constant = unspanned_constant case_tree.constant; fields = map unspanned_field case_tree.fields }

abbrev pub unspanned_casetype : CasetypeTree → CasetypeTree
unspanned_casetype casetype = record {
  entry = casetype.entry;
  tag = unspanned_name casetype.tag;
  head = unspanned_head casetype.head;
  subject = unspanned_expression casetype.subject;
  cases = map unspanned_case casetype.cases;
  default = option_map (map unspanned_field) casetype.default;
  name = unspanned_name casetype.name;
}

abbrev pub unspanned_slot_kind : SlotKind → SlotKind
unspanned_slot_kind (slots.Number type) = slots.Number (unspanned_number type)
unspanned_slot_kind (slots.Pointer span) = slots.Pointer nowhere

abbrev pub unspanned_slot : SlotTree → SlotTree
unspanned_slot slot = record { kind = unspanned_slot_kind slot.kind; name = unspanned_name slot.name }

abbrev pub unspanned_output : OutputTree → OutputTree
unspanned_output output = record { tag = unspanned_name output.tag; slots = map unspanned_slot output.slots; name = unspanned_name output.name }

abbrev pub unspanned_definition : Def → Def
unspanned_definition (defs.Define define) = defs.Define (unspanned_define define)
unspanned_definition (defs.Enum enum) = defs.Enum (unspanned_enum enum)
unspanned_definition (defs.Alias alias) = defs.Alias (unspanned_alias alias)
unspanned_definition (defs.Struct struct) = defs.Struct (unspanned_struct struct)
unspanned_definition (defs.Casetype casetype) = defs.Casetype (unspanned_casetype casetype)
unspanned_definition (defs.Output output) = defs.Output (unspanned_output output)

abbrev pub unspanned_module : ModuleTree → ModuleTree
unspanned_module tree = record { definitions = map unspanned_definition tree.definitions }

abbrev pub unspanned_part : PartTree → PartTree
unspanned_part part = record { name = unspanned_name part.name; definitions = map unspanned_definition part.definitions }

-- an input without its places
abbrev pub unspanned : InputTree → InputTree
unspanned (Module tree) = Module (unspanned_module tree)
unspanned (Parts parts) = Parts (map unspanned_part parts)
