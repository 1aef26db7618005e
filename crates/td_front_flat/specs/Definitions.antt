-- Definitions of a part, with the names that they have in the whole text (own rule). Places stay.
use Rattle.std.specs.Prelude.{ℕ, List, [], ◌∷◌, map, Option, Some, None}
use Rattle.td_ast.specs.declared.names.Name.{Name}
use Rattle.td_ast.specs.declared.names.ConstTree.{ConstTree}
use Rattle.td_ast.specs.declared.names.ConstTree.TheVariants as constant
use Rattle.td_ast.specs.declared.names.PlainTree.{PlainTree}
use Rattle.td_ast.specs.declared.names.PlainTree.TheVariants as plain
use Rattle.td_ast.specs.declared.fields.TypeKind.{TypeKind}
use Rattle.td_ast.specs.declared.fields.TypeKind.TheVariants as type
use Rattle.td_ast.specs.declared.fields.TypeTree.{TypeTree}
use Rattle.td_ast.specs.declared.fields.ExtentTree.{ExtentTree}
use Rattle.td_ast.specs.declared.fields.ExtentTree.TheVariants.{Bytes, ByteSize, SingleElement, Zeroterm, Bits, Given, OfCell}
use Rattle.td_ast.specs.declared.fields.FieldTree.{FieldTree}
use Rattle.td_ast.specs.declared.parameters.HeadTree.{HeadTree}
use Rattle.td_ast.specs.declared.parameters.ParamTree.{ParamTree}
use Rattle.td_ast.specs.declared.parameters.ParamTree.TheVariants as param
use Rattle.td_ast.specs.declared.parameters.TargetTree.{TargetTree}
use Rattle.td_ast.specs.declared.parameters.TargetTree.TheVariants as pointee
use Rattle.td_ast.specs.declared.definitions.ItemTree.{ItemTree}
use Rattle.td_ast.specs.declared.definitions.CaseTree.{CaseTree}
use Rattle.td_ast.specs.declared.definitions.SlotTree.{SlotTree}
use Rattle.td_ast.specs.declared.definitions.Def.{Def}
use Rattle.td_ast.specs.declared.definitions.Def.TheVariants.{Define, Enum, Alias, Struct, Casetype, Output}
use Rattle.td_ast.specs.declared.parts.PartTree.{PartTree}
use Rattle.td_names.specs.Names.{with_name}
use Rattle.td_front_flat.specs.declared.own.Own.{Own}
use Rattle.td_front_flat.specs.Names.{of_part, meant}
use Rattle.td_front_flat.specs.Expressions.{used_name, given_name, flat_tree, flat_given, flat_option, flat_action}

-- the name of a definition, a constant or a member where it is defined
abbrev pub defined_name : Own → Name → Name
defined_name own n = record { text = of_part own.number n.text; span = n.span }

abbrev pub flat_constant : Own → List (List ℕ) → ConstTree → ConstTree
flat_constant own scope (constant.Number n) = constant.Number n
flat_constant own scope (constant.Named n) = constant.Named (used_name own scope n)

abbrev pub flat_plain : Own → List (List ℕ) → PlainTree → PlainTree
flat_plain own scope (plain.Number t) = plain.Number t
flat_plain own scope (plain.Named n) = plain.Named (used_name own scope n)

abbrev pub flat_target : Own → List (List ℕ) → TargetTree → TargetTree
flat_target own scope (pointee.Number t) = pointee.Number t
flat_target own scope (pointee.Pointer at) = pointee.Pointer at
flat_target own scope (pointee.Named n) = pointee.Named (used_name own scope n)

-- Heads: a parameter is in scope after it

abbrev pub flat_param : Own → List (List ℕ) → ParamTree → ParamTree
flat_param own scope (param.Value t n) = param.Value (flat_plain own scope t) (given_name own n)
flat_param own scope (param.Mutable t n) = param.Mutable (flat_target own scope t) (given_name own n)
flat_param own scope (param.Bytes n k) = param.Bytes (given_name own n) (flat_constant own scope k)

abbrev pub with_param : List (List ℕ) → ParamTree → List (List ℕ)
with_param scope (param.Value t n) = with_name scope n.text
with_param scope (param.Mutable t n) = with_name scope n.text
with_param scope (param.Bytes n k) = with_name scope n.text

abbrev pub flat_params : Own → List (List ℕ) → List ParamTree → List ParamTree
flat_params own scope [] = []
flat_params own scope (p ∷ ps) = flat_param own scope p ∷ flat_params own (with_param scope p) ps

abbrev pub with_params : List (List ℕ) → List ParamTree → List (List ℕ)
with_params scope [] = scope
with_params scope (p ∷ ps) = with_params (with_param scope p) ps

abbrev pub head_scope : HeadTree → List (List ℕ)
head_scope h = with_params [] h.params

abbrev pub flat_head : Own → HeadTree → HeadTree
flat_head own h = record { params = flat_params own [] h.params; condition = flat_option own (head_scope h) h.condition }

-- Fields: a field is in scope from its refinement on

abbrev pub flat_kind : Own → List (List ℕ) → TypeKind → TypeKind
flat_kind own scope (type.Number t) = type.Number t
flat_kind own scope type.Unit = type.Unit
flat_kind own scope type.AllBytes = type.AllBytes
flat_kind own scope type.AllZeros = type.AllZeros
flat_kind own scope (type.Named n args) = type.Named (meant own scope n) (map (flat_tree own scope) args)

abbrev pub flat_type : Own → List (List ℕ) → TypeTree → TypeTree
flat_type own scope t = record { span = t.span; kind = flat_kind own scope t.kind }

abbrev pub flat_extent : Own → List (List ℕ) → Option ExtentTree → Option ExtentTree
flat_extent own scope None = None
flat_extent own scope (Some (Bytes e)) = Some (Bytes (flat_tree own scope e))
flat_extent own scope (Some (ByteSize e)) = Some (ByteSize (flat_tree own scope e))
flat_extent own scope (Some (SingleElement e)) = Some (SingleElement (flat_tree own scope e))
flat_extent own scope (Some (Zeroterm e)) = Some (Zeroterm (flat_tree own scope e))
flat_extent own scope (Some (Bits n)) = Some (Bits n)
flat_extent own scope (Some (Given e)) = Some (Given (flat_given own scope e))
flat_extent own scope (Some (OfCell star n)) = Some (OfCell star (used_name own scope n))

abbrev pub with_field : List (List ℕ) → FieldTree → List (List ℕ)
with_field scope f = with_name scope f.name.text

abbrev pub flat_field : Own → List ParamTree → List (List ℕ) → FieldTree → FieldTree
flat_field own params scope f = record {
  type_tree = flat_type own scope f.type_tree;
  name = given_name own f.name;
  extent = flat_extent own scope f.extent;
  refinement = flat_option own (with_field scope f) f.refinement;
  action = flat_action own params (with_field scope f) f.action;
}

abbrev pub flat_fields : Own → List ParamTree → List (List ℕ) → List FieldTree → List FieldTree
flat_fields own params scope [] = []
flat_fields own params scope (f ∷ fs) = flat_field own params scope f ∷ flat_fields own params (with_field scope f) fs

-- after several
abbrev pub with_fields : List (List ℕ) → List FieldTree → List (List ℕ)
with_fields scope [] = scope
with_fields scope (f ∷ fs) = with_fields (with_field scope f) fs

-- Definitions

abbrev pub flat_value : Own → Option ConstTree → Option ConstTree
flat_value own None = None
flat_value own (Some c) = Some (flat_constant own [] c)

abbrev pub flat_item : Own → ItemTree → ItemTree
flat_item own i = record { name = defined_name own i.name; value = flat_value own i.value }

abbrev pub flat_case : Own → List ParamTree → List (List ℕ) → CaseTree → CaseTree
flat_case own params scope c = record { constant = flat_constant own scope c.constant; fields = flat_fields own params scope c.fields }

abbrev pub flat_default : Own → List ParamTree → List (List ℕ) → Option (List FieldTree) → Option (List FieldTree)
flat_default own params scope None = None
flat_default own params scope (Some fs) = Some (flat_fields own params scope fs)

abbrev pub flat_slot : Own → SlotTree → SlotTree
flat_slot own x = record { kind = x.kind; name = given_name own x.name }

-- the first name of a struct, a casetype or a record is never looked up, and stays
abbrev pub flat_definition : Own → Def → Def
flat_definition own (Define d) = Define (record { name = defined_name own d.name; value = d.value })
flat_definition own (Enum d) = Enum (record { base = d.base; name = defined_name own d.name; items = map (flat_item own) d.items })
flat_definition own (Alias d) = Alias (record { target = flat_plain own [] d.target; name = defined_name own d.name })
flat_definition own (Struct d) =
    Struct (record { entry = d.entry; tag = d.tag; head = flat_head own d.head; fields = flat_fields own d.head.params (head_scope d.head) d.fields; name = defined_name own d.name })
flat_definition own (Casetype d) =
    Casetype (record {
      entry = d.entry;
      tag = d.tag;
      head = flat_head own d.head;
      subject = flat_tree own (head_scope d.head) d.subject;
      cases = map (flat_case own d.head.params (head_scope d.head)) d.cases;
      default = flat_default own d.head.params (head_scope d.head) d.default;
      name = defined_name own d.name;
    })
flat_definition own (Output d) = Output (record { tag = d.tag; slots = map (flat_slot own) d.slots; name = defined_name own d.name })

-- the names of the constants and members of a part
abbrev pub with_items : List (List ℕ) → List ItemTree → List (List ℕ)
with_items names [] = names
with_items names (i ∷ is) = with_items (with_name names i.name.text) is

abbrev pub with_literals : List (List ℕ) → Def → List (List ℕ)
with_literals names (Define d) = with_name names d.name.text
with_literals names (Enum d) = with_items names d.items
with_literals names (Alias d) = names
with_literals names (Struct d) = names
with_literals names (Casetype d) = names
with_literals names (Output d) = names

abbrev pub all_literals : List (List ℕ) → List Def → List (List ℕ)
all_literals names [] = names
all_literals names (d ∷ ds) = all_literals (with_literals names d) ds

-- of the part with this number among parts of these names
abbrev pub own_of : List (List ℕ) → ℕ → PartTree → Own
own_of parts number p = record { number = number; parts = parts; literals = all_literals [] p.definitions }

-- its definitions, as they stand in the whole
abbrev pub flat_part : List (List ℕ) → ℕ → PartTree → List Def
flat_part parts number p = map (flat_definition (own_of parts number p)) p.definitions
