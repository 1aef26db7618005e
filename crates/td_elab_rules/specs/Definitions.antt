-- The rules of definitions, and what is known after each (3D manual, "Modules"; own rule: each names earlier ones only).
use Rattle.std.specs.Prelude.{ℕ, ◌+◌, Bool, true, false, List, [], ◌∷◌, ◌++◌, length, Some, None}
use Rattle.td_elab_rules.specs.Imports.{FieldTree, StructTree, CasetypeTree, Def, Define, Enum, Alias, Struct, Casetype, Output, TypeDef}
use Rattle.td_ast.specs.declared.definitions.DefineTree.{DefineTree}
use Rattle.td_core.specs.declared.module.Body.TheVariants.{Struct as StructBody}
use Rattle.td_kinds.specs.Kinds.{body_kind}
use Rattle.td_names.specs.Names.{with_name, number_of}
use Rattle.td_elab_rules.specs.declared.breach.Breach.{Breach}
use Rattle.td_elab_rules.specs.declared.known.Parameter.{Parameter}
use Rattle.td_elab_rules.specs.declared.known.Meaning.TheVariants as meaning
use Rattle.td_elab_rules.specs.declared.known.Known.{Known}
use Rattle.td_elab_rules.specs.declared.known.Scope.{Scope}
use Rattle.td_elab_rules.specs.declared.parameters.Head.{Head}
use Rattle.td_elab_rules.specs.Known.{kind_at, with_this}
use Rattle.td_elab_rules.specs.Sorts.{option_core}
use Rattle.td_elab_rules.specs.ExprRules.{test_breaches}
use Rattle.td_elab_rules.specs.Fields.{fields_breaches, fields_taken, fields_core}
use Rattle.td_elab_rules.specs.Leading.{leading_size}
use Rattle.td_elab_rules.specs.Constants.{global_breaches, literal_breaches, with_global}
use Rattle.td_elab_rules.specs.Enums.{enum_breaches, after_enum}
use Rattle.td_elab_rules.specs.Aliases.{alias_breaches, after_alias}
use Rattle.td_elab_rules.specs.Parameters.{no_head, head_of, params_breaches}
use Rattle.td_elab_rules.specs.Casetypes.{switch_breaches, switch_taken, switch_core}
use Rattle.td_elab_rules.specs.Records.{record_breaches, after_record}

-- Constants

abbrev pub after_define : Known → DefineTree → Known
after_define k d = record (with_global k d.name.text (meaning.Constant d.value.value)) { count = k.count + 1 }

-- Structs and casetypes

-- one more name for each
abbrev pub with_names : List (List ℕ) → List (List ℕ) → List (List ℕ)
with_names names [] = names
with_names names (n ∷ ns) = with_names (with_name names n) ns

abbrev pub entry_more : Bool → ℕ → List ℕ → List ℕ
entry_more true j entries = entries ++ j ∷ []
entry_more false j entries = entries

-- what is known after a struct or casetype of that name, with these parameters, which gave these names
abbrev pub with_type : Known → (is_entry : Bool) → List ℕ → List Parameter → List (List ℕ) → TypeDef → Known
with_type k is_entry name ps given d = record (with_global k name (meaning.Type (length k.definitions))) {
  count = k.count + 1;
  used = with_names k.used given;
  signatures = k.signatures ++ ps ∷ [];
  kinds = k.kinds ++ body_kind (kind_at k) d.body ∷ [];
  definitions = k.definitions ++ d ∷ [];
  entries = entry_more is_entry (length k.definitions) k.entries;
}

abbrev pub struct_head : List (List ℕ) → Known → StructTree → Head
struct_head names k d = head_of names k no_head d.head.params

-- where `where` and the fields of a struct stand
abbrev pub struct_scope : Known → Scope → List FieldTree → Scope
struct_scope k s fs = with_this s (Some (leading_size k s None fs))

abbrev pub struct_breaches : List (List ℕ) → Known → StructTree → List Breach
struct_breaches names k d =
    let h = struct_head names k d in
    let s = struct_scope k h.scope d.fields in
    params_breaches names k no_head d.head.params
    ++ (test_breaches k s d.head.condition ++ (fields_breaches k h.taken s d.fields ++ global_breaches k d.name))

abbrev pub struct_core : List (List ℕ) → Known → StructTree → TypeDef
struct_core names k d =
    let h = struct_head names k d in
    let s = struct_scope k h.scope d.fields in
    record {
      name = record { number = number_of names d.name.text };
      params = h.params;
      cells = h.cells;
      buffers = h.buffers;
      guard = option_core k s d.head.condition;
      body = StructBody (fields_core names k s d.fields);
    }

abbrev pub after_struct : List (List ℕ) → Known → StructTree → Known
after_struct names k d =
    let h = struct_head names k d in
    with_type k d.entry d.name.text h.parameters (fields_taken h.taken d.fields).all (struct_core names k d)

abbrev pub casetype_head : List (List ℕ) → Known → CasetypeTree → Head
casetype_head names k d = head_of names k no_head d.head.params

abbrev pub casetype_breaches : List (List ℕ) → Known → CasetypeTree → List Breach
casetype_breaches names k d =
    let h = casetype_head names k d in
    params_breaches names k no_head d.head.params
    ++ (test_breaches k h.scope d.head.condition ++ (switch_breaches k h.taken h.scope d ++ global_breaches k d.name))

abbrev pub casetype_core : List (List ℕ) → Known → CasetypeTree → TypeDef
casetype_core names k d =
    let h = casetype_head names k d in
    record {
      name = record { number = number_of names d.name.text };
      params = h.params;
      cells = h.cells;
      buffers = h.buffers;
      guard = option_core k h.scope d.head.condition;
      body = switch_core names k h.scope d;
    }

abbrev pub after_casetype : List (List ℕ) → Known → CasetypeTree → Known
after_casetype names k d =
    let h = casetype_head names k d in
    with_type k d.entry d.name.text h.parameters (switch_taken h.taken d).all (casetype_core names k d)

-- Definitions

abbrev pub definition_breaches : List (List ℕ) → Known → Def → List Breach
definition_breaches names k (Define d) = literal_breaches k d.name
definition_breaches names k (Enum d) = enum_breaches k d
definition_breaches names k (Alias d) = alias_breaches k d
definition_breaches names k (Struct d) = struct_breaches names k d
definition_breaches names k (Casetype d) = casetype_breaches names k d
definition_breaches names k (Output d) = record_breaches k d

abbrev pub after : List (List ℕ) → Known → Def → Known
after names k (Define d) = after_define k d
after names k (Enum d) = after_enum k d
after names k (Alias d) = after_alias k d
after names k (Struct d) = after_struct names k d
after names k (Casetype d) = after_casetype names k d
after names k (Output d) = after_record k d

abbrev pub definitions_breaches : List (List ℕ) → Known → List Def → List Breach
definitions_breaches names k [] = []
definitions_breaches names k (d ∷ ds) = definition_breaches names k d ++ definitions_breaches names (after names k d) ds

abbrev pub known_after : List (List ℕ) → Known → List Def → Known
known_after names k [] = k
known_after names k (d ∷ ds) = known_after names (after names k d) ds
