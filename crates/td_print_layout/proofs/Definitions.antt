-- Definitions read back.
use Rattle.std.proofs.Common.{◌≡◌, Bool, true, false, List, [], ◌∷◌, ◌++◌, map, Option, Some, None, refl, ap}
use Rattle.std.specs.Prelude.{option_map, flat_map}
use Rattle.td_num.specs.Lists.{Each}
use Rattle.td_ast.specs.declared.token.TokenKind.TheVariants as kinds
use Rattle.td_ast.specs.declared.names.Name.{Name}
use Rattle.td_ast.specs.declared.names.NumberTree.{NumberTree}
use Rattle.td_ast.specs.declared.parameters.HeadTree.{HeadTree}
use Rattle.td_ast.specs.declared.fields.FieldTree.{FieldTree}
use Rattle.td_ast.specs.declared.definitions.StructTree.{StructTree}
use Rattle.td_ast.specs.declared.definitions.CaseTree.{CaseTree}
use Rattle.td_ast.specs.declared.definitions.CasetypeTree.{CasetypeTree}
use Rattle.td_ast.specs.declared.definitions.SlotKind.{SlotKind}
use Rattle.td_ast.specs.declared.definitions.SlotKind.TheVariants as slots
use Rattle.td_ast.specs.declared.definitions.SlotTree.{SlotTree}
use Rattle.td_ast.specs.declared.definitions.OutputTree.{OutputTree}
use Rattle.td_ast.specs.declared.definitions.Def.{Def}
use Rattle.td_ast.specs.declared.definitions.Def.TheVariants as defs
use Rattle.td_ast.specs.Trees.{Tree}
use Rattle.td_grammar.specs.Grammar.{◌making◌, maybe, ◌or◌}
use Rattle.td_grammar.specs.Tokens.{terminal, number_type}
use Rattle.td_grammar.specs.Fields.{field}
use Rattle.td_grammar.specs.Sequences.{some_of}
use Rattle.td_grammar.specs.Definitions.{closing, case_tree, slot, subject, default_case, cases, struct_rest, casetype, typedef, entrypoint, output, def}
use Rattle.td_print_layout.specs.Pieces.{Word, Blank, LineEnd}
use Rattle.td_print_layout.specs.Sequences.{name_piece, optional}
use Rattle.td_print_layout.specs.Parameters.{head_pieces}
use Rattle.td_print_layout.specs.Definitions.{closing_pieces, struct_body, struct_pieces, subject_pieces, case_lines, default_lines, cases_lines, casetype_pieces, slot_piece, slot_line, output_pieces, definition_pieces}
use Rattle.td_print_layout.specs.Fields.{field_line}
use Rattle.td_print_layout.specs.Unspanned.{unspanned_name, unspanned_expression, unspanned_field, unspanned_case, unspanned_slot_kind, unspanned_slot, unspanned_definition}
use Rattle.td_print_layout.proofs.Back.{Back, good, blank, line, deep, ended, both, made, left, right, none, some}
use Rattle.td_print_layout.proofs.Words.{terminal_back, name_back, number_back, constant_back}
use Rattle.td_print_layout.proofs.Expressions.{expression_back}
use Rattle.td_print_layout.proofs.Sequences.{IsFilled, some_back}
use Rattle.td_print_layout.proofs.Fields.{head_back, line_back}
use Rattle.td_print_layout.proofs.Items.{define_back, enum_back, alias_back}

-- ---- parts

pub closing_back : (n : Name) → Back closing.Spells (closing_pieces n) (λ r. unspanned_name r ≡ unspanned_name n)
closing_back n = made (both (terminal_back kinds.CloseBrace refl) (both (blank (name_back n)) (ended (terminal_back kinds.Semicolon refl)))) (λ x g. g.1.0)

-- no field alone has a condition
each_line : (fs : List FieldTree) → Each (λ f. Unit {0}) fs
each_line [] = tt
each_line (f ∷ fs) = (tt, each_line fs)

fields_back : (n : _) (fs : List FieldTree) → IsFilled fs → Back (some_of field).Spells (flat_map (field_line n) fs) (λ r. map unspanned_field r ≡ map unspanned_field fs)
fields_back n fs f = some_back field (field_line n) unspanned_field (λ f. Unit {0}) (line_back n) fs f (each_line fs)

-- ---- structs

-- a definition that is made of whether `entrypoint` stands before it
abbrev pub SameDefinition : (Bool → Def) → (Bool → Def) → Type 0
SameDefinition made_of read = (entry : Bool) → unspanned_definition (read entry) ≡ unspanned_definition (made_of entry)

abbrev pub struct_of : StructTree → Bool → Def
struct_of d entry = defs.Struct (record { entry = entry; tag = d.tag; head = d.head; fields = d.fields; name = d.name })

struct_rest_back : (d : StructTree) → IsFilled d.fields → Back struct_rest.Spells (struct_body d) (SameDefinition (struct_of d))
unfolding struct_rest
struct_rest_back d f =
    made (both (name_back d.tag) (both (head_back d.head) (both (blank (terminal_back kinds.OpenBrace refl)) (both (line (fields_back 1 d.fields f)) (closing_back d.name)))))
    (λ x g entry. cc (g.0, g.1.0, g.1.1.1.0, g.1.1.1.1))

plain_struct : (d : StructTree) → IsFilled d.fields → Back typedef.Spells (Word kinds.Typedef ∷ Blank ∷ Word kinds.Struct ∷ Blank ∷ struct_body d) (λ r. unspanned_definition r ≡ unspanned_definition (struct_of d false))
unfolding typedef
plain_struct d f =
    made (both (terminal_back kinds.Typedef refl) (right (made {H = λ r. unspanned_definition r ≡ unspanned_definition (struct_of d false)}
    (both (blank (terminal_back kinds.Struct refl)) (blank (struct_rest_back d f))) (λ x g. g.1 false))))
    (λ x g. g.1)

entry_struct : (d : StructTree) → IsFilled d.fields → Back entrypoint.Spells (Word kinds.Entrypoint ∷ Blank ∷ Word kinds.Typedef ∷ Blank ∷ Word kinds.Struct ∷ Blank ∷ struct_body d) (λ r. unspanned_definition r ≡ unspanned_definition (struct_of d true))
unfolding entrypoint
entry_struct d f =
    made (both (terminal_back kinds.Entrypoint refl) (left (made {H = SameDefinition (struct_of d)}
    (both (blank (terminal_back kinds.Typedef refl)) (both (blank (terminal_back kinds.Struct refl)) (blank (struct_rest_back d f)))) (λ x g. g.1.1))))
    (λ x g. g.1 true)

struct_back : (entry : Bool) (tag : Name) (head : HeadTree) (fields : List FieldTree) (name : Name) → IsFilled fields
    → Back def.Spells (struct_pieces (record { entry = entry; tag = tag; head = head; fields = fields; name = name })) (λ r. unspanned_definition r ≡ unspanned_definition (defs.Struct (record { entry = entry; tag = tag; head = head; fields = fields; name = name })))
unfolding def
struct_back true tag head fields name f = right (right (right (right (left (entry_struct (record { entry = true; tag = tag; head = head; fields = fields; name = name }) f)))))
struct_back false tag head fields name f = right (right (left (plain_struct (record { entry = false; tag = tag; head = head; fields = fields; name = name }) f)))

-- ---- casetypes

subject_back : (e : Tree) → Back subject.Spells (subject_pieces e) (λ r. unspanned_expression r ≡ unspanned_expression e)
subject_back e =
    made (deep 1 (both (terminal_back kinds.Switch refl) (both (blank (terminal_back kinds.OpenParen refl)) (both (expression_back e)
    (both (terminal_back kinds.CloseParen refl) (ended (blank (terminal_back kinds.OpenBrace refl))))))))
    (λ x g. g.1.1.0)

case_back : (c : CaseTree) → IsFilled c.fields → Back case_tree.Spells (case_lines c) (λ r. unspanned_case r ≡ unspanned_case c)
unfolding case_tree
case_back c f =
    made (deep 2 (both (terminal_back kinds.Case refl) (both (blank (constant_back c.constant)) (both (terminal_back kinds.Colon refl) (line (fields_back 3 c.fields f))))))
    (λ x g. cc (g.1.0, g.1.1.1))

default_case_back : (fs : List FieldTree) → IsFilled fs → Back default_case.Spells (default_lines fs) (λ r. map unspanned_field r ≡ map unspanned_field fs)
default_case_back fs f = made (deep 2 (both (terminal_back kinds.Default refl) (both (terminal_back kinds.Colon refl) (line (fields_back 3 fs f))))) (λ x g. g.1.1)

-- where there is one, it has a field
abbrev pub IsFilledDefault : Option (List FieldTree) → Type 0
IsFilledDefault None = Unit {0}
IsFilledDefault (Some fs) = IsFilled fs

default_back : (o : Option (List FieldTree)) → IsFilledDefault o → Back (maybe default_case).Spells (optional default_lines o) (λ r. option_map (map unspanned_field) r ≡ option_map (map unspanned_field) o)
default_back None f = good none (λ r e. ap (λ (o : Option (List FieldTree)). option_map (map unspanned_field) o) e)
default_back (Some fs) f = some (default_case_back fs f) (λ r e. ap (λ (l : List FieldTree). Some l) e)

-- a casetype that can be spelled
pub record IsFilledCasetype (d : CasetypeTree) : Type 0 where
  pub cases : IsFilled d.cases
  pub each : Each (λ c. IsFilled c.fields) d.cases
  pub default : IsFilledDefault d.default

abbrev pub casetype_of : CasetypeTree → Bool → Def
casetype_of d entry = defs.Casetype (record { entry = entry; tag = d.tag; head = d.head; subject = d.subject; cases = d.cases; default = d.default; name = d.name })

abbrev pub SameCases : CasetypeTree → Tree × List CaseTree × Option (List FieldTree) → Type 0
SameCases d x = (unspanned_expression x.0 ≡ unspanned_expression d.subject) × (map unspanned_case x.1 ≡ map unspanned_case d.cases) × (option_map (map unspanned_field) x.2 ≡ option_map (map unspanned_field) d.default)

cases_back : (d : CasetypeTree) → IsFilledCasetype d → Back cases.Spells (cases_lines d) (SameCases d)
unfolding cases
cases_back d f =
    made (both (subject_back d.subject) (both (some_back case_tree case_lines unspanned_case (λ c. IsFilled c.fields) case_back d.cases f.cases f.each)
    (both (default_back d.default f.default) (deep 1 (ended (terminal_back kinds.CloseBrace refl))))))
    (λ x g. (g.0, g.1.0, g.1.1.0))

casetype_body_back : (d : CasetypeTree) → IsFilledCasetype d
    → Back casetype.Spells (Word kinds.Casetype ∷ Blank ∷ name_piece d.tag ∷ (head_pieces d.head ++ Blank ∷ Word kinds.OpenBrace ∷ LineEnd ∷ (cases_lines d ++ closing_pieces d.name))) (SameDefinition (casetype_of d))
unfolding casetype
casetype_body_back d f =
    made (both (terminal_back kinds.Casetype refl) (both (blank (name_back d.tag)) (both (head_back d.head) (both (blank (terminal_back kinds.OpenBrace refl))
    (both (line (cases_back d f)) (closing_back d.name))))))
    (λ x g entry. cc (g.1.0, g.1.1.0, g.1.1.1.1.0.0, g.1.1.1.1.0.1, g.1.1.1.1.0.2, g.1.1.1.1.1))

casetype_by : (d : CasetypeTree) → IsFilledCasetype d → (entry : Bool) → Back def.Spells (casetype_pieces (record { entry = entry; tag = d.tag; head = d.head; subject = d.subject; cases = d.cases; default = d.default; name = d.name })) (λ r. unspanned_definition r ≡ unspanned_definition (casetype_of d entry))
unfolding def entrypoint
casetype_by d f true =
    right (right (right (right (left (made (both (terminal_back kinds.Entrypoint refl) (right (blank (casetype_body_back d f)))) (λ x g. g.1 true))))))
casetype_by d f false = right (right (right (left (made (casetype_body_back d f) (λ x g. g false)))))

-- ---- output records

slot_kind_back : (k : SlotKind) → Back ((number_type making slots.Number) or (terminal kinds.Pointer making slots.Pointer)).Spells (slot_piece k ∷ []) (λ r. unspanned_slot_kind r ≡ unspanned_slot_kind k)
slot_kind_back (slots.Number n) = left (made (number_back n) (λ r e. ap (λ (x : NumberTree). slots.Number x) e))
slot_kind_back (slots.Pointer s) = right (made (terminal_back kinds.Pointer refl) (λ r e. refl))

slot_back : (s : SlotTree) → Unit {0} → Back slot.Spells (slot_line s) (λ r. unspanned_slot r ≡ unspanned_slot s)
unfolding slot
slot_back s is = deep 1 (made (both (slot_kind_back s.kind) (both (blank (name_back s.name)) (ended (terminal_back kinds.Semicolon refl)))) (λ x g. cc (g.0, g.1.0)))

each_slot : (xs : List SlotTree) → Each (λ s. Unit {0}) xs
each_slot [] = tt
each_slot (x ∷ xs) = (tt, each_slot xs)

pub output_back : (d : OutputTree) → IsFilled d.slots → Back output.Spells (output_pieces d) (λ r. unspanned_definition r ≡ unspanned_definition (defs.Output d))
unfolding output
output_back d f =
    made (both (terminal_back kinds.Output refl) (both (blank (terminal_back kinds.Typedef refl)) (both (blank (terminal_back kinds.Struct refl)) (both (blank (name_back d.tag))
    (both (blank (terminal_back kinds.OpenBrace refl)) (both (line (some_back slot slot_line unspanned_slot (λ s. Unit {0}) slot_back d.slots f (each_slot d.slots))) (closing_back d.name)))))))
    (λ x g. cc (g.1.1.1.0, g.1.1.1.1.1.0, g.1.1.1.1.1.1))

-- ---- all

-- a definition that can be spelled: what is repeated in it stands there once at least
abbrev pub IsFilledDefinition : Def → Type 0
IsFilledDefinition (defs.Define d) = Unit {0}
IsFilledDefinition (defs.Enum d) = IsFilled d.items
IsFilledDefinition (defs.Alias d) = Unit {0}
IsFilledDefinition (defs.Struct d) = IsFilled d.fields
IsFilledDefinition (defs.Casetype d) = IsFilledCasetype d
IsFilledDefinition (defs.Output d) = IsFilled d.slots

pub definition_back : (d : Def) → IsFilledDefinition d → Back def.Spells (definition_pieces d) (λ r. unspanned_definition r ≡ unspanned_definition d)
unfolding def typedef
definition_back (defs.Define d) f = left (define_back d)
definition_back (defs.Enum d) f = right (left (enum_back d f))
definition_back (defs.Alias d) f = right (right (left (made (both (terminal_back kinds.Typedef refl) (left (alias_back d))) (λ x g. g.1))))
definition_back (defs.Struct d) f = struct_back d.entry d.tag d.head d.fields d.name f
definition_back (defs.Casetype d) f = casetype_by d f d.entry
definition_back (defs.Output d) f = right (right (right (right (right (output_back d f)))))
