-- Definitions within the limits are kept.
use Rattle.std.proofs.Common.{◌≡◌, ℕ, Bool, true, false, List, [], ◌∷◌, ◌++◌, map, Option, Some, None, refl, ap}
use Rattle.std.specs.Prelude.{option_map, flat_map}
use Rattle.td_num.specs.Lists.{Each}
use Rattle.td_ast.specs.declared.token.TokenKind.TheVariants as kinds
use Rattle.td_ast.specs.declared.names.Name.{Name}
use Rattle.td_ast.specs.declared.parameters.HeadTree.{HeadTree}
use Rattle.td_ast.specs.declared.fields.FieldTree.{FieldTree}
use Rattle.td_ast.specs.declared.definitions.StructTree.{StructTree}
use Rattle.td_ast.specs.declared.definitions.CaseTree.{CaseTree}
use Rattle.td_ast.specs.declared.definitions.CasetypeTree.{CasetypeTree}
use Rattle.td_ast.specs.declared.definitions.Def.{Def}
use Rattle.td_ast.specs.declared.definitions.Def.TheVariants as defs
use Rattle.td_ast.specs.Trees.{Tree}
use Rattle.td_grammar.specs.Grammar.{Grammar, ◌then◌, ◌making◌, ◌or◌, maybe, all_of}
use Rattle.td_grammar.specs.Tokens.{terminal, name}
use Rattle.td_grammar.specs.Expressions.{expr}
use Rattle.td_grammar.specs.Sequences.{some_of}
use Rattle.td_grammar.specs.Parameters.{head, param}
use Rattle.td_grammar.specs.Fields.{field, type_tree}
use Rattle.td_grammar.specs.Definitions.{closing, case_tree, item, slot, subject, default_case, cases, define, enumeration, alias_rest, struct_rest, casetype, typedef, entrypoint, output, def}
use Rattle.td_grammar.proofs.Sets.{disjoint}
use Rattle.td_grammar.proofs.Exact.{IsExact, IsApart}
use Rattle.td_grammar.proofs.Making.{making_exact}
use Rattle.td_grammar.proofs.Words.{terminal_exact, name_exact, sequel}
use Rattle.td_grammar.proofs.Defs.{define_exact, enumeration_exact, alias_rest_exact, output_exact}
use Rattle.td_print_layout.specs.Pieces.{Piece, Word, Blank, LineEnd}
use Rattle.td_print_layout.specs.Sequences.{name_piece, optional}
use Rattle.td_print_layout.specs.Parameters.{head_pieces}
use Rattle.td_print_layout.specs.Fields.{field_line}
use Rattle.td_print_layout.specs.Definitions.{closing_pieces, struct_body, struct_pieces, subject_pieces, case_lines, default_lines, cases_lines, casetype_pieces, definition_pieces}
use Rattle.td_print_layout.specs.Unspanned.{unspanned_name, unspanned_expression, unspanned_field, unspanned_case, unspanned_definition}
use Rattle.td_print_layout.proofs.Sequences.{IsFilled}
use Rattle.td_print_layout.proofs.Items.{define_back, enum_back, alias_back}
use Rattle.td_print_layout.proofs.Definitions.{SameDefinition, SameCases, struct_of, casetype_of, closing_back, output_back}
use Rattle.td_print_layout.proofs.Kept.{Kept, blank, line, deep, ended, both, made, none, some, first, into, each_kept, IfAny}
use Rattle.td_print_layout.proofs.Plainly.{Never, plainly, never_one, never_both, never_all, never_either, never_qualified, terminal_kept, name_kept, constant_kept}
use Rattle.td_print_layout.proofs.Light.{IsLight, expression_kept}
use Rattle.td_print_layout.proofs.KeptFields.{FitsField, head_kept, line_kept}

-- ---- several

module _ {A : Type 0} (g : Grammar A) (pieces : A → List Piece) (un : A → A) (F : A → Type 0) (kept : (x : A) → F x → Kept g (pieces x) (λ y. un y ≡ un x))
    (solid : g.reader.may_be_empty ≡ false) (apart : disjoint g.reader.begins g.reader.goes_on ≡ true) (then_apart : IsApart g (all_of g)) where
  -- g { g }
  pub some_kept : (xs : List A) → IsFilled xs → Each F xs → Kept (some_of g) (flat_map pieces xs) (λ ys. map un ys ≡ map un xs)
  some_kept [] filled f = absurd filled
  some_kept (x ∷ xs) filled f = made (λ (first, others). first ∷ others) (both (kept x f.0) (each_kept g solid apart pieces un F kept xs f.1) then_apart) (λ z h. cc (h.0, h.1))

-- ---- parts

closing_exact : IsExact closing
closing_exact = making_exact _ _ (sequel (terminal_exact kinds.CloseBrace refl) (sequel name_exact (terminal_exact kinds.Semicolon refl) refl) refl)

closing_kept : (n : Name) → Kept closing (closing_pieces n) (λ r. unspanned_name r ≡ unspanned_name n)
closing_kept n = plainly closing_exact (never_both _ never_one (never_both _ never_one never_one)) (closing_back n)

-- fields within the limits, of which there is one
abbrev pub FitFields : List FieldTree → Type 0
FitFields fs = IsFilled fs × Each FitsField fs

fields_kept : (n : ℕ) (fs : List FieldTree) → FitFields fs → Kept (some_of field) (flat_map (field_line n) fs) (λ r. map unspanned_field r ≡ map unspanned_field fs)
unfolding field type_tree
fields_kept n fs f = some_kept field (field_line n) unspanned_field FitsField (line_kept n) refl refl refl fs f.0 f.1

-- ---- structs

pub record FitsStruct (d : StructTree) : Type 0 where
  pub head : IfAny IsLight d.head.condition
  pub fields : FitFields d.fields

struct_rest_kept : (d : StructTree) → FitsStruct d → Kept struct_rest (struct_body d) (SameDefinition (struct_of d))
unfolding struct_rest head param expr field type_tree
struct_rest_kept d f =
    made _ (both (name_kept d.tag) (both (head_kept d.head f.head) (both (blank (terminal_kept kinds.OpenBrace refl)) (both (line (fields_kept 1 d.fields f.fields)) (closing_kept d.name) refl) refl) refl) refl)
    (λ x g entry. cc (g.0, g.1.0, g.1.1.1.0, g.1.1.1.1))

abbrev struct_production : Grammar Def
struct_production = (terminal kinds.Struct then struct_rest) making λ (at, made_of). made_of false

struct_production_kept : (d : StructTree) → FitsStruct d → Kept struct_production (Blank ∷ Word kinds.Struct ∷ Blank ∷ struct_body d) (λ r. unspanned_definition r ≡ unspanned_definition (struct_of d false))
unfolding struct_rest
struct_production_kept d f = made (λ (at, made_of). made_of false) (both (blank (terminal_kept kinds.Struct refl)) (blank (struct_rest_kept d f)) refl) (λ x g. g.1 false)

abbrev typedef_rest : Grammar Def
typedef_rest = alias_rest or struct_production

plain_struct_kept : (d : StructTree) → FitsStruct d → Kept typedef (Word kinds.Typedef ∷ Blank ∷ Word kinds.Struct ∷ Blank ∷ struct_body d) (λ r. unspanned_definition r ≡ unspanned_definition (struct_of d false))
unfolding typedef alias_rest struct_rest head param field type_tree expr
plain_struct_kept d f =
    made _ (both (terminal_kept kinds.Typedef refl) (into typedef_rest kinds.Struct (struct_production_kept d f) refl (λ t ts e. rw e refl) refl refl) refl)
    (λ x g. g.1)

abbrev entry_struct : Grammar (Bool → Def)
entry_struct = (terminal kinds.Typedef then terminal kinds.Struct then struct_rest) making λ (at, (struct, made_of)). made_of

entry_struct_kept : (d : StructTree) → FitsStruct d → Kept entry_struct (Blank ∷ Word kinds.Typedef ∷ Blank ∷ Word kinds.Struct ∷ Blank ∷ struct_body d) (SameDefinition (struct_of d))
unfolding struct_rest
entry_struct_kept d f =
    made (λ (at, (struct, made_of)). made_of) (both (blank (terminal_kept kinds.Typedef refl)) (both (blank (terminal_kept kinds.Struct refl)) (blank (struct_rest_kept d f)) refl) refl) (λ x g. g.1.1)

entrypoint_struct_kept : (d : StructTree) → FitsStruct d → Kept entrypoint (Word kinds.Entrypoint ∷ Blank ∷ Word kinds.Typedef ∷ Blank ∷ Word kinds.Struct ∷ Blank ∷ struct_body d) (λ r. unspanned_definition r ≡ unspanned_definition (struct_of d true))
unfolding entrypoint casetype struct_rest
entrypoint_struct_kept d f =
    made _ (both (terminal_kept kinds.Entrypoint refl) (first casetype (entry_struct_kept d f) refl) refl)
    (λ x g. g.1 true)

struct_kept : (entry : Bool) (tag : Name) (head : HeadTree) (fields : List FieldTree) (name : Name) → FitsStruct (record { entry = entry; tag = tag; head = head; fields = fields; name = name })
    → Kept def (struct_pieces (record { entry = entry; tag = tag; head = head; fields = fields; name = name })) (λ r. unspanned_definition r ≡ unspanned_definition (defs.Struct (record { entry = entry; tag = tag; head = head; fields = fields; name = name })))
unfolding def define enumeration item typedef casetype cases case_tree entrypoint output slot alias_rest struct_rest head param field type_tree expr
struct_kept true tag head fields name f = into def kinds.Entrypoint (entrypoint_struct_kept (record { entry = true; tag = tag; head = head; fields = fields; name = name }) f) refl (λ t ts e. rw e refl) refl refl
struct_kept false tag head fields name f = into def kinds.Typedef (plain_struct_kept (record { entry = false; tag = tag; head = head; fields = fields; name = name }) f) refl (λ t ts e. rw e refl) refl refl

-- ---- casetypes

subject_kept : (e : Tree) → IsLight e → Kept subject (subject_pieces e) (λ r. unspanned_expression r ≡ unspanned_expression e)
unfolding expr
subject_kept e f =
    made _ (deep 1 (both (terminal_kept kinds.Switch refl) (both (blank (terminal_kept kinds.OpenParen refl)) (both (expression_kept e f)
    (both (terminal_kept kinds.CloseParen refl) (ended (blank (terminal_kept kinds.OpenBrace refl))) refl) refl) refl) refl))
    (λ x g. g.1.1.0)

abbrev pub FitsCase : CaseTree → Type 0
FitsCase c = FitFields c.fields

case_kept : (c : CaseTree) → FitsCase c → Kept case_tree (case_lines c) (λ r. unspanned_case r ≡ unspanned_case c)
unfolding case_tree field type_tree
case_kept c f =
    made _ (deep 2 (both (terminal_kept kinds.Case refl) (both (blank (constant_kept c.constant)) (both (terminal_kept kinds.Colon refl) (line (fields_kept 3 c.fields f)) refl) refl) refl))
    (λ x g. cc (g.1.0, g.1.1.1))

default_case_kept : (fs : List FieldTree) → FitFields fs → Kept default_case (default_lines fs) (λ r. map unspanned_field r ≡ map unspanned_field fs)
unfolding field type_tree
default_case_kept fs f = made _ (deep 2 (both (terminal_kept kinds.Default refl) (both (terminal_kept kinds.Colon refl) (line (fields_kept 3 fs f)) refl) refl)) (λ x g. g.1.1)

default_kept : (o : Option (List FieldTree)) → IfAny FitFields o → Kept (maybe default_case) (optional default_lines o) (λ r. option_map (map unspanned_field) r ≡ option_map (map unspanned_field) o)
default_kept None f = record { read = λ tokens e. let r = (none default_case).read tokens e in (r.0, r.1, r.2, ap (λ (o : Option (List FieldTree)). option_map (map unspanned_field) o) r.3) }
default_kept (Some fs) f = some refl (default_case_kept fs f) (λ r e. ap (λ (l : List FieldTree). Some l) e)

pub record FitsCasetype (d : CasetypeTree) : Type 0 where
  pub head : IfAny IsLight d.head.condition
  pub subject : IsLight d.subject
  pub filled : IsFilled d.cases
  pub cases : Each FitsCase d.cases
  pub default : IfAny FitFields d.default

cases_kept : (d : CasetypeTree) → FitsCasetype d → Kept cases (cases_lines d) (SameCases d)
unfolding cases case_tree field type_tree expr
cases_kept d f =
    made _ (both (subject_kept d.subject f.subject) (both (some_kept case_tree case_lines unspanned_case FitsCase case_kept refl refl refl d.cases f.filled f.cases)
    (both (default_kept d.default f.default) (deep 1 (ended (terminal_kept kinds.CloseBrace refl))) refl) refl) refl)
    (λ x g. (g.0, g.1.0, g.1.1.0))

casetype_body_kept : (d : CasetypeTree) → FitsCasetype d
    → Kept casetype (Word kinds.Casetype ∷ Blank ∷ name_piece d.tag ∷ (head_pieces d.head ++ Blank ∷ Word kinds.OpenBrace ∷ LineEnd ∷ (cases_lines d ++ closing_pieces d.name))) (SameDefinition (casetype_of d))
unfolding casetype cases case_tree field type_tree head param expr
casetype_body_kept d f =
    made _ (both (terminal_kept kinds.Casetype refl) (both (blank (name_kept d.tag)) (both (head_kept d.head f.head) (both (blank (terminal_kept kinds.OpenBrace refl))
    (both (line (cases_kept d f)) (closing_kept d.name) refl) refl) refl) refl) refl)
    (λ x g entry. cc (g.1.0, g.1.1.0, g.1.1.1.1.0.0, g.1.1.1.1.0.1, g.1.1.1.1.0.2, g.1.1.1.1.1))

casetype_kept : (d : CasetypeTree) → FitsCasetype d → (entry : Bool)
    → Kept def (casetype_pieces (record { entry = entry; tag = d.tag; head = d.head; subject = d.subject; cases = d.cases; default = d.default; name = d.name })) (λ r. unspanned_definition r ≡ unspanned_definition (casetype_of d entry))
unfolding def define enumeration item typedef casetype cases case_tree entrypoint output slot alias_rest struct_rest head param field type_tree expr
casetype_kept d f true =
    into {g = entrypoint} def kinds.Entrypoint (made _ (both (terminal_kept kinds.Entrypoint refl) (blank (into (entry_struct or casetype) kinds.Casetype (casetype_body_kept d f) refl (λ t ts e. rw e refl) refl refl)) refl) (λ x g. g.1 true))
    refl (λ t ts e. rw e refl) refl refl
casetype_kept d f false = into def kinds.Casetype (made (λ made_of. made_of false) (casetype_body_kept d f) (λ x g. g false)) refl (λ t ts e. rw e refl) refl refl

-- ---- all

abbrev pub FitsDefinition : Def → Type 0
FitsDefinition (defs.Define d) = Unit {0}
FitsDefinition (defs.Enum d) = IsFilled d.items
FitsDefinition (defs.Alias d) = Unit {0}
FitsDefinition (defs.Struct d) = FitsStruct d
FitsDefinition (defs.Casetype d) = FitsCasetype d
FitsDefinition (defs.Output d) = IsFilled d.slots

define_never : Never define.Passes
unfolding define
define_never = never_both _ never_one (never_both _ never_one never_one)

alias_never : Never alias_rest.Passes
unfolding alias_rest
alias_never = never_both _ (never_either never_one never_qualified) (never_both _ never_one never_one)

output_never : Never output.Passes
unfolding output slot
output_never =
    let slot_never : Never slot.Passes = never_both _ (never_either never_one never_one) (never_both _ never_one never_one) in
    never_both _ never_one (never_both _ never_one (never_both _ never_one (never_both _ never_one (never_both _ never_one
    (never_both _ (never_both _ slot_never (never_all _ slot_never)) (never_both _ never_one (never_both _ never_one never_one)))))))

item_never : Never item.Passes
unfolding item
item_never = never_both _ never_one (never_both _ never_one (never_either never_one never_qualified))

enumeration_never : Never enumeration.Passes
unfolding enumeration
enumeration_never =
    never_both _ (never_both _ never_one (never_both _ never_one (never_both _ never_one never_one)))
    (never_both _ (record { never = λ tokens s. item_never.never s.2 s.5 }) (never_both _ never_one never_one))

pub definition_kept : (d : Def) → FitsDefinition d → Kept def (definition_pieces d) (λ r. unspanned_definition r ≡ unspanned_definition d)
unfolding def define enumeration item typedef casetype cases case_tree entrypoint output slot alias_rest struct_rest head param field type_tree expr
definition_kept (defs.Define d) f = into def kinds.Define (plainly define_exact define_never (define_back d)) refl (λ t ts e. rw e refl) refl refl
definition_kept (defs.Enum d) f = into def (kinds.Int d.base.number) (plainly enumeration_exact enumeration_never (enum_back d f)) refl (λ t ts e. rw e refl) refl refl
definition_kept (defs.Alias d) f =
    into {g = typedef} def kinds.Typedef (made _ (both (terminal_kept kinds.Typedef refl) (first struct_production (plainly alias_rest_exact alias_never (alias_back d)) refl) refl) (λ x g. g.1)) refl (λ t ts e. rw e refl) refl refl
definition_kept (defs.Struct d) f = struct_kept d.entry d.tag d.head d.fields d.name f
definition_kept (defs.Casetype d) f = casetype_kept d f d.entry
definition_kept (defs.Output d) f = into def kinds.Output (plainly output_exact output_never (output_back d f)) refl (λ t ts e. rw e refl) refl refl
