-- The canonical text of a module can be spelled where the tokens that spell it can.
use Rattle.std.proofs.Common.{Bool, true, false, List, [], ◌∷◌, ◌++◌, Option, Some, None, codes, refl, subst, inl, inr}
use Rattle.std.specs.Prelude.{flat_map}
use Rattle.td_ast.specs.declared.token.Token.{Token}
use Rattle.td_ast.specs.declared.token.TokenKind.TheVariants as kinds
use Rattle.td_ast.specs.declared.names.Name.{Name}
use Rattle.td_ast.specs.declared.names.NumberTree.{NumberTree}
use Rattle.td_ast.specs.declared.fields.FieldTree.{FieldTree}
use Rattle.td_ast.specs.declared.definitions.ItemTree.{ItemTree}
use Rattle.td_ast.specs.declared.definitions.CaseTree.{CaseTree}
use Rattle.td_ast.specs.declared.definitions.SlotKind.TheVariants as slots
use Rattle.td_ast.specs.declared.definitions.Def.{Def}
use Rattle.td_ast.specs.declared.parts.InputTree.{InputTree}
use Rattle.td_ast.specs.declared.parts.InputTree.TheVariants.{Parts}
use Rattle.td_ast.specs.Trees.{Tree}
use Rattle.td_grammar.specs.Sets.{only}
use Rattle.td_grammar.specs.Spelling.{SpellsAll}
use Rattle.td_grammar.specs.Grammar.{Grammar, ◌then◌, ◌making◌, ◌or◌}
use Rattle.td_grammar.specs.Grammar as grammar
use Rattle.td_grammar.specs.Sequences.{some_of}
use Rattle.td_grammar.specs.Parts.{module_word, part, alone, or_empty, input_text}
use Rattle.td_grammar.specs.Tokens.{terminal, number_type}
use Rattle.td_grammar.specs.Listed.{SpellsList}
use Rattle.td_grammar.specs.Definitions.{closing, case_tree, item, slot, subject, default_case, cases, define, enumeration, alias_rest, struct_rest, casetype, plainly, typedef, entrypoint, output, def}
use Rattle.td_print_layout.specs.Pieces.{Piece, Word, Blank, LineEnd}
use Rattle.td_print_layout.specs.Sequences.{name_piece, number_piece, indented, optional, parted_by}
use Rattle.td_print_layout.specs.Parameters.{head_pieces}
use Rattle.td_print_layout.specs.Fields.{field_line}
use Rattle.td_print_layout.specs.Definitions.{value_pieces, item_pieces, item_lines, entry_pieces, closing_pieces, subject_pieces, case_lines, default_lines, slot_piece, slot_line, definition_pieces, definition_lines, part_lines, layout}
use Rattle.td_print_layout.specs.Laws.{KeepsSpellings}
use Rattle.td_print_layout.proofs.Tokens.{kinds_in}
use Rattle.td_print_layout.proofs.Sound.{AreSpellable, Fine, Sound, fine_append, parts, blank, line, deep, ended, both, made, either, maybe, all, terminal_sound, name_sound, literal_sound, number_sound, constant_sound, plain_sound}
use Rattle.td_print_layout.proofs.SoundExpressions.{expression_sound}
use Rattle.td_print_layout.proofs.SoundFields.{some_sound, head_sound, fields_sound}

-- ---- enums

item_sound : Sound item.Spells item_pieces
unfolding item
item_sound = made (both name_sound (maybe {p = value_pieces} (made (both (blank (terminal_sound kinds.Assign tt)) (blank constant_sound)) (λ x h. h)))) (λ x h. h)

fine_items : (xs : List ItemTree) (tokens : List Token) → SpellsList (only kinds.Comma) item.Spells xs tokens → AreSpellable (kinds_in tokens) → Fine (item_lines xs)
fine_items [] tokens s f = tt
fine_items (x ∷ []) tokens (u, v, e, s, o) f = let h = parts tokens u v e f in fine_append (item_pieces x) (LineEnd ∷ []) (item_sound.sound x u s h.0) tt
fine_items (x ∷ y ∷ ys) tokens (u, t, v, e, s, m, r) f =
    let h = parts tokens u (t ∷ v) e f in
    fine_append (item_pieces x) (Word kinds.Comma ∷ LineEnd ∷ item_lines (y ∷ ys)) (item_sound.sound x u s h.0) (tt, fine_items (y ∷ ys) v r h.1.1)

items_sound : Sound (SpellsList (only kinds.Comma) item.Spells) item_lines
items_sound = record { sound = fine_items }

-- an optional `;` that isn't laid out
fine_enum : (d : Def) (tokens : List Token) → enumeration.Spells d tokens → AreSpellable (kinds_in tokens) → Fine (definition_pieces d)
unfolding enumeration
fine_enum d tokens (x, e, (u, v, d1, (y, g, q), (w, z, d2, r, t))) f =
    let h = parts tokens u v d1 f in
    let i = parts v w z d2 h.1 in
    let name = (both number_sound (both (terminal_sound kinds.Enum tt) (both name_sound (terminal_sound kinds.OpenBrace tt)))).sound y u q h.0 in
    subst (λ (d : Def). Fine (definition_pieces d)) e
    (subst (λ (p : NumberTree × Name). Fine (number_piece p.0 ∷ Word kinds.Enum ∷ name_piece p.1 ∷ Word kinds.OpenBrace ∷ (item_lines x.1.0 ++ Word kinds.CloseBrace ∷ LineEnd ∷ []))) g
    (name.0, (tt, (name.1.1.0, (tt, fine_append (item_lines x.1.0) (Word kinds.CloseBrace ∷ LineEnd ∷ []) (fine_items x.1.0 w r i.0) (tt, tt))))))

-- ---- parts

slot_kind_sound : Sound ((number_type making slots.Number) or (terminal kinds.Pointer making slots.Pointer)).Spells (λ k. slot_piece k ∷ [])
slot_kind_sound = either (made number_sound (λ x h. h)) (made (terminal_sound kinds.Pointer tt) (λ x h. h))

closing_sound : Sound closing.Spells closing_pieces
closing_sound = made (both (terminal_sound kinds.CloseBrace tt) (both (blank name_sound) (ended (terminal_sound kinds.Semicolon tt)))) (λ x h. h)

with_entry : (entry : Bool) (u : List Piece) → Fine u → Fine (entry_pieces entry ++ u)
with_entry true u f = (tt, f)
with_entry false u f = f

-- what is made of whether `entrypoint` stands before it
abbrev FineEither : (Bool → Def) → Type 0
FineEither m = (entry : Bool) → Fine (definition_pieces (m entry))

-- ---- structs and casetypes

fine_struct : (m : Bool → Def) (tokens : List Token) → struct_rest.Spells m tokens → AreSpellable (kinds_in tokens) → FineEither m
unfolding struct_rest
fine_struct m tokens (x, e, s) f =
    let body = (both name_sound (both head_sound (both (blank (terminal_sound kinds.OpenBrace tt)) (both (line (fields_sound 1)) closing_sound)))).sound x tokens s f in
    subst FineEither e (λ entry.
    with_entry entry
    (Word kinds.Typedef ∷ Blank ∷ Word kinds.Struct ∷ Blank ∷ name_piece x.0 ∷ (head_pieces x.1.0 ++ Blank ∷ Word kinds.OpenBrace ∷ LineEnd ∷ (flat_map (field_line 1) x.1.1.1.0 ++ closing_pieces x.1.1.1.1)))
    (tt, (tt, body)))

subject_sound : Sound subject.Spells subject_pieces
subject_sound =
    made (deep 1 (both (terminal_sound kinds.Switch tt) (both (blank (terminal_sound kinds.OpenParen tt)) (both expression_sound (both (terminal_sound kinds.CloseParen tt) (ended (blank (terminal_sound kinds.OpenBrace tt)))))))) (λ x h. h)

case_sound : Sound case_tree.Spells case_lines
unfolding case_tree
case_sound = made (deep 2 (both (terminal_sound kinds.Case tt) (both (blank constant_sound) (both (terminal_sound kinds.Colon tt) (line (fields_sound 3)))))) (λ x h. h)

default_sound : Sound default_case.Spells default_lines
default_sound = made (deep 2 (both (terminal_sound kinds.Default tt) (both (terminal_sound kinds.Colon tt) (line (fields_sound 3))))) (λ x h. h)

abbrev lines_of_cases : Tree × List CaseTree × Option (List FieldTree) → List Piece
lines_of_cases x = subject_pieces x.0 ++ (flat_map case_lines x.1 ++ (optional default_lines x.2 ++ indented 1 (Word kinds.CloseBrace ∷ LineEnd ∷ [])))

cases_sound : Sound cases.Spells lines_of_cases
unfolding cases
cases_sound = made (both subject_sound (both (some_sound case_tree case_lines case_sound) (both (maybe default_sound) (deep 1 (ended (terminal_sound kinds.CloseBrace tt)))))) (λ x h. h)

fine_casetype : (m : Bool → Def) (tokens : List Token) → casetype.Spells m tokens → AreSpellable (kinds_in tokens) → FineEither m
unfolding casetype
fine_casetype m tokens (x, e, s) f =
    let body =
    (both (terminal_sound kinds.Casetype tt) (both (blank name_sound) (both head_sound (both (blank (terminal_sound kinds.OpenBrace tt)) (both (line cases_sound) closing_sound))))).sound x tokens s f in
    subst FineEither e (λ entry.
    with_entry entry
    (Word kinds.Casetype ∷ Blank ∷ name_piece x.1.0 ∷ (head_pieces x.1.1.0 ++ Blank ∷ Word kinds.OpenBrace ∷ LineEnd ∷ (lines_of_cases x.1.1.1.1.0 ++ closing_pieces x.1.1.1.1.1)))
    body)

-- ---- definitions

define_sound : Sound define.Spells definition_pieces
unfolding define
define_sound = made (both (terminal_sound kinds.Define tt) (both (blank name_sound) (blank (ended literal_sound)))) (λ x h. h)

alias_sound : Sound alias_rest.Spells definition_pieces
unfolding alias_rest
alias_sound = made (both plain_sound (both (blank name_sound) (ended (terminal_sound kinds.Semicolon tt)))) (λ x h. (tt, h))

output_sound : Sound output.Spells definition_pieces
unfolding output slot
output_sound =
    made (both (terminal_sound kinds.Output tt) (both (blank (terminal_sound kinds.Typedef tt)) (both (blank (terminal_sound kinds.Struct tt)) (both (blank name_sound) (both (blank (terminal_sound kinds.OpenBrace tt))
    (both (line (some_sound slot slot_line (deep 1 (made (both slot_kind_sound (both (blank name_sound) (ended (terminal_sound kinds.Semicolon tt)))) (λ x h. h))))) closing_sound)))))) (λ x h. h)

abbrev struct_production : Grammar Def
struct_production = (terminal kinds.Struct then struct_rest) making λ (at, made_of). made_of false

struct_production_sound : Sound struct_production.Spells definition_pieces
struct_production_sound = record {
  sound = λ d tokens (x, e, (u, v, p, q, r)) f. subst (λ (d : Def). Fine (definition_pieces d)) e (fine_struct x.1 v r (parts tokens u v p f).1 false);
}

typedef_sound : Sound typedef.Spells definition_pieces
unfolding typedef
typedef_sound = record {
  sound = λ d tokens (x, e, (u, v, p, q, r)) f. subst (λ (d : Def). Fine (definition_pieces d)) e ((either alias_sound struct_production_sound).sound x.1 v r (parts tokens u v p f).1);
}

abbrev entry_struct : Grammar (Bool → Def)
entry_struct = (terminal kinds.Typedef then terminal kinds.Struct then struct_rest) making λ (at, (struct, made_of)). made_of

fine_entry : (m : Bool → Def) (tokens : List Token) → (entry_struct or casetype).Spells m tokens → AreSpellable (kinds_in tokens) → FineEither m
fine_entry m tokens (inl (x, e, (u, v, p, q, (w, z, g, r, s)))) f = subst FineEither e (fine_struct x.1.1 z s (parts v w z g (parts tokens u v p f).1).1)
fine_entry m tokens (inr s) f = fine_casetype m tokens s f

entrypoint_sound : Sound entrypoint.Spells definition_pieces
unfolding entrypoint
entrypoint_sound = record {
  sound = λ d tokens (x, e, (u, v, p, q, r)) f. subst (λ (d : Def). Fine (definition_pieces d)) e (fine_entry x.1 v r (parts tokens u v p f).1 true);
}

casetype_sound : Sound (casetype making plainly).Spells definition_pieces
casetype_sound = record { sound = λ d tokens (m, e, s) f. subst (λ (d : Def). Fine (definition_pieces d)) e (fine_casetype m tokens s f false) }

definition_sound : Sound def.Spells definition_pieces
unfolding def
definition_sound = either define_sound (either (record { sound = fine_enum }) (either typedef_sound (either casetype_sound (either entrypoint_sound output_sound))))

-- ---- inputs

fine_definitions : (ds : List Def) (tokens : List Token) → SpellsAll def.Spells ds tokens → AreSpellable (kinds_in tokens) → Fine (definition_lines ds)
fine_definitions [] tokens s f = tt
fine_definitions (d ∷ ds) tokens (u, v, e, s, r) f =
    let h = parts tokens u v e f in
    fine_append (definition_pieces d) (flat_map (λ x. (LineEnd ∷ []) ++ definition_pieces x) ds) (definition_sound.sound d u s h.0)
    ((all {p = λ x. (LineEnd ∷ []) ++ definition_pieces x} (line definition_sound)).sound ds v r h.1)

definitions_sound : Sound (SpellsAll def.Spells) definition_lines
definitions_sound = record { sound = fine_definitions }

module_sound : Sound module_word.Spells (λ s. Word (kinds.Name (codes "module")) ∷ [])
module_sound = record { sound = λ s tokens m f. ((refl, refl, refl), tt) }

part_sound : Sound part.Spells part_lines
unfolding part
part_sound = made (both module_sound (both (blank name_sound) (line (line definitions_sound)))) (λ x h. h)

parted_sound : {A : Type 0} (g : Grammar A) (p : A → List Piece) → Sound g.Spells p → Sound (some_of g).Spells (parted_by (LineEnd ∷ []) p)
parted_sound g p s = made (both s (all {p = λ x. (LineEnd ∷ []) ++ p x} (line s))) (λ x h. h)

input_sound : Sound input_text.Spells layout
unfolding input_text
input_sound =
    made {p = λ o. layout (or_empty o)} (record { sound = by_form }) (λ o h. h)
  where
    by_form : (o : Option InputTree) (tokens : List Token) → (grammar.maybe ((some_of def making alone) or (some_of part making Parts))).Spells o tokens → AreSpellable (kinds_in tokens) → Fine (layout (or_empty o))
    by_form None tokens s f = tt
    by_form (Some i) tokens (inl (ds, e, s)) f = subst (λ (i : InputTree). Fine (layout i)) e ((parted_sound def definition_pieces definition_sound).sound ds tokens s f)
    by_form (Some i) tokens (inr (ps, e, s)) f = subst (λ (i : InputTree). Fine (layout i)) e ((parted_sound part part_lines part_sound).sound ps tokens s f)

pub input_keeps_spellings : KeepsSpellings
input_keeps_spellings input source s f = input_sound.sound input source s f
