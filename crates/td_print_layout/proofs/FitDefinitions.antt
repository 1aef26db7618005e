-- Definitions that were spelled within the limits fit.
use Rattle.std.proofs.Common.{Bool, true, false, List, Option, subst, inl, inr}
use Rattle.td_num.specs.Lists.{Each}
use Rattle.td_ast.specs.declared.token.Token.{Token}
use Rattle.td_ast.specs.declared.token.TokenKind.TheVariants as kinds
use Rattle.td_ast.specs.declared.fields.FieldTree.{FieldTree}
use Rattle.td_ast.specs.declared.definitions.CaseTree.{CaseTree}
use Rattle.td_ast.specs.declared.definitions.Def.{Def}
use Rattle.td_ast.specs.Trees.{Tree}
use Rattle.td_grammar.specs.Sets.{only}
use Rattle.td_grammar.specs.Spelling.{SpellsAll}
use Rattle.td_grammar.specs.Limits.{PassesAll}
use Rattle.td_grammar.specs.Grammar.{Grammar, ◌then◌, ◌making◌, ◌or◌}
use Rattle.td_grammar.specs.Tokens.{terminal}
use Rattle.td_grammar.specs.Sequences.{some_of}
use Rattle.td_grammar.specs.Fields.{field}
use Rattle.td_grammar.specs.Definitions.{case_tree, item, slot, subject, default_case, cases, define, enumeration, alias_rest, struct_rest, casetype, typedef, entrypoint, output, def}
use Rattle.td_print_layout.proofs.Sequences.{IsFilled}
use Rattle.td_print_layout.proofs.Filled.{some_filled, list_filled}
use Rattle.td_print_layout.proofs.Kept.{IfAny}
use Rattle.td_print_layout.proofs.Light.{IsLight}
use Rattle.td_print_layout.proofs.Sources.{NoPass, light}
use Rattle.td_print_layout.proofs.KeptFields.{FitsField}
use Rattle.td_print_layout.proofs.KeptDefinitions.{FitFields, FitsCase, FitsDefinition}
use Rattle.td_print_layout.proofs.Within.{head_of, tail_of, one_side, other_side, each_within, any_within, some_within}
use Rattle.td_print_layout.proofs.FitFields.{head_fits, field_fits}

fields_fit : (fs : List FieldTree) (tokens : List Token) → (some_of field).Spells fs tokens → NoPass (some_of field).Passes tokens → FitFields fs
fields_fit fs tokens s w = (some_filled field fs tokens s, some_within field FitsField field_fits fs tokens s w)

case_fits : (c : CaseTree) (tokens : List Token) → case_tree.Spells c tokens → NoPass case_tree.Passes tokens → FitsCase c
unfolding case_tree
case_fits c tokens (x, e, s) w =
    let after1 = tail_of x.0 tokens s.0 s.1 s.2 s.3 w in
    let after2 = tail_of x.1.0 s.1 s.4.0 s.4.1 s.4.2 s.4.3 after1 in
    let after3 = tail_of x.1.1.0 s.4.1 s.4.4.0 s.4.4.1 s.4.4.2 s.4.4.3 after2 in
    subst FitsCase e (fields_fit x.1.1.1 s.4.4.1 s.4.4.4 after3)

default_fits : (fs : List FieldTree) (tokens : List Token) → default_case.Spells fs tokens → NoPass default_case.Passes tokens → FitFields fs
default_fits fs tokens (x, e, s) w =
    let after1 = tail_of x.0 tokens s.0 s.1 s.2 s.3 w in
    let after2 = tail_of x.1.0 s.1 s.4.0 s.4.1 s.4.2 s.4.3 after1 in
    subst FitFields e (fields_fit x.1.1 s.4.1 s.4.4 after2)

subject_fits : (a : Tree) (tokens : List Token) → subject.Spells a tokens → NoPass subject.Passes tokens → IsLight a
subject_fits a tokens (x, e, s) w =
    let after1 = tail_of x.0 tokens s.0 s.1 s.2 s.3 w in
    let after2 = tail_of x.1.0 s.1 s.4.0 s.4.1 s.4.2 s.4.3 after1 in
    subst IsLight e (light x.1.1.0 s.4.4.0 s.4.4.3 (head_of s.4.1 s.4.4.0 s.4.4.1 s.4.4.2 after2))

-- the cases of a casetype
abbrev FitCases : Tree × List CaseTree × Option (List FieldTree) → Type 0
FitCases x = IsLight x.0 × (IsFilled x.1 × Each FitsCase x.1) × IfAny FitFields x.2

some_cases_fit : (cs : List CaseTree) (tokens : List Token) → (some_of case_tree).Spells cs tokens → NoPass (some_of case_tree).Passes tokens → IsFilled cs × Each FitsCase cs
some_cases_fit cs tokens s w = (some_filled case_tree cs tokens s, some_within case_tree FitsCase case_fits cs tokens s w)

cases_fit : (a : Tree × List CaseTree × Option (List FieldTree)) (tokens : List Token) → cases.Spells a tokens → NoPass cases.Passes tokens → FitCases a
unfolding cases
cases_fit a tokens (x, e, s) w =
    let after1 = tail_of x.0 tokens s.0 s.1 s.2 s.3 w in
    let after2 = tail_of x.1.0 s.1 s.4.0 s.4.1 s.4.2 s.4.3 after1 in
    subst FitCases e (subject_fits x.0 s.0 s.3 (head_of tokens s.0 s.1 s.2 w), some_cases_fit x.1.0 s.4.0 s.4.3 (head_of s.1 s.4.0 s.4.1 s.4.2 after1), any_within default_case FitFields default_fits x.1.1.0 s.4.4.0 s.4.4.3 (head_of s.4.1 s.4.4.0 s.4.4.1 s.4.4.2 after2))

-- a definition that is made of whether `entrypoint` stands before it
abbrev FitsEither : (Bool → Def) → Type 0
FitsEither made_of = (entry : Bool) → FitsDefinition (made_of entry)

struct_fits : (m : Bool → Def) (tokens : List Token) → struct_rest.Spells m tokens → NoPass struct_rest.Passes tokens → FitsEither m
unfolding struct_rest
struct_fits m tokens (x, e, s) w =
    let h = head_fits x.1.0 s.4.0 s.4.3 (head_of s.1 s.4.0 s.4.1 s.4.2 (tail_of x.0 tokens s.0 s.1 s.2 s.3 w)) in
    let after1 = tail_of x.0 tokens s.0 s.1 s.2 s.3 w in
    let after2 = tail_of x.1.0 s.1 s.4.0 s.4.1 s.4.2 s.4.3 after1 in
    let after3 = tail_of x.1.1.0 s.4.1 s.4.4.0 s.4.4.1 s.4.4.2 s.4.4.3 after2 in
    let f = fields_fit x.1.1.1.0 s.4.4.4.0 s.4.4.4.3 (head_of s.4.4.1 s.4.4.4.0 s.4.4.4.1 s.4.4.4.2 after3) in
    subst FitsEither e (λ entry. record { head = h; fields = f })

casetype_fits : (m : Bool → Def) (tokens : List Token) → casetype.Spells m tokens → NoPass casetype.Passes tokens → FitsEither m
unfolding casetype
casetype_fits m tokens (x, e, s) w =
    let after1 = tail_of x.0 tokens s.0 s.1 s.2 s.3 w in
    let after2 = tail_of x.1.0 s.1 s.4.0 s.4.1 s.4.2 s.4.3 after1 in
    let h = head_fits x.1.1.0 s.4.4.0 s.4.4.3 (head_of s.4.1 s.4.4.0 s.4.4.1 s.4.4.2 after2) in
    let after3 = tail_of x.1.1.0 s.4.1 s.4.4.0 s.4.4.1 s.4.4.2 s.4.4.3 after2 in
    let after4 = tail_of x.1.1.1.0 s.4.4.1 s.4.4.4.0 s.4.4.4.1 s.4.4.4.2 s.4.4.4.3 after3 in
    let c = cases_fit x.1.1.1.1.0 s.4.4.4.4.0 s.4.4.4.4.3 (head_of s.4.4.4.1 s.4.4.4.4.0 s.4.4.4.4.1 s.4.4.4.4.2 after4) in
    subst FitsEither e (λ entry. record { head = h; subject = c.0; filled = c.1.0; cases = c.1.1; default = c.2 })

define_fits : (d : Def) (tokens : List Token) → define.Spells d tokens → FitsDefinition d
unfolding define
define_fits d tokens (x, e, s) = subst FitsDefinition e tt

enum_fits : (d : Def) (tokens : List Token) → enumeration.Spells d tokens → FitsDefinition d
unfolding enumeration
enum_fits d tokens (x, e, s) = subst FitsDefinition e (list_filled (only kinds.Comma) item.Spells x.1.0 s.4.0 s.4.3)

alias_fits : (d : Def) (tokens : List Token) → alias_rest.Spells d tokens → FitsDefinition d
unfolding alias_rest
alias_fits d tokens (x, e, s) = subst FitsDefinition e tt

output_fits : (d : Def) (tokens : List Token) → output.Spells d tokens → FitsDefinition d
unfolding output
output_fits d tokens (x, e, s) = subst FitsDefinition e (some_filled slot x.1.1.1.1.1.0 s.4.4.4.4.4.0 s.4.4.4.4.4.3)

abbrev struct_production : Grammar Def
struct_production = (terminal kinds.Struct then struct_rest) making λ (at, made_of). made_of false

typedef_rest_fits : (d : Def) (tokens : List Token) → (alias_rest or struct_production).Spells d tokens → NoPass (alias_rest or struct_production).Passes tokens → FitsDefinition d
typedef_rest_fits d tokens (inl s) w = alias_fits d tokens s
typedef_rest_fits d tokens (inr (x, e, s)) w =
    let v = other_side _ _ tokens w in
    subst FitsDefinition e (struct_fits x.1 s.1 s.4 (tail_of x.0 tokens s.0 s.1 s.2 s.3 v) false)

typedef_fits : (d : Def) (tokens : List Token) → typedef.Spells d tokens → NoPass typedef.Passes tokens → FitsDefinition d
unfolding typedef
typedef_fits d tokens (x, e, s) w = subst FitsDefinition e (typedef_rest_fits x.1 s.1 s.4 (tail_of x.0 tokens s.0 s.1 s.2 s.3 w))

abbrev entry_struct : Grammar (Bool → Def)
entry_struct = (terminal kinds.Typedef then terminal kinds.Struct then struct_rest) making λ (at, (struct, made_of)). made_of

entry_rest_fits : (m : Bool → Def) (tokens : List Token) → (entry_struct or casetype).Spells m tokens → NoPass (entry_struct or casetype).Passes tokens → FitsEither m
entry_rest_fits m tokens (inl (x, e, s)) w =
    let v = one_side _ _ tokens w in
    let after1 = tail_of x.0 tokens s.0 s.1 s.2 s.3 v in
    let after2 = tail_of x.1.0 s.1 s.4.0 s.4.1 s.4.2 s.4.3 after1 in
    subst FitsEither e (struct_fits x.1.1 s.4.1 s.4.4 after2)
entry_rest_fits m tokens (inr s) w = casetype_fits m tokens s (other_side _ _ tokens w)

entrypoint_fits : (d : Def) (tokens : List Token) → entrypoint.Spells d tokens → NoPass entrypoint.Passes tokens → FitsDefinition d
unfolding entrypoint
entrypoint_fits d tokens (x, e, s) w = subst FitsDefinition e (entry_rest_fits x.1 s.1 s.4 (tail_of x.0 tokens s.0 s.1 s.2 s.3 w) true)

pub definition_fits : (d : Def) (tokens : List Token) → def.Spells d tokens → NoPass def.Passes tokens → FitsDefinition d
unfolding def
definition_fits d tokens (inl s) w = define_fits d tokens s
definition_fits d tokens (inr (inl s)) w = enum_fits d tokens s
definition_fits d tokens (inr (inr (inl s))) w = typedef_fits d tokens s (one_side _ _ tokens (other_side _ _ tokens (other_side _ _ tokens w)))
definition_fits d tokens (inr (inr (inr (inl (m, e, s))))) w = subst FitsDefinition e (casetype_fits m tokens s (one_side _ _ tokens (other_side _ _ tokens (other_side _ _ tokens (other_side _ _ tokens w)))) false)
definition_fits d tokens (inr (inr (inr (inr (inl s))))) w = entrypoint_fits d tokens s (one_side _ _ tokens (other_side _ _ tokens (other_side _ _ tokens (other_side _ _ tokens (other_side _ _ tokens w)))))
definition_fits d tokens (inr (inr (inr (inr (inr s))))) w = output_fits d tokens s

pub definitions_fit : (ds : List Def) (tokens : List Token) → SpellsAll def.Spells ds tokens → NoPass (PassesAll def.Spells def.Passes) tokens → Each FitsDefinition ds
definitions_fit ds tokens s w = each_within def.Spells def.Passes FitsDefinition definition_fits ds tokens s w
