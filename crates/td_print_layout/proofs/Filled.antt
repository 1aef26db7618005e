-- What is spelled is filled: what is repeated in a definition stands there once at least.
use Rattle.std.proofs.Common.{Bool, true, false, List, [], ◌∷◌, Option, Some, None, subst, inl, inr}
use Rattle.td_num.specs.Lists.{Each}
use Rattle.td_ast.specs.declared.token.Token.{Token}
use Rattle.td_ast.specs.declared.fields.FieldTree.{FieldTree}
use Rattle.td_ast.specs.declared.definitions.CaseTree.{CaseTree}
use Rattle.td_ast.specs.declared.definitions.Def.{Def}
use Rattle.td_ast.specs.Trees.{Tree}
use Rattle.td_ast.specs.declared.token.TokenKind.TheVariants as kinds
use Rattle.td_grammar.specs.Sets.{only}
use Rattle.td_grammar.specs.Spelling.{SpellsAll}
use Rattle.td_grammar.specs.Grammar.{Grammar, ◌then◌, ◌making◌, ◌or◌, maybe}
use Rattle.td_grammar.specs.Tokens.{terminal}
use Rattle.td_grammar.specs.Sequences.{some_of}
use Rattle.td_grammar.specs.Listed.{SpellsList}
use Rattle.td_grammar.specs.Fields.{field}
use Rattle.td_grammar.specs.Definitions.{case_tree, item, slot, default_case, cases, define, enumeration, alias_rest, struct_rest, casetype, typedef, entrypoint, output, def}
use Rattle.td_print_layout.proofs.Sequences.{IsFilled}
use Rattle.td_print_layout.proofs.Definitions.{IsFilledDefault, IsFilledDefinition}

pub some_filled : {A : Type 0} (g : Grammar A) (xs : List A) (tokens : List Token) → (some_of g).Spells xs tokens → IsFilled xs
some_filled g xs tokens (x, e, s) = subst IsFilled e tt

pub list_filled : {A : Type 0} (parts : List _) (P : A → List Token → Type 0) (xs : List A) (tokens : List Token) → SpellsList parts P xs tokens → IsFilled xs
list_filled parts P [] tokens s = s
list_filled parts P (x ∷ xs) tokens s = tt

all_filled : {A : Type 0} (P : A → List Token → Type 0) (F : A → Type 0) → ((x : A) (tokens : List Token) → P x tokens → F x) → (xs : List A) (tokens : List Token) → SpellsAll P xs tokens → Each F xs
all_filled P F f [] tokens s = tt
all_filled P F f (x ∷ xs) tokens s = (f x s.0 s.3, all_filled P F f xs s.1 s.4)

pub each_some : {A : Type 0} (g : Grammar A) (F : A → Type 0) → ((x : A) (tokens : List Token) → g.Spells x tokens → F x) → (xs : List A) (tokens : List Token) → (some_of g).Spells xs tokens → Each F xs
each_some g F f xs tokens (x, e, s) = subst (Each F) e (f x.0 s.0 s.3, all_filled g.Spells F f x.1 s.1 s.4)

case_filled : (c : CaseTree) (tokens : List Token) → case_tree.Spells c tokens → IsFilled c.fields
unfolding case_tree
case_filled c tokens (x, e, s) = subst (λ (d : CaseTree). IsFilled d.fields) e (some_filled field x.1.1.1 s.4.4.1 s.4.4.4)

default_filled : (o : Option (List FieldTree)) (tokens : List Token) → (maybe default_case).Spells o tokens → IsFilledDefault o
default_filled None tokens s = tt
default_filled (Some fs) tokens (x, e, s) = subst (λ (l : List FieldTree). IsFilled l) e (some_filled field x.1.1 s.4.1 s.4.4)

-- the cases of a casetype
abbrev AreFilled : Tree × List CaseTree × Option (List FieldTree) → Type 0
AreFilled x = IsFilled x.1 × Each (λ (c : CaseTree). IsFilled c.fields) x.1 × IsFilledDefault x.2

cases_filled : (x : Tree × List CaseTree × Option (List FieldTree)) (tokens : List Token) → cases.Spells x tokens → AreFilled x
unfolding cases
cases_filled x tokens (y, e, s) =
    subst AreFilled e (some_filled case_tree y.1.0 s.4.0 s.4.3, each_some case_tree (λ (c : CaseTree). IsFilled c.fields) case_filled y.1.0 s.4.0 s.4.3, default_filled y.1.1.0 s.4.4.0 s.4.4.3)

-- a definition that is made of whether `entrypoint` stands before it
abbrev IsFilledEither : (Bool → Def) → Type 0
IsFilledEither made_of = (entry : Bool) → IsFilledDefinition (made_of entry)

struct_filled : (m : Bool → Def) (tokens : List Token) → struct_rest.Spells m tokens → IsFilledEither m
unfolding struct_rest
struct_filled m tokens (x, e, s) = subst IsFilledEither e (λ entry. some_filled field x.1.1.1.0 s.4.4.4.0 s.4.4.4.3)

casetype_filled : (m : Bool → Def) (tokens : List Token) → casetype.Spells m tokens → IsFilledEither m
unfolding casetype
casetype_filled m tokens (x, e, s) =
    let f = cases_filled x.1.1.1.1.0 s.4.4.4.4.0 s.4.4.4.4.3 in
    subst IsFilledEither e (λ entry. record { cases = f.0; each = f.1; default = f.2 })

enum_filled : (d : Def) (tokens : List Token) → enumeration.Spells d tokens → IsFilledDefinition d
unfolding enumeration
enum_filled d tokens (x, e, s) = subst IsFilledDefinition e (list_filled (only kinds.Comma) item.Spells x.1.0 s.4.0 s.4.3)

define_filled : (d : Def) (tokens : List Token) → define.Spells d tokens → IsFilledDefinition d
unfolding define
define_filled d tokens (x, e, s) = subst IsFilledDefinition e tt

alias_filled : (d : Def) (tokens : List Token) → alias_rest.Spells d tokens → IsFilledDefinition d
unfolding alias_rest
alias_filled d tokens (x, e, s) = subst IsFilledDefinition e tt

typedef_filled : (d : Def) (tokens : List Token) → typedef.Spells d tokens → IsFilledDefinition d
unfolding typedef
typedef_filled d tokens (x, e, s) = subst IsFilledDefinition e (by_kind x.1 s.1 s.4)
  where
    by_kind : (d : Def) (tokens : List Token) → (alias_rest or ((terminal kinds.Struct then struct_rest) making λ (at, made_of). made_of false)).Spells d tokens → IsFilledDefinition d
    by_kind d tokens (inl a) = alias_filled d tokens a
    by_kind d tokens (inr (y, f, t)) = subst IsFilledDefinition f (struct_filled y.1 t.1 t.4 false)

entrypoint_filled : (d : Def) (tokens : List Token) → entrypoint.Spells d tokens → IsFilledDefinition d
unfolding entrypoint
entrypoint_filled d tokens (x, e, s) = subst IsFilledDefinition e (by_kind x.1 s.1 s.4 true)
  where
    by_kind : (m : Bool → Def) (tokens : List Token) → (((terminal kinds.Typedef then terminal kinds.Struct then struct_rest) making λ (at, (struct, made_of)). made_of) or casetype).Spells m tokens → IsFilledEither m
    by_kind m tokens (inl (y, f, t)) = subst IsFilledEither f (struct_filled y.1.1 t.4.1 t.4.4)
    by_kind m tokens (inr c) = casetype_filled m tokens c

output_filled : (d : Def) (tokens : List Token) → output.Spells d tokens → IsFilledDefinition d
unfolding output
output_filled d tokens (x, e, s) = subst IsFilledDefinition e (some_filled slot x.1.1.1.1.1.0 s.4.4.4.4.4.0 s.4.4.4.4.4.3)

pub definition_filled : (d : Def) (tokens : List Token) → def.Spells d tokens → IsFilledDefinition d
unfolding def
definition_filled d tokens (inl s) = define_filled d tokens s
definition_filled d tokens (inr (inl s)) = enum_filled d tokens s
definition_filled d tokens (inr (inr (inl s))) = typedef_filled d tokens s
definition_filled d tokens (inr (inr (inr (inl (m, e, s))))) = subst IsFilledDefinition e (casetype_filled m tokens s false)
definition_filled d tokens (inr (inr (inr (inr (inl s))))) = entrypoint_filled d tokens s
definition_filled d tokens (inr (inr (inr (inr (inr s))))) = output_filled d tokens s

pub definitions_filled : (ds : List Def) (tokens : List Token) → SpellsAll def.Spells ds tokens → Each IsFilledDefinition ds
definitions_filled ds tokens s = all_filled def.Spells IsFilledDefinition definition_filled ds tokens s
