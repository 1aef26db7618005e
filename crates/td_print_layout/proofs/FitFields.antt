-- Fields that were spelled within the limits fit.
use Rattle.std.proofs.Common.{List, Option, Some, None, subst, inl, inr}
use Rattle.td_num.specs.Lists.{Each}
use Rattle.td_ast.specs.declared.token.Token.{Token}
use Rattle.td_ast.specs.declared.token.TokenKind.TheVariants as kinds
use Rattle.td_ast.specs.declared.parameters.HeadTree.{HeadTree}
use Rattle.td_ast.specs.declared.fields.TypeTree.{TypeTree}
use Rattle.td_ast.specs.declared.fields.ExtentTree.{ExtentTree}
use Rattle.td_ast.specs.declared.fields.FieldTree.{FieldTree}
use Rattle.td_ast.specs.Trees.{Tree}
use Rattle.td_grammar.specs.Grammar.{Grammar, ◌then◌, ◌making◌, maybe}
use Rattle.td_grammar.specs.Tokens.{terminal}
use Rattle.td_grammar.specs.Expressions.{expr}
use Rattle.td_grammar.specs.Actions.{action}
use Rattle.td_grammar.specs.Sequences.{in_parentheses, list_of, parted}
use Rattle.td_grammar.specs.Parameters.{head}
use Rattle.td_grammar.specs.Fields.{type_tree, source, extent, refinement, field}
use Rattle.td_print_layout.proofs.Kept.{IfAny}
use Rattle.td_print_layout.proofs.Light.{IsLight}
use Rattle.td_print_layout.proofs.Sources.{NoPass, light}
use Rattle.td_print_layout.proofs.KeptActions.{FitsAction}
use Rattle.td_print_layout.proofs.KeptFields.{FitsType, FitsExtent, FitsField, condition}
use Rattle.td_print_layout.proofs.Within.{head_of, tail_of, one_side, other_side, each_within, any_within}
use Rattle.td_print_layout.proofs.FitActions.{action_fits}

-- ---- arguments

abbrev next : Grammar Tree
next = (terminal kinds.Comma then expr) making λ (comma, next). next

abbrev enclosed : Grammar (List Tree)
enclosed = (terminal kinds.OpenParen then parted expr then terminal kinds.CloseParen) making λ (opening, (xs, closing)). xs

next_fits : (e : Tree) (tokens : List Token) → next.Spells e tokens → NoPass next.Passes tokens → IsLight e
next_fits a tokens (x, e, s) w = subst IsLight e (light x.1 s.1 s.4 (tail_of x.0 tokens s.0 s.1 s.2 s.3 w))

parted_fits : (xs : List Tree) (tokens : List Token) → (parted expr).Spells xs tokens → NoPass (parted expr).Passes tokens → Each IsLight xs
parted_fits xs tokens (x, e, s) w = subst (Each IsLight) e (light x.0 s.0 s.3 (head_of tokens s.0 s.1 s.2 w), each_within next.Spells next.Passes IsLight next_fits x.1 s.1 s.4 (tail_of x.0 tokens s.0 s.1 s.2 s.3 w))

enclosed_fits : (o : Option (List Tree)) (tokens : List Token) → (maybe enclosed).Spells o tokens → NoPass enclosed.Passes tokens → Each IsLight (list_of o)
enclosed_fits None tokens s w = tt
enclosed_fits (Some xs) tokens (x, e, s) w = subst (Each IsLight) e (parted_fits x.1.0 s.4.0 s.4.3 (head_of s.1 s.4.0 s.4.1 s.4.2 (tail_of x.0 tokens s.0 s.1 s.2 s.3 w)))

arguments_fit : (xs : List Tree) (tokens : List Token) → (in_parentheses expr).Spells xs tokens → NoPass (in_parentheses expr).Passes tokens → Each IsLight xs
arguments_fit xs tokens (o, e, s) w = subst (Each IsLight) e (enclosed_fits o tokens s w)

-- ---- heads

condition_fits : (a : Tree) (tokens : List Token) → condition.Spells a tokens → NoPass condition.Passes tokens → IsLight a
condition_fits a tokens (x, e, s) w = subst IsLight e (light x.1 s.1 s.4 (tail_of x.0 tokens s.0 s.1 s.2 s.3 w))

pub head_fits : (h : HeadTree) (tokens : List Token) → head.Spells h tokens → NoPass head.Passes tokens → IfAny IsLight h.condition
unfolding head
head_fits h tokens (x, e, s) w = subst (λ (h : HeadTree). IfAny IsLight h.condition) e (any_within condition IsLight condition_fits x.1 s.1 s.4 (tail_of x.0 tokens s.0 s.1 s.2 s.3 w))

-- ---- types and extents

type_fits : (t : TypeTree) (tokens : List Token) → type_tree.Spells t tokens → NoPass type_tree.Passes tokens → FitsType t.kind
unfolding type_tree
type_fits t tokens (inl (x, e, s)) w = subst (λ (t : TypeTree). FitsType t.kind) e tt
type_fits t tokens (inr (inl (x, e, s))) w = subst (λ (t : TypeTree). FitsType t.kind) e tt
type_fits t tokens (inr (inr (inl (x, e, s)))) w = subst (λ (t : TypeTree). FitsType t.kind) e tt
type_fits t tokens (inr (inr (inr (inl (x, e, s))))) w = subst (λ (t : TypeTree). FitsType t.kind) e tt
type_fits t tokens (inr (inr (inr (inr (x, e, s))))) w =
    let v = other_side _ _ tokens (other_side _ _ tokens (other_side _ _ tokens (other_side _ _ tokens w))) in
    subst (λ (t : TypeTree). FitsType t.kind) e (arguments_fit x.1 s.1 s.4 (tail_of x.0 tokens s.0 s.1 s.2 s.3 v))

source_fits : (x : ExtentTree) (tokens : List Token) → source.Spells x tokens → NoPass source.Passes tokens → FitsExtent x
unfolding source
source_fits a tokens (inl (x, e, s)) w = subst FitsExtent e tt
source_fits a tokens (inr (x, e, s)) w = subst FitsExtent e (light x tokens s (other_side _ _ tokens w))

extent_fits : (x : ExtentTree) (tokens : List Token) → extent.Spells x tokens → NoPass extent.Passes tokens → FitsExtent x
unfolding extent
extent_fits a tokens (inl (x, e, s)) w =
    let v = one_side _ _ tokens w in
    subst FitsExtent e (light x.1.0 s.4.0 s.4.3 (head_of s.1 s.4.0 s.4.1 s.4.2 (tail_of x.0 tokens s.0 s.1 s.2 s.3 v)))
extent_fits a tokens (inr (inl (x, e, s))) w =
    let v = one_side _ _ tokens (other_side _ _ tokens w) in
    subst FitsExtent e (light x.1.0 s.4.0 s.4.3 (head_of s.1 s.4.0 s.4.1 s.4.2 (tail_of x.0 tokens s.0 s.1 s.2 s.3 v)))
extent_fits a tokens (inr (inr (inl (x, e, s)))) w =
    let v = one_side _ _ tokens (other_side _ _ tokens (other_side _ _ tokens w)) in
    subst FitsExtent e (light x.1.0 s.4.0 s.4.3 (head_of s.1 s.4.0 s.4.1 s.4.2 (tail_of x.0 tokens s.0 s.1 s.2 s.3 v)))
extent_fits a tokens (inr (inr (inr (inl (x, e, s))))) w =
    let v = one_side _ _ tokens (other_side _ _ tokens (other_side _ _ tokens (other_side _ _ tokens w))) in
    subst FitsExtent e (light x.1.0 s.4.0 s.4.3 (head_of s.1 s.4.0 s.4.1 s.4.2 (tail_of x.0 tokens s.0 s.1 s.2 s.3 v)))
extent_fits a tokens (inr (inr (inr (inr (inl (x, e, s)))))) w = subst FitsExtent e tt
extent_fits a tokens (inr (inr (inr (inr (inr (x, e, s)))))) w =
    let v = other_side _ _ tokens (other_side _ _ tokens (other_side _ _ tokens (other_side _ _ tokens (other_side _ _ tokens w)))) in
    subst FitsExtent e (source_fits x.1 s.1 s.4 (tail_of x.0 tokens s.0 s.1 s.2 s.3 v))

refinement_fits : (a : Tree) (tokens : List Token) → refinement.Spells a tokens → NoPass refinement.Passes tokens → IsLight a
unfolding refinement
refinement_fits a tokens (x, e, s) w = subst IsLight e (light x.1.0 s.4.0 s.4.3 (head_of s.1 s.4.0 s.4.1 s.4.2 (tail_of x.0 tokens s.0 s.1 s.2 s.3 w)))

-- ---- fields

pub field_fits : (f : FieldTree) (tokens : List Token) → field.Spells f tokens → NoPass field.Passes tokens → FitsField f
unfolding field
field_fits f tokens (x, e, s) w =
    let after1 = tail_of x.0 tokens s.0 s.1 s.2 s.3 w in
    let after2 = tail_of x.1.0 s.1 s.4.0 s.4.1 s.4.2 s.4.3 after1 in
    let after3 = tail_of x.1.1.0 s.4.1 s.4.4.0 s.4.4.1 s.4.4.2 s.4.4.3 after2 in
    let after4 = tail_of x.1.1.1.0 s.4.4.1 s.4.4.4.0 s.4.4.4.1 s.4.4.4.2 s.4.4.4.3 after3 in
    subst FitsField e (record {
      type = type_fits x.0 s.0 s.3 (head_of tokens s.0 s.1 s.2 w);
      extent = any_within extent FitsExtent extent_fits x.1.1.0 s.4.4.0 s.4.4.3 (head_of s.4.1 s.4.4.0 s.4.4.1 s.4.4.2 after2);
      refinement = any_within refinement IsLight refinement_fits x.1.1.1.0 s.4.4.4.0 s.4.4.4.3 (head_of s.4.4.1 s.4.4.4.0 s.4.4.4.1 s.4.4.4.2 after3);
      action = any_within action FitsAction action_fits x.1.1.1.1.0 s.4.4.4.4.0 s.4.4.4.4.3 (head_of s.4.4.4.1 s.4.4.4.4.0 s.4.4.4.4.1 s.4.4.4.4.2 after4);
    })
