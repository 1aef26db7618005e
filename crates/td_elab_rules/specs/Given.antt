-- The rules of fields without bytes (own rule): what gives them their value is an expression, a cell, or how many bytes are
-- left. An expression may have a wider type: that its value fits is for the safety rule to say.
use Rattle.std.specs.Prelude.{ℕ, Bool, false, cond, nat_lt, List, [], ◌++◌, Option, Some, None, codes}
use Rattle.std.specs.Str.{bytes_eq}
use Rattle.td_num.specs.Numbers.{bytes_in}
use Rattle.td_ast.specs.Trees.{Tree, span_of}
use Rattle.td_ast.specs.Trees as tree
use Rattle.td_elab_rules.specs.Imports.{NumberType, Span, Element, Extent, Once, Given, Source}
use Rattle.td_core.specs.declared.module.Element.TheVariants as element
use Rattle.td_core.specs.declared.module.Source.TheVariants.{Expression, Cell, Left}
use Rattle.td_elab_rules.specs.declared.actions.Target.{Target}
use Rattle.td_elab_rules.specs.declared.actions.Target.TheVariants as target
use Rattle.td_elab_rules.specs.declared.breach.Rule.TheVariants.{Narrowing}
use Rattle.td_elab_rules.specs.declared.breach.Breach.{Breach}
use Rattle.td_elab_rules.specs.declared.known.Known.{Known}
use Rattle.td_elab_rules.specs.declared.known.Scope.{Scope}
use Rattle.td_elab_rules.specs.Breach.{when}
use Rattle.td_elab_rules.specs.Sorts.{core_of}
use Rattle.td_elab_rules.specs.ExprRules.{number_breaches}
use Rattle.td_elab_rules.specs.Actions.{target_breaches, read_breaches}

-- `bytes_left`, where it is all of an expression, whatever else has that name
abbrev pub is_left : Tree → Bool
is_left (tree.Name at n) = bytes_eq n.text (codes "bytes_left")
is_left (tree.Number at n base) = false
is_left (tree.Truth at b) = false
is_left (tree.FieldPos at own) = false
is_left (tree.Sizeof at own z place) = false
is_left (tree.RangeOkay at z o a) = false
is_left (tree.Unary at op own a) = false
is_left (tree.Binary at op own a b) = false
is_left (tree.Choice at own c a b) = false

-- whether a number has fewer bytes than so many
abbrev pub is_shorter : Option NumberType → ℕ → Bool
is_shorter None n = false
is_shorter (Some t) n = nat_lt (bytes_in t.width) n

-- Y2: how many bytes are left is a number of 32 bits, and the field has fewer
abbrev pub tree_breaches : Known → Scope → Option NumberType → Tree → List Breach
tree_breaches k s t e = cond (is_left e) (when (is_shorter t 4) Narrowing (span_of e)) (number_breaches k s e)

-- Y2, at the `*`: a cell with more bits than the field
abbrev pub wider_breaches : Option NumberType → Target → Span → List Breach
wider_breaches t target.Unknown star = []
wider_breaches t target.NoCell star = []
wider_breaches t (target.Number c u) star = when (is_shorter t (bytes_in u.width)) Narrowing star
wider_breaches t (target.Pointer c) star = []

-- N1, N4, Y1: as where a `var` reads a cell
abbrev pub held_breaches : Option NumberType → Target → Span → Span → List Breach
held_breaches t c star at = target_breaches c at ++ (read_breaches c star ++ wider_breaches t c star)

-- The core. Where a rule is broken, nothing gives a value, and what the type says stands there once.

abbrev pub element_number : Element → Option NumberType
element_number (element.Number t) = Some t
element_number (element.Listed t v) = None
element_number (element.Named j es cells) = None
element_number element.Unit = None
element_number element.Rest = None
element_number element.Zeros = None

abbrev pub tree_source : Known → Scope → Option NumberType → Tree → Option Source
tree_source k s None e = None
tree_source k s (Some t) e =
    cond (is_left e) (cond (is_shorter (Some t) 4) None (Some Left)) (Some (Expression (span_of e) (core_of k s e)))

abbrev pub held_source : Option NumberType → Target → Option Source
held_source None c = None
held_source (Some t) target.Unknown = None
held_source (Some t) target.NoCell = None
held_source (Some t) (target.Number c u) = cond (is_shorter (Some t) (bytes_in u.width)) None (Some (Cell c))
held_source (Some t) (target.Pointer c) = None

abbrev pub given_extent : Option Source → Extent
given_extent None = Once
given_extent (Some source) = Given source
