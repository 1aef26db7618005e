-- The rules of other names for types (3D manual, "Type definitions"): of a number type, an enum, or a struct or casetype
-- without parameters.
use Rattle.std.specs.Prelude.{ℕ, ◌+◌, not, ◌&&◌, List, [], ◌∷◌, ◌++◌, Option, Some, None, is_none}
use Rattle.td_elab_rules.specs.Imports.{PlainTree, Span}
use Rattle.td_ast.specs.declared.names.PlainTree.TheVariants.{Number, Named}
use Rattle.td_ast.specs.declared.definitions.AliasTree.{AliasTree}
use Rattle.td_elab_rules.specs.declared.breach.Rule.TheVariants.{Unknown, Mismatch}
use Rattle.td_elab_rules.specs.declared.breach.Breach.{Breach}
use Rattle.td_elab_rules.specs.declared.known.Parameter.{Parameter}
use Rattle.td_elab_rules.specs.declared.known.Meaning.{Meaning}
use Rattle.td_elab_rules.specs.declared.known.Meaning.TheVariants as meaning
use Rattle.td_elab_rules.specs.declared.known.Found.{Found}
use Rattle.td_elab_rules.specs.declared.known.Found.TheVariants as found
use Rattle.td_elab_rules.specs.declared.known.Known.{Known}
use Rattle.td_elab_rules.specs.Breach.{when}
use Rattle.td_elab_rules.specs.Known.{no_scope, found_in, signature_at}
use Rattle.td_elab_rules.specs.ExprRules.{is_nothing}
use Rattle.td_elab_rules.specs.Constants.{global_breaches, with_global}

-- a type that takes nothing
abbrev pub plain_type : ℕ → List Parameter → Option Meaning
plain_type j [] = Some (meaning.Type j)
plain_type j (p ∷ ps) = None

-- what the other name stands for
abbrev pub alias_found : Known → Found → Option Meaning
alias_found k found.Nothing = None
alias_found k (found.Local l) = None
alias_found k (found.Global (meaning.Constant n)) = None
alias_found k (found.Global (meaning.Member n)) = None
alias_found k (found.Global (meaning.Number t)) = Some (meaning.Number t)
alias_found k (found.Global (meaning.Enum t v)) = Some (meaning.Enum t v)
alias_found k (found.Global (meaning.Type j)) = plain_type j (signature_at k j)
alias_found k (found.Global (meaning.Record r)) = None

abbrev pub alias_meaning : Known → PlainTree → Option Meaning
alias_meaning k (Number t) = Some (meaning.Number t.number)
alias_meaning k (Named n) = alias_found k (found_in k no_scope n.text)

-- N1, Y1: a name that isn't known, or is of another sort
abbrev pub target_name_breaches : Known → Found → Span → List Breach
target_name_breaches k f at = when (is_nothing f) Unknown at ++ when (not (is_nothing f) && is_none (alias_found k f)) Mismatch at

abbrev pub target_breaches : Known → PlainTree → List Breach
target_breaches k (Number t) = []
target_breaches k (Named n) = target_name_breaches k (found_in k no_scope n.text) n.span

-- where the rule is broken, it counts as a constant
abbrev pub meaning_or_none : Option Meaning → Meaning
meaning_or_none None = meaning.Constant 0
meaning_or_none (Some m) = m

abbrev pub alias_breaches : Known → AliasTree → List Breach
alias_breaches k d = target_breaches k d.target ++ global_breaches k d.name

abbrev pub after_alias : Known → AliasTree → Known
after_alias k d = record (with_global k d.name.text (meaning_or_none (alias_meaning k d.target))) { count = k.count + 1 }
