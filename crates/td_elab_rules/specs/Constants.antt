-- The rules of what stands at a constant's place, and of distinct names (3D manual, "Constants", "Enums").
use Rattle.std.specs.Prelude.{ℕ, Bool, false, not, ◌||◌, ◌&&◌, nat_le, List, [], ◌++◌, Option, Some, None, is_some, is_none}
use Rattle.td_elab_rules.specs.Imports.{ConstTree, Name, Span, Scalar}
use Rattle.td_ast.specs.declared.names.ConstTree.TheVariants.{Number, Named}
use Rattle.td_core.specs.Types.{limit}
use Rattle.td_names.specs.Names.{is_seen, looked_up, declared}
use Rattle.td_names.specs.Numbers.{is_among, with_number}
use Rattle.td_elab_rules.specs.declared.breach.Rule.TheVariants.{Unknown, Twice, NotConstant}
use Rattle.td_elab_rules.specs.declared.breach.Breach.{Breach}
use Rattle.td_elab_rules.specs.declared.known.Meaning.{Meaning}
use Rattle.td_elab_rules.specs.declared.known.Meaning.TheVariants as meaning
use Rattle.td_elab_rules.specs.declared.known.Found.{Found}
use Rattle.td_elab_rules.specs.declared.known.Found.TheVariants as found
use Rattle.td_elab_rules.specs.declared.known.Known.{Known}
use Rattle.td_elab_rules.specs.declared.known.Scope.{Scope}
use Rattle.td_elab_rules.specs.Breach.{when}
use Rattle.td_elab_rules.specs.Known.{found_in}
use Rattle.td_elab_rules.specs.ExprRules.{is_nothing}

-- Names of definitions, constants and members

-- N2: a definition has another name than the definitions, constants and members before it
abbrev pub global_breaches : Known → Name → List Breach
global_breaches k n = when (is_some (looked_up k.globals n.text)) Twice n.span

-- N2: a constant and a member have another name also than the parameters, fields, `var`s and slots before them
abbrev pub literal_breaches : Known → Name → List Breach
literal_breaches k n = when (is_some (looked_up k.globals n.text) || is_seen k.used n.text) Twice n.span

-- one more such name; where it stands for something already, that stays
abbrev pub with_global : Known → List ℕ → Meaning → Known
with_global k name m = record k { globals = declared k.globals name m }

-- Values

-- the number that a name stands for
abbrev pub found_number : Found → Option ℕ
found_number found.Nothing = None
found_number (found.Local l) = None
found_number (found.Global (meaning.Constant n)) = Some n
found_number (found.Global (meaning.Member n)) = Some n
found_number (found.Global (meaning.Number t)) = None
found_number (found.Global (meaning.Enum t v)) = None
found_number (found.Global (meaning.Type j)) = None
found_number (found.Global (meaning.Record r)) = None

abbrev pub constant_value : Known → Scope → ConstTree → Option ℕ
constant_value k s (Number n) = Some n.value
constant_value k s (Named n) = found_number (found_in k s n.text)

abbrev pub constant_span : ConstTree → Span
constant_span (Number n) = n.span
constant_span (Named n) = n.span

-- N1, Y3: a name that isn't known, or stands for no number
abbrev pub number_name_breaches : Found → Span → List Breach
number_name_breaches f at = when (is_nothing f) Unknown at ++ when (not (is_nothing f) && is_none (found_number f)) NotConstant at

abbrev pub constant_breaches : Known → Scope → ConstTree → List Breach
constant_breaches k s (Number n) = []
constant_breaches k s (Named n) = number_name_breaches (found_in k s n.text) n.span

-- the numbers of one enum or casetype
abbrev pub is_value_among : List ℕ → Option ℕ → Bool
is_value_among ns None = false
is_value_among ns (Some n) = is_among ns n

abbrev pub with_value_number : List ℕ → Option ℕ → List ℕ
with_value_number ns None = ns
with_value_number ns (Some n) = with_number ns n

-- a number that doesn't fit a type
abbrev pub is_past : Scalar → Option ℕ → Bool
is_past w None = false
is_past w (Some n) = nat_le (limit w) n

abbrev pub number_or_zero : Option ℕ → ℕ
number_or_zero None = 0
number_or_zero (Some n) = n
