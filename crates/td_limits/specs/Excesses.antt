-- Excesses over limits (own rule): each at the name of the definition in which the limit is passed. The first is that of
-- the earliest definition, and at one definition the first in the order of `Limit`.
use Rattle.std.specs.Prelude.{ℕ, ◌^◌, ◌-◌, cond, max, min, nat_lt, List, [], ◌∷◌, Option, Some, None}
use Rattle.td_limits.specs.Imports.{Span, Def, Define, Enum, Alias, Struct, Casetype, Output}
use Rattle.td_ast.specs.declared.names.Name.{Name}
use Rattle.td_limits.specs.declared.limits.Limit.{Limit}
use Rattle.td_limits.specs.declared.limits.Excess.{Excess}

-- a list of one excess where there is more than the most
abbrev pub above : ℕ → ℕ → Limit → Span → List Excess
above most n limit span = cond (nat_lt most n) (record { limit = limit; span = span } ∷ []) []

abbrev pub first_excess : List Excess → Option Excess
first_excess [] = None
first_excess (e ∷ es) = Some e

abbrev pub definition_name : Def → Name
definition_name (Define d) = d.name
definition_name (Enum d) = d.name
definition_name (Alias d) = d.name
definition_name (Struct d) = d.name
definition_name (Casetype d) = d.name
definition_name (Output d) = d.name

-- a number as 64 bits hold it that stand still at their end
abbrev pub capped : ℕ → ℕ
capped n = min n (2 ^ 64 - 1)

-- the greatest of these numbers; 0 of none
abbrev pub greatest : List ℕ → ℕ
greatest [] = 0
greatest (n ∷ ns) = max n (greatest ns)
