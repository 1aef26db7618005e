-- The rules of casetypes (3D manual, "Casetypes"): the value of a case is a constant, and fits the type of the switch.
use Rattle.std.specs.Prelude.{ℕ, Bool, false, List, [], ◌∷◌, ◌++◌, Option, Some, None}
use Rattle.td_elab_rules.specs.Imports.{ConstTree, FieldTree, CaseTree, CasetypeTree, Scalar, Field}
use Rattle.td_core.specs.declared.module.Case.{Case}
use Rattle.td_core.specs.declared.module.Body.{Body}
use Rattle.td_core.specs.declared.module.Body.TheVariants.{Casetype}
use Rattle.td_elab_rules.specs.declared.breach.Rule.TheVariants.{Twice, Narrowing}
use Rattle.td_elab_rules.specs.declared.breach.Breach.{Breach}
use Rattle.td_elab_rules.specs.declared.known.Known.{Known}
use Rattle.td_elab_rules.specs.declared.known.Scope.{Scope}
use Rattle.td_elab_rules.specs.declared.known.Taken.{Taken}
use Rattle.td_elab_rules.specs.Breach.{when}
use Rattle.td_elab_rules.specs.Known.{next_case}
use Rattle.td_elab_rules.specs.Sorts.{type_alone, sort_of, core_of}
use Rattle.td_elab_rules.specs.ExprRules.{number_breaches}
use Rattle.td_elab_rules.specs.Constants.{constant_value, constant_span, constant_breaches, is_value_among, with_value_number, is_past, number_or_zero}
use Rattle.td_elab_rules.specs.Fields.{fields_breaches, fields_taken, fields_core}

-- a value past the type of the switch, where that has one
abbrev pub is_past_switch : Option Scalar → Option ℕ → Bool
is_past_switch None v = false
is_past_switch (Some w) v = is_past w v

-- N2: a value twice. Y2: one past the switch's type.
abbrev pub case_breaches : Known → Scope → Option Scalar → (before : List ℕ) → ConstTree → List Breach
case_breaches k s w before c =
    constant_breaches k s c
    ++ (when (is_value_among before (constant_value k s c)) Twice (constant_span c)
    ++ when (is_past_switch w (constant_value k s c)) Narrowing (constant_span c))

-- the names that are given after a case
abbrev pub case_taken : Taken → List FieldTree → Taken
case_taken t fs = fields_taken (next_case t) fs

abbrev pub cases_breaches : Known → Taken → Scope → Option Scalar → (before : List ℕ) → List CaseTree → List Breach
cases_breaches k t s w before [] = []
cases_breaches k t s w before (c ∷ cs) =
    case_breaches k s w before c.constant
    ++ (fields_breaches k (next_case t) s c.fields
    ++ cases_breaches k (case_taken t c.fields) s w (with_value_number before (constant_value k s c.constant)) cs)

abbrev pub cases_taken : Taken → List CaseTree → Taken
cases_taken t [] = t
cases_taken t (c ∷ cs) = cases_taken (case_taken t c.fields) cs

abbrev pub default_breaches : Known → Taken → Scope → Option (List FieldTree) → List Breach
default_breaches k t s None = []
default_breaches k t s (Some fs) = fields_breaches k (next_case t) s fs

abbrev pub default_taken : Taken → Option (List FieldTree) → Taken
default_taken t None = t
default_taken t (Some fs) = case_taken t fs

abbrev pub switch_breaches : Known → Taken → Scope → CasetypeTree → List Breach
switch_breaches k t s d =
    number_breaches k s d.subject
    ++ (cases_breaches k t s (type_alone (sort_of k s d.subject)) [] d.cases
    ++ default_breaches k (cases_taken t d.cases) s d.default)

abbrev pub switch_taken : Taken → CasetypeTree → Taken
switch_taken t d = default_taken (cases_taken t d.cases) d.default

abbrev pub cases_core : List (List ℕ) → Known → Scope → List CaseTree → List Case
cases_core names k s [] = []
cases_core names k s (c ∷ cs) =
    record { value = number_or_zero (constant_value k s c.constant); fields = fields_core names k s c.fields } ∷ cases_core names k s cs

abbrev pub default_core : List (List ℕ) → Known → Scope → Option (List FieldTree) → Option (List Field)
default_core names k s None = None
default_core names k s (Some fs) = Some (fields_core names k s fs)

abbrev pub switch_core : List (List ℕ) → Known → Scope → CasetypeTree → Body
switch_core names k s d = Casetype (core_of k s d.subject) (cases_core names k s d.cases) (default_core names k s d.default)
