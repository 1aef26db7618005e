-- How many nodes a module has, how deep its definitions stand within one another, and how much they weigh (own rule: as its
-- text counts them; `p = field_ptr` is a statement without an expression there, so here what is stored counts, and not its
-- statement).
use Rattle.std.specs.Prelude.{ℕ, zero, suc, ◌+◌, ◌*◌, max, Bool, true, false, nat_eq, List, [], ◌∷◌, length, Option, Some, None, slice_get}
use Rattle.td_core.specs.Term.{Term, measure, Deed, done, set, keep, fork, answer, give_up}
use Rattle.td_core.specs.declared.module.Element.{Element}
use Rattle.td_core.specs.declared.module.Element.TheVariants.{Number, Listed, Named, Unit as UnitElement, Rest, Zeros}
use Rattle.td_core.specs.declared.module.Extent.{Extent}
use Rattle.td_core.specs.declared.module.Extent.TheVariants.{Once, Filling, OnceFilling, UpToZero, Given}
use Rattle.td_core.specs.declared.module.Source.{Source}
use Rattle.td_core.specs.declared.module.Source.TheVariants.{Expression, Cell as FromCell, Left}
use Rattle.td_core.specs.declared.module.Part.{Part}
use Rattle.td_core.specs.declared.module.Field.{Field}
use Rattle.td_core.specs.declared.module.Case.{Case}
use Rattle.td_core.specs.declared.module.Body.{Body}
use Rattle.td_core.specs.declared.module.Body.TheVariants.{Struct, Casetype}
use Rattle.td_core.specs.declared.module.TypeDef.{TypeDef}

-- Nodes: definitions, parameters, fields (each bit field is one), cases, statements (but those that store), and nodes of
-- expressions

abbrev pub option_nodes : Option Term → ℕ
option_nodes None = 0
option_nodes (Some e) = measure e

abbrev pub terms_nodes : List Term → ℕ
terms_nodes [] = 0
terms_nodes (e ∷ es) = measure e + terms_nodes es

abbrev pub deed_nodes : Deed → ℕ
deed_nodes done = 0
deed_nodes (set cell e then) = measure e + deed_nodes then
deed_nodes (keep cell then) = 1 + deed_nodes then
deed_nodes (fork e one other then) = 1 + (measure e + (deed_nodes one + (deed_nodes other + deed_nodes then)))
deed_nodes (answer e) = 1 + measure e
deed_nodes give_up = 1

abbrev pub action_nodes : Option Deed → ℕ
action_nodes None = 0
action_nodes (Some action) = deed_nodes action

abbrev pub element_nodes : Element → ℕ
element_nodes (Number type) = 0
element_nodes (Listed base values) = 0
element_nodes (Named definition args cells) = terms_nodes args
element_nodes UnitElement = 0
element_nodes Rest = 0
element_nodes Zeros = 0

-- `bytes_left` is the node that the name is in the text
abbrev pub source_nodes : Source → ℕ
source_nodes (Expression span e) = measure e
source_nodes (FromCell cell) = 0
source_nodes Left = 1

abbrev pub extent_nodes : Extent → ℕ
extent_nodes Once = 0
extent_nodes (Filling size step) = measure size
extent_nodes (OnceFilling size step) = measure size
extent_nodes (UpToZero size) = measure size
extent_nodes (Given source) = source_nodes source

abbrev pub part_nodes : Part → ℕ
part_nodes p = option_nodes p.refinement + action_nodes p.action

-- the sum over a list
abbrev pub total : {A : Type 0} → (A → ℕ) → List A → ℕ
total f [] = 0
total f (x ∷ xs) = f x + total f xs

-- of a field's expressions and statements
abbrev pub inner_nodes : Field → ℕ
inner_nodes f = element_nodes f.element + (extent_nodes f.extent + total part_nodes f.parts)

abbrev pub fields_nodes : List Field → ℕ
fields_nodes fs = total (λ f. length f.parts + inner_nodes f) fs

abbrev pub default_nodes : Option (List Field) → ℕ
default_nodes None = 0
default_nodes (Some fs) = fields_nodes fs

abbrev pub cases_nodes : List Case → ℕ
cases_nodes cs = total (λ c. 1 + fields_nodes c.fields) cs

abbrev pub body_nodes : Body → ℕ
body_nodes (Struct fs) = fields_nodes fs
body_nodes (Casetype switch cases default) = measure switch + (cases_nodes cases + default_nodes default)

abbrev pub head_nodes : TypeDef → ℕ
head_nodes d = length d.params + option_nodes d.guard

abbrev pub definitions_nodes : List TypeDef → ℕ
definitions_nodes ds = total (λ d. 1 + (head_nodes d + body_nodes d.body)) ds

-- Depth and weight, from those of earlier definitions

-- what an element takes of the definition that it names
abbrev pub of_named : (ℕ → ℕ) → Element → ℕ
of_named earlier (Number type) = 0
of_named earlier (Listed base values) = 0
of_named earlier (Named definition args cells) = earlier definition
of_named earlier UnitElement = 0
of_named earlier Rest = 0
of_named earlier Zeros = 0

abbrev pub fields_depth : (ℕ → ℕ) → List Field → ℕ
fields_depth depths [] = 0
fields_depth depths (f ∷ fs) = max (of_named depths f.element) (fields_depth depths fs)

abbrev pub default_depth : (ℕ → ℕ) → Option (List Field) → ℕ
default_depth depths None = 0
default_depth depths (Some fs) = fields_depth depths fs

abbrev pub cases_depth : (ℕ → ℕ) → List Case → ℕ
cases_depth depths [] = 0
cases_depth depths (c ∷ cs) = max (fields_depth depths c.fields) (cases_depth depths cs)

abbrev pub body_depth : (ℕ → ℕ) → Body → ℕ
body_depth depths (Struct fs) = fields_depth depths fs
body_depth depths (Casetype switch cases default) = max (cases_depth depths cases) (default_depth depths default)

-- one more than the deepest definition that stands in it
abbrev pub definition_depth : (ℕ → ℕ) → Option TypeDef → ℕ
definition_depth depths None = 0
definition_depth depths (Some d) = suc (body_depth depths d.body)

-- an array has twice the weight of its element, and 64
abbrev pub as_array : Extent → ℕ → ℕ
as_array Once weight = weight
as_array (Filling size step) weight = 2 * weight + 64
as_array (OnceFilling size step) weight = 2 * weight + 64
as_array (UpToZero size) weight = 2 * weight + 64
as_array (Given source) weight = weight

-- 32 for each part, 8 for each node, and the definition that it names; an array twice that and 64
abbrev pub field_weight : (ℕ → ℕ) → Field → ℕ
field_weight earlier f = as_array f.extent (32 * length f.parts + (8 * inner_nodes f + of_named earlier f.element))

abbrev pub fields_weight : (ℕ → ℕ) → List Field → ℕ
fields_weight earlier fs = total (field_weight earlier) fs

abbrev pub default_weight : (ℕ → ℕ) → Option (List Field) → ℕ
default_weight earlier None = 0
default_weight earlier (Some fs) = fields_weight earlier fs

abbrev pub cases_weight : (ℕ → ℕ) → List Case → ℕ
cases_weight earlier cs = total (λ c. 8 + fields_weight earlier c.fields) cs

abbrev pub body_weight : (ℕ → ℕ) → Body → ℕ
body_weight earlier (Struct fs) = fields_weight earlier fs
body_weight earlier (Casetype switch cases default) = 8 * measure switch + (cases_weight earlier cases + default_weight earlier default)

-- 32, 8 for each parameter and for each node of `where` and the switch, 8 for each case, and the fields
abbrev pub definition_weight : (ℕ → ℕ) → Option TypeDef → ℕ
definition_weight earlier None = 0
definition_weight earlier (Some d) = 32 + (8 * head_nodes d + body_weight earlier d.body)

abbrev pub either_number : Bool → ℕ → ℕ → ℕ
either_number true a b = a
either_number false a b = b

-- of definition j of those below n, each from those below it
unfoldable pub below_by : ((ℕ → ℕ) → Option TypeDef → ℕ) → List TypeDef → ℕ → ℕ → ℕ
below_by of ds zero j = 0
below_by of ds (suc n) j = either_number (nat_eq j n) (of (below_by of ds n) (slice_get ds n)) (below_by of ds n j)

abbrev pub depth_of : List TypeDef → ℕ → ℕ
depth_of ds n = below_by definition_depth ds (length ds) n

-- of definition n of the list
abbrev pub weight_of : List TypeDef → ℕ → ℕ
weight_of ds n = below_by definition_weight ds (length ds) n
