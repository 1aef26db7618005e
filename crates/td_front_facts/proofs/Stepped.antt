-- The steps of arrays are the sizes of their elements.
use Rattle.std.proofs.Common.{◌≡◌, ℕ, List, [], ◌∷◌, refl, sym, subst, Option, Some, None}
use Rattle.td_num.specs.Numbers.{bytes_in}
use Rattle.td_front_facts.specs.Imports.{Width, ExtentTree, FieldTree, ItemTree, CaseTree, Def, Define, Enum, Alias, Struct, Casetype, Output, ModuleTree, Element, TypeDef, Known, Scope}
use Rattle.td_num.specs.declared.number.Width.TheVariants.{One, Two, Four, Eight}
use Rattle.td_num.specs.Lists.{Each}
use Rattle.td_ast.specs.declared.fields.ExtentTree.TheVariants as after_name
use Rattle.td_core.specs.Term.{Term}
use Rattle.td_core.specs.declared.module.Element.TheVariants as element
use Rattle.td_core.specs.WellFormed.{OfSome, EachField}
use Rattle.td_kinds.specs.Kinds.{constant_size, exactly}
use Rattle.td_core.specs.Sizes.{IsStepOf, HasSteps, IsFieldStepped}
use Rattle.td_elab_rules.specs.Known.{nothing_known}
use Rattle.td_elab_rules.specs.Sorts.{core_of}
use Rattle.td_elab_rules.specs.Types.{element_of}
use Rattle.td_core.specs.declared.module.Source.{Source}
use Rattle.td_elab_rules.specs.Actions.{stored_cell}
use Rattle.td_elab_rules.specs.Given.{element_number, tree_source, held_source, given_extent}
use Rattle.td_elab_rules.specs.Extents.{step_of, zero_ended, extent_core}
use Rattle.td_elab_rules.specs.Fields.{with_field, flats_of, fields_core}
use Rattle.td_elab_rules.specs.Enums.{next_value, item_value, with_item, items_after, with_enum_name}
use Rattle.td_elab_rules.specs.Casetypes.{cases_core, default_core}
use Rattle.td_elab_rules.specs.Definitions.{struct_head, struct_scope, struct_core, casetype_head, casetype_core, after, known_after}
use Rattle.td_elab_rules.specs.Modules.{names_of, module_of}
use Rattle.td_elab_rules.proofs.Whole.{gathered_each}
use Rattle.td_front_facts.specs.Laws.{StepsAreSizes}
use Rattle.td_num.proofs.Lists.{each_append}

step_is : (k : Known) (e : Element) → IsStepOf e (step_of k e)
step_is k (element.Number t) = by t.width
  where
    by : (w : Width) → constant_size (exactly (bytes_in w)) ≡ Some (bytes_in w)
    by One = refl
    by Two = refl
    by Four = refl
    by Eight = refl
step_is k (element.Listed t values) = by t.width
  where
    by : (w : Width) → constant_size (exactly (bytes_in w)) ≡ Some (bytes_in w)
    by One = refl
    by Two = refl
    by Four = refl
    by Eight = refl
step_is k (element.Named d args own) = tt
step_is k element.Unit = refl
step_is k element.Rest = refl
step_is k element.Zeros = refl

zero_stepped : (e : Element) (z : Term) → HasSteps e (zero_ended e z)
zero_stepped (element.Number t) z = tt
zero_stepped (element.Listed t v) z = tt
zero_stepped (element.Named j es own) z = tt
zero_stepped element.Unit z = tt
zero_stepped element.Rest z = tt
zero_stepped element.Zeros z = tt

given_stepped : (e : Element) (o : Option Source) → HasSteps e (given_extent o)
given_stepped e None = tt
given_stepped e (Some source) = tt

extent_stepped : (k : Known) (s : Scope) (e : Element) (x : Option ExtentTree) → HasSteps e (extent_core k s e x)
extent_stepped k s e None = tt
extent_stepped k s e (Some (after_name.Bytes z)) = step_is k e
extent_stepped k s e (Some (after_name.ByteSize z)) = step_is k e
extent_stepped k s e (Some (after_name.SingleElement z)) = step_is k e
extent_stepped k s e (Some (after_name.Zeroterm z)) = zero_stepped e (core_of k s z)
extent_stepped k s e (Some (after_name.Bits n)) = tt
extent_stepped k s e (Some (after_name.Given z)) = given_stepped e (tree_source k s (element_number e) z)
extent_stepped k s e (Some (after_name.OfCell star p)) = given_stepped e (held_source (element_number e) (stored_cell k s p))

flats_stepped : (names : List (List ℕ)) (k : Known) (s : Scope) (fs : List FieldTree) → Each (λ x. HasSteps x.element x.extent) (flats_of names k s fs)
flats_stepped names k s [] = tt
flats_stepped names k s (f ∷ fs) = (extent_stepped k s (element_of k s f.type_tree) f.extent, flats_stepped names k (with_field k s f) fs)

fields_stepped : (names : List (List ℕ)) (k : Known) (s : Scope) (fs : List FieldTree) → Each IsFieldStepped (fields_core names k s fs)
fields_stepped names k s fs =
    gathered_each IsFieldStepped (λ x. HasSteps x.element x.extent) (λ u. Unit {0}) (λ x q. q) (λ x t w q e. tt) (λ u x t w h q e f. tt) (λ u h. tt) (flats_of names k s fs) None tt (flats_stepped names k s fs)

cases_stepped : (names : List (List ℕ)) (k : Known) (s : Scope) (cs : List CaseTree) → Each (λ c. Each IsFieldStepped c.fields) (cases_core names k s cs)
cases_stepped names k s [] = tt
cases_stepped names k s (c ∷ cs) = (fields_stepped names k s c.fields, cases_stepped names k s cs)

default_stepped : (names : List (List ℕ)) (k : Known) (s : Scope) (d : Option (List FieldTree)) → OfSome (Each IsFieldStepped) (default_core names k s d)
default_stepped names k s None = tt
default_stepped names k s (Some fs) = fields_stepped names k s fs

-- Definitions

abbrev AreStepped : List TypeDef → Type 0
AreStepped ds = Each (λ d. EachField IsFieldStepped d.body) ds

items_stepped : (k : Known) (next : Option ℕ) (is : List ItemTree) → AreStepped k.definitions → AreStepped (items_after k next is).definitions
items_stepped k next [] h = h
items_stepped k next (i ∷ is) h = items_stepped (with_item k next i) (next_value (item_value k next i)) is h

after_stepped : (names : List (List ℕ)) (k : Known) (d : Def) → AreStepped k.definitions → AreStepped (after names k d).definitions
after_stepped names k (Define d) h = h
after_stepped names k (Enum d) h = items_stepped (with_enum_name k d) (Some 0) d.items h
after_stepped names k (Alias d) h = h
after_stepped names k (Output d) h = h
after_stepped names k (Struct d) h =
    each_append (λ x. EachField IsFieldStepped x.body) k.definitions (struct_core names k d ∷ []) h (fields_stepped names k (struct_scope k (struct_head names k d).scope d.fields) d.fields, tt)
after_stepped names k (Casetype d) h =
    each_append (λ x. EachField IsFieldStepped x.body) k.definitions (casetype_core names k d ∷ []) h
    ((cases_stepped names k (casetype_head names k d).scope d.cases, default_stepped names k (casetype_head names k d).scope d.default), tt)

all_stepped : (names : List (List ℕ)) (k : Known) (ds : List Def) → AreStepped k.definitions → AreStepped (known_after names k ds).definitions
all_stepped names k [] h = h
all_stepped names k (d ∷ ds) h = all_stepped names (after names k d) ds (after_stepped names k d h)

module_stepped : (t : ModuleTree) → AreStepped (module_of t).definitions
module_stepped t = all_stepped (names_of t) nothing_known t.definitions tt

pub steps_are_sizes : StepsAreSizes
steps_are_sizes t m s = subst (λ m. AreStepped m.definitions) (sym s.1) (module_stepped t)
