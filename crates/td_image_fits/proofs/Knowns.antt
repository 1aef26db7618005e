-- What the rules of a text bound of its module: its enums, entry points, values, cases and steps.
use Rattle.std.proofs.Common.{◌≡◌, ℕ, suc, ◌+◌, ◌≤◌, Bool, true, false, List, [], ◌∷◌, ◌++◌, length, refl, sym, ap, subst, arith, Option, Some, None, length-append}
use Rattle.std.proofs.lemmas.Bool.{leb-false}
use Rattle.td_num.specs.declared.number.NumberType.{NumberType}
use Rattle.td_num.specs.Lists.{Each}
use Rattle.td_ast.specs.declared.names.ConstTree.{ConstTree}
use Rattle.td_ast.specs.declared.definitions.ItemTree.{ItemTree}
use Rattle.td_ast.specs.declared.definitions.EnumTree.{EnumTree}
use Rattle.td_image_fits.specs.Imports.{CaseTree, Def, ModuleTree, Scalar, TypeDef, Twice, Narrowing, Known, Scope}
use Rattle.td_ast.specs.declared.definitions.CasetypeTree.{CasetypeTree}
use Rattle.td_ast.specs.declared.definitions.Def.TheVariants.{Define, Enum, Alias, Struct, Casetype, Output}
use Rattle.td_core.specs.Types.{limit}
use Rattle.td_core.specs.Formed.{scalar_of}
use Rattle.td_core.specs.Weights.{total}
use Rattle.td_core.specs.WellFormed.{EachField}
use Rattle.td_kinds.specs.Kinds.{body_kind}
use Rattle.td_limits.specs.Nodes.{definition_nodes}
use Rattle.td_elab_rules.specs.declared.known.Taken.{Taken}
use Rattle.td_elab_rules.specs.Breach.{when}
use Rattle.td_elab_rules.specs.Known.{nothing_known, kind_at, no_scope, next_case}
use Rattle.td_elab_rules.specs.Sorts.{type_alone, sort_of}
use Rattle.td_elab_rules.specs.ExprRules.{test_breaches, number_breaches}
use Rattle.td_elab_rules.specs.Constants.{literal_breaches, global_breaches, constant_value, constant_span, constant_breaches, is_value_among, with_value_number, is_past, number_or_zero}
use Rattle.td_elab_rules.specs.Fields.{fields_breaches}
use Rattle.td_elab_rules.specs.Enums.{next_value, item_value, item_place, value_breaches, is_item_past, item_breaches, items_breaches, item_values, with_item, items_after, with_enum_name, after_enum, enum_breaches}
use Rattle.td_elab_rules.specs.Casetypes.{is_past_switch, case_breaches, case_taken, cases_breaches, switch_breaches, cases_core}
use Rattle.td_elab_rules.specs.Parameters.{no_head, params_breaches}
use Rattle.td_elab_rules.specs.Definitions.{entry_more, struct_head, struct_scope, struct_core, casetype_head, casetype_core, casetype_breaches, definition_breaches, definitions_breaches, after, known_after}
use Rattle.td_elab_rules.specs.Modules.{names_of, module_of}
use Rattle.td_elab_rules.proofs.Sorting.{when_none}
use Rattle.td_image_fits.specs.Small.{IsWord, IsFieldSmall, HasSmallCases}
use Rattle.td_image_fits.proofs.Sorts.{number_typed}
use Rattle.td_image_fits.proofs.Steps.{IsKindLow, body_low, at_low, fields_small, cases_small, default_small}
use Rattle.td_num.proofs.Lists.{each_append, left_none, right_none}
use Rattle.td_expr.proofs.Widths.{limit_small as limit_low}

-- ---- values

not_past : (w : Scalar) (v : Option ℕ) → is_past w v ≡ false → IsWord (number_or_zero v)
not_past w None e = omega arith
not_past w (Some n) e = (let lt = leb-false (limit w) n e in let low = limit_low w in omega (arith, lt, low))

item_small : (k : Known) (w : Scalar) (next : Option ℕ) (v : Option ConstTree) → is_item_past k w next v ≡ false → IsWord (number_or_zero (elim v [ None ↦ next | Some c ↦ constant_value k no_scope c ]))
item_small k w None None e = absurd cc
item_small k w (Some n) None e = not_past w (Some n) e
item_small k w next (Some c) e = not_past w (constant_value k no_scope c) e

items_small : (k : Known) (base : NumberType) (before : List ℕ) (next : Option ℕ) (is : List ItemTree) → items_breaches k base before next is ≡ [] → Each IsWord (item_values k next is)
items_small k base before next [] b = tt
items_small k base before next (i ∷ is) b =
    let own = left_none (item_breaches k base before next i) _ b in
    let one = right_none (literal_breaches k i.name) _ own in
    let two = right_none (value_breaches k i.value) _ one in
    let three = right_none (when (is_value_among before (item_value k next i)) Twice (item_place i)) _ two in (
      item_small k (scalar_of base.width) next i.value (when_none (is_item_past k (scalar_of base.width) next i.value) Narrowing (item_place i) three),
      items_small (with_item k next i) base (with_value_number before (item_value k next i)) (next_value (item_value k next i)) is (right_none (item_breaches k base before next i) _ b),
    )

items_count : (k : Known) (next : Option ℕ) (is : List ItemTree) → length (item_values k next is) ≡ length is
items_count k next [] = refl
items_count k next (i ∷ is) = ap suc (items_count (with_item k next i) (next_value (item_value k next i)) is)

values_of_cases : (names : List (List ℕ)) (k : Known) (t : Taken) (s : Scope) (o : Option Scalar) (w : Scalar) (before : List ℕ) (cs : List CaseTree) → o ≡ Some w → cases_breaches k t s o before cs ≡ [] → Each (λ c. IsWord c.value) (cases_core names k s cs)
values_of_cases names k t s o w before [] e b = tt
values_of_cases names k t s o w before (c ∷ cs) e b =
    let own = left_none (case_breaches k s o before c.constant) _ b in
    let rest = right_none (case_breaches k s o before c.constant) _ b in
    let one = right_none (constant_breaches k s c.constant) _ own in
    let two = right_none (when (is_value_among before (constant_value k s c.constant)) Twice (constant_span c.constant)) _ one in
    let past : is_past_switch o (constant_value k s c.constant) ≡ false = when_none (is_past_switch o (constant_value k s c.constant)) Narrowing (constant_span c.constant) two in (
      not_past w (constant_value k s c.constant) (subst (λ x. is_past_switch x (constant_value k s c.constant) ≡ false) e past),
      values_of_cases names k (case_taken t c.fields) s o w (with_value_number before (constant_value k s c.constant)) cs e (right_none (fields_breaches k (next_case t) s c.fields) _ rest),
    )

casetype_small : (names : List (List ℕ)) (k : Known) (d : CasetypeTree) → casetype_breaches names k d ≡ [] → HasSmallCases (casetype_core names k d).body
casetype_small names k d b =
    let h = casetype_head names k d in
    let s = h.scope in
    let o = type_alone (sort_of k s d.subject) in
    let one = right_none (params_breaches names k no_head d.head.params) _ b in
    let two = left_none (switch_breaches k h.taken s d) _ (right_none (test_breaches k s d.head.condition) _ one) in
    let three = right_none (number_breaches k s d.subject) _ two in
    let type = number_typed k s d.subject (left_none (number_breaches k s d.subject) _ two) in
    values_of_cases names k h.taken s o type.0 [] d.cases type.1 (left_none (cases_breaches k h.taken s o [] d.cases) _ three)

-- ---- what is known

record IsKnownSmall (k : Known) (nodes : ℕ) : Type 0 where
  enums : length k.listed ≤ k.count
  values : total length k.listed ≤ nodes
  entries : length k.entries ≤ k.count
  numbers : Each (Each IsWord) k.listed
  kinds : Each IsKindLow k.kinds
  cases : Each (λ d. HasSmallCases d.body) k.definitions
  steps : Each (λ d. EachField IsFieldSmall d.body) k.definitions

total_more : (xss : List (List ℕ)) (xs : List ℕ) → total length (xss ++ xs ∷ []) ≡ total length xss + length xs
total_more [] xs = omega arith
total_more (ys ∷ xss) xs = (let h = total_more xss xs in omega (arith, h))

-- items leave all but names as it was
record IsSame (a b : Known) : Type 0 where
  entries : a.entries ≡ b.entries
  kinds : a.kinds ≡ b.kinds
  definitions : a.definitions ≡ b.definitions

items_same : (k : Known) (next : Option ℕ) (is : List ItemTree) → IsSame (items_after k next is) k
items_same k next [] = record { entries = refl; kinds = refl; definitions = refl }
items_same k next (i ∷ is) =
    let h = items_same (with_item k next i) (next_value (item_value k next i)) is in
    record { entries = h.entries; kinds = h.kinds; definitions = h.definitions }

enum_small : (k : Known) (nodes : ℕ) (d : EnumTree) → enum_breaches k d ≡ [] → IsKnownSmall k nodes → IsKnownSmall (after_enum k d) (nodes + definition_nodes (Enum d))
enum_small k nodes d b h =
    let inside = with_enum_name k d in
    let own = item_values inside (Some 0) d.items in
    let same = items_same inside (Some 0) d.items in
    let small = items_small inside d.base.number [] (Some 0) d.items (right_none (global_breaches k d.name) _ b) in
    let count = items_count inside (Some 0) d.items in
    let more = length-append k.listed (own ∷ []) in
    let sum = total_more k.listed own in
    record {
      enums = omega (arith, more, h.enums);
      values = omega (arith, sum, count, h.values);
      entries = subst (λ x. length x ≤ k.count + 1) (sym same.entries) (let e = h.entries in omega (arith, e));
      numbers = each_append (Each IsWord) k.listed (own ∷ []) h.numbers (small, tt);
      kinds = subst (Each IsKindLow) (sym same.kinds) h.kinds;
      cases = subst (Each (λ d. HasSmallCases d.body)) (sym same.definitions) h.cases;
      steps = subst (Each (λ d. EachField IsFieldSmall d.body)) (sym same.definitions) h.steps;
    }

entry_count : (is_entry : Bool) (j count : ℕ) (entries : List ℕ) → length entries ≤ count → length (entry_more is_entry j entries) ≤ count + 1
entry_count true j count entries h = (let a = length-append entries (j ∷ []) in omega (arith, a, h))
entry_count false j count entries h = omega (arith, h)

-- one more kind, of a definition among those before
kind_more : (k : Known) (d : TypeDef) → Each IsKindLow k.kinds → Each IsKindLow (k.kinds ++ body_kind (kind_at k) d.body ∷ [])
kind_more k d h = each_append IsKindLow k.kinds (body_kind (kind_at k) d.body ∷ []) h (body_low (kind_at k) (λ j. at_low k.kinds j h) d.body, tt)

after_small : (names : List (List ℕ)) (k : Known) (nodes : ℕ) (d : Def) → definition_breaches names k d ≡ [] → IsKnownSmall k nodes → IsKnownSmall (after names k d) (nodes + definition_nodes d)
after_small names k nodes (Define d) b h =
    record { enums = omega (arith, h.enums); values = omega (arith, h.values); entries = omega (arith, h.entries); numbers = h.numbers; kinds = h.kinds; cases = h.cases; steps = h.steps }
after_small names k nodes (Enum d) b h = enum_small k nodes d b h
after_small names k nodes (Alias d) b h =
    record { enums = omega (arith, h.enums); values = omega (arith, h.values); entries = omega (arith, h.entries); numbers = h.numbers; kinds = h.kinds; cases = h.cases; steps = h.steps }
after_small names k nodes (Struct d) b h =
    let s = struct_scope k (struct_head names k d).scope d.fields in
    let own = struct_core names k d in
    record {
      enums = omega (arith, h.enums);
      values = omega (arith, h.values);
      entries = entry_count d.entry (length k.definitions) k.count k.entries h.entries;
      numbers = h.numbers;
      kinds = kind_more k own h.kinds;
      cases = each_append (λ x. HasSmallCases x.body) k.definitions (own ∷ []) h.cases (tt, tt);
      steps = each_append (λ x. EachField IsFieldSmall x.body) k.definitions (own ∷ []) h.steps (fields_small names k h.kinds s d.fields, tt);
    }
after_small names k nodes (Casetype d) b h =
    let s = (casetype_head names k d).scope in
    let own = casetype_core names k d in
    record {
      enums = omega (arith, h.enums);
      values = omega (arith, h.values);
      entries = entry_count d.entry (length k.definitions) k.count k.entries h.entries;
      numbers = h.numbers;
      kinds = kind_more k own h.kinds;
      cases = each_append (λ x. HasSmallCases x.body) k.definitions (own ∷ []) h.cases (casetype_small names k d b, tt);
      steps = each_append (λ x. EachField IsFieldSmall x.body) k.definitions (own ∷ []) h.steps ((cases_small names k h.kinds s d.cases, default_small names k h.kinds s d.default), tt);
    }
after_small names k nodes (Output d) b h =
    record { enums = omega (arith, h.enums); values = omega (arith, h.values); entries = omega (arith, h.entries); numbers = h.numbers; kinds = h.kinds; cases = h.cases; steps = h.steps }

-- ---- the whole text

abbrev pub all_nodes : List Def → ℕ
all_nodes ds = total definition_nodes ds

all_small : (names : List (List ℕ)) (k : Known) (nodes : ℕ) (ds : List Def) → definitions_breaches names k ds ≡ [] → IsKnownSmall k nodes → IsKnownSmall (known_after names k ds) (nodes + all_nodes ds)
all_small names k nodes [] b h = (let z : nodes ≡ nodes + 0 = omega arith in subst (IsKnownSmall k) z h)
all_small names k nodes (d ∷ ds) b h =
    let z : nodes + definition_nodes d + all_nodes ds ≡ nodes + all_nodes (d ∷ ds) = omega arith in
    subst (IsKnownSmall (known_after names k (d ∷ ds))) z
    (all_small names (after names k d) (nodes + definition_nodes d) ds (right_none (definition_breaches names k d) _ b) (after_small names k nodes d (left_none (definition_breaches names k d) _ b) h))

pub record IsModuleSmall (count nodes : ℕ) (listed : List (List ℕ)) (entries : List ℕ) (definitions : List TypeDef) : Type 0 where
  pub enums : length listed ≤ count
  pub values : total length listed ≤ nodes
  pub entry_points : length entries ≤ count
  pub numbers : Each (Each IsWord) listed
  pub cases : Each (λ d. HasSmallCases d.body) definitions
  pub steps : Each (λ d. EachField IsFieldSmall d.body) definitions

pub tree_small : (t : ModuleTree) → definitions_breaches (names_of t) nothing_known t.definitions ≡ []
    → IsModuleSmall (module_of t).written (all_nodes t.definitions) (module_of t).listed (module_of t).entries (module_of t).definitions
tree_small t b =
    let start : IsKnownSmall nothing_known 0 = record { enums = omega arith; values = omega arith; entries = omega arith; numbers = tt; kinds = tt; cases = tt; steps = tt } in
    let h = all_small (names_of t) nothing_known 0 t.definitions b start in
    let v = h.values in
    record { enums = h.enums; values = omega (arith, v); entry_points = h.entries; numbers = h.numbers; cases = h.cases; steps = h.steps }
