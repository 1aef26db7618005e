-- The rules of enums (3D manual, "Enums"; own rule: a name without a value is one more than the one before, and the first
-- is 0).
use Rattle.std.specs.Prelude.{ℕ, ◌+◌, ◌^◌, Bool, true, cond, nat_lt, List, [], ◌∷◌, ◌++◌, length, Option, Some, None}
use Rattle.td_elab_rules.specs.Imports.{NumberType, Span, ConstTree, ItemTree, EnumTree, Scalar}
use Rattle.td_core.specs.Formed.{scalar_of}
use Rattle.td_elab_rules.specs.declared.breach.Rule.TheVariants.{Twice, Narrowing}
use Rattle.td_elab_rules.specs.declared.breach.Breach.{Breach}
use Rattle.td_elab_rules.specs.declared.known.Meaning.TheVariants as meaning
use Rattle.td_elab_rules.specs.declared.known.Known.{Known}
use Rattle.td_elab_rules.specs.Breach.{when}
use Rattle.td_elab_rules.specs.Known.{no_scope}
use Rattle.td_elab_rules.specs.Constants.{global_breaches, literal_breaches, with_global, constant_value, constant_span, constant_breaches, is_value_among, with_value_number, is_past, number_or_zero}

-- the number after one; none past 2^64 - 1, as no item can have that
abbrev pub next_value : Option ℕ → Option ℕ
next_value None = None
next_value (Some n) = cond (nat_lt (n + 1) (2 ^ 64)) (Some (n + 1)) None

-- its written value, or the next one
abbrev pub item_value : Known → Option ℕ → ItemTree → Option ℕ
item_value k next i = elim i.value [ None ↦ next | Some c ↦ constant_value k no_scope c ]

-- where a breach of the value stands
abbrev pub item_place : ItemTree → Span
item_place i = elim i.value [ None ↦ i.name.span | Some c ↦ constant_span c ]

abbrev pub value_breaches : Known → Option ConstTree → List Breach
value_breaches k None = []
value_breaches k (Some c) = constant_breaches k no_scope c

abbrev pub is_counted_past : Scalar → Option ℕ → Bool
is_counted_past w None = true
is_counted_past w (Some n) = is_past w (Some n)

abbrev pub is_item_past : Known → Scalar → Option ℕ → Option ConstTree → Bool
is_item_past k w next None = is_counted_past w next
is_item_past k w next (Some c) = is_past w (constant_value k no_scope c)

-- N2: its name, or its value, is given before. Y2: its value is past the base.
abbrev pub item_breaches : Known → NumberType → (before : List ℕ) → Option ℕ → ItemTree → List Breach
item_breaches k base before next i =
    literal_breaches k i.name
    ++ (value_breaches k i.value
    ++ (when (is_value_among before (item_value k next i)) Twice (item_place i)
    ++ when (is_item_past k (scalar_of base.width) next i.value) Narrowing (item_place i)))

abbrev pub with_item : Known → Option ℕ → ItemTree → Known
with_item k next i = with_global k i.name.text (meaning.Member (number_or_zero (item_value k next i)))

abbrev pub items_breaches : Known → NumberType → (before : List ℕ) → Option ℕ → List ItemTree → List Breach
items_breaches k base before next [] = []
items_breaches k base before next (i ∷ is) =
    item_breaches k base before next i
    ++ items_breaches (with_item k next i) base (with_value_number before (item_value k next i)) (next_value (item_value k next i)) is

abbrev pub items_after : Known → Option ℕ → List ItemTree → Known
items_after k next [] = k
items_after k next (i ∷ is) = items_after (with_item k next i) (next_value (item_value k next i)) is

abbrev pub item_values : Known → Option ℕ → List ItemTree → List ℕ
item_values k next [] = []
item_values k next (i ∷ is) = number_or_zero (item_value k next i) ∷ item_values (with_item k next i) (next_value (item_value k next i)) is

-- its name stands before its items
abbrev pub with_enum_name : Known → EnumTree → Known
with_enum_name k d = with_global k d.name.text (meaning.Enum d.base.number (length k.listed))

abbrev pub enum_breaches : Known → EnumTree → List Breach
enum_breaches k d = global_breaches k d.name ++ items_breaches (with_enum_name k d) d.base.number [] (Some 0) d.items

abbrev pub after_enum : Known → EnumTree → Known
after_enum k d = record (items_after (with_enum_name k d) (Some 0) d.items) {
  count = k.count + 1;
  listed = k.listed ++ item_values (with_enum_name k d) (Some 0) d.items ∷ [];
}
