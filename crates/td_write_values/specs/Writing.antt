-- How a value is written, and where it is refused (own rule): the first in the order of the fields, depth first. At one
-- value stand, in this order: its shape, and whether its number fits; `where`, and a case that is missing (the number of a
-- case's values only then); what stands inside it, and for bytes of its own the limit (a unit's at each of its bit
-- fields); an array's size, or its bound; its enum, its refinement and its action. How many bytes are left is looked at
-- where their end is known: behind the size of the array that encloses the value, or behind all else. A path is that of the
-- value, from the whole on. What a type's own tests say is the meaning's, given as `Tests`: in whole numbers, or as
-- arithmetic in 64 bits gives it.
use Rattle.std.specs.Prelude.{ℕ, zero, suc, ◌+◌, ◌/◌, Bool, true, false, nat_eq, nat_le, List, [], ◌∷◌, ◌++◌, length, map, replicate, Option, Some, None, slice_get, slice_index}
use Rattle.td_num.specs.Numbers.{bytes_in, places_from}
use Rattle.td_write_values.specs.Imports.{NumberType, Element, Extent, Once, Filling, OnceFilling, UpToZero, Given, Source, Expression, FromCell, Left, CopyOut, Part, Field, Body, Struct, Casetype, TypeDef, Module, Entry}
use Rattle.td_num.specs.Lists.{is_among}
use Rattle.td_core.specs.Term.{Term}
use Rattle.td_core.specs.declared.module.NameId.{NameId}
use Rattle.td_core.specs.declared.module.Element.TheVariants as element
use Rattle.td_core.specs.declared.outcome.Reason.TheVariants.{Constraint, Impossible}
use Rattle.td_core.specs.Outcome.{Ending, Accepted, Rejected, Behavior}
use Rattle.td_meaning.specs.Doing.{natural_of}
use Rattle.td_meaning.specs.Meaning.{values_of, extended, case_for, pick, entry_place, refined, checked, parts_meaning, demanded}
use Rattle.td_meaning.specs.Words64 as words64
use Rattle.td_write_values.specs.declared.error.WriteRule.{WriteRule}
use Rattle.td_write_values.specs.declared.error.WriteRule.TheVariants.{Shape, Range, Broken, Size, Long}
use Rattle.td_write_values.specs.declared.limits.TheConstants.{MOST_WRITTEN}
use Rattle.td_write_values.specs.Datum.{Datum, Number, Sequence, Bytes, Empty, list_of}
use Rattle.td_write_values.specs.Bytes.{number_bytes, fits, is_byte, unit_type, unit_number, makes_unit}
use Rattle.td_write_values.specs.Spelling.{ends_in_zero, is_some_size, fills, fills_once, noted, number_in}

-- Tests

-- a number that an expression gives, a `where`, a part with its value in scope, and the parts of a number
pub record Tests : Type 0 where
  pub value : Term → List ℕ → ℕ
  pub guarded : Option Term → List ℕ → ℕ → ℕ → List ℕ → Behavior
  pub checked : Part → List ℕ → List ℕ → ℕ → ℕ → List ℕ → Behavior
  pub parts : NameId → ℕ → ℕ → List Part → List ℕ → List ℕ → ℕ → List ℕ → Behavior

-- the meaning's
abbrev pub whole : Tests
whole = record { value = natural_of; guarded = refined; checked = checked; parts = parts_meaning }

-- as arithmetic in 64 bits gives them
abbrev pub in_machine : Tests
in_machine = record {
  value = words64.value_of;
  guarded = λ guard env start q cells. demanded Constraint (words64.is_met guard env) start q cells;
  checked = words64.checked;
  parts = words64.parts_meaning;
}

-- What is written

-- the end that a number of bytes left says, at the value's path
pub record Claim : Type 0 where
  pub end : ℕ
  pub path : List ℕ

-- the bytes, the cells behind them, and what they say of the end of what encloses them
pub data Written : Type 0 where
  Done : (bytes cells : List ℕ) (claims : List Claim) → Written
  Refused : (rule : WriteRule) (path : List ℕ) → Written

abbrev pub after_writing : List ℕ → List Claim → Written → Written
after_writing bytes claims (Done more cells others) = Done (bytes ++ more) cells (claims ++ others)
after_writing bytes claims (Refused rule path) = Refused rule path

-- what was written from p on, and what follows it
abbrev pub followed : Written → ℕ → (ℕ → List ℕ → Written) → Written
followed (Done bytes cells claims) p go = after_writing bytes claims (go (p + length bytes) cells)
followed (Refused rule path) p go = Refused rule path

-- where a test holds, else the value at the path is refused
abbrev pub wanted : Bool → WriteRule → List ℕ → Written → Written
wanted true rule path next = next
wanted false rule path next = Refused rule path

-- what a type's own test says, and what follows on the cells as they then are
abbrev pub tested : Ending → List ℕ → (List ℕ → Written) → Written
tested (Accepted q cells) path go = go cells
tested (Rejected reason position trace cells) path go = Refused (Broken reason) path

-- what was written has a size
abbrev pub of_size : (ℕ → Bool) → List ℕ → Written → Written
of_size test path (Done bytes cells claims) = wanted (test (length bytes)) Size path (Done bytes cells claims)
of_size test path (Refused rule at) = Refused rule at

-- each of these says this end, else the first that doesn't is refused
abbrev pub agreed : ℕ → List Claim → Written → Written
agreed end [] next = next
agreed end (c ∷ cs) next = wanted (nat_eq c.end end) Size c.path (agreed end cs next)

-- what was written from p on ends as its values say
abbrev pub settled : ℕ → Written → Written
settled p (Done bytes cells claims) = agreed (p + length bytes) claims (Done bytes cells [])
settled p (Refused rule path) = Refused rule path

-- the bytes of a number that its enum doesn't list
abbrev pub unlisted : List ℕ → Written → Written
unlisted path (Done bytes cells claims) = Refused (Broken Constraint) path
unlisted path (Refused rule at) = Refused rule at

-- what was written, where its enum lists it
abbrev pub of_enum : Bool → List ℕ → Written → Written
of_enum true path w = w
of_enum false path w = unlisted path w

-- of a definition, from its arguments, the places of its cells, the cells, the value's path, and its place on
abbrev pub Writer : Type 0
Writer = List ℕ → List ℕ → List ℕ → List ℕ → ℕ → Datum → Written

-- Numbers and bytes

-- n bytes from p on end within the limit
abbrev pub has_room : ℕ → ℕ → Bool
has_room p n = nat_le (p + n) MOST_WRITTEN

abbrev pub number_written : NumberType → List ℕ → ℕ → List ℕ → Datum → Written
number_written t path p cells (Number n) =
    wanted (fits t None n) Range path (wanted (has_room p (bytes_in t.width)) Long path (Done (number_bytes t n) cells []))
number_written t path p cells (Sequence vs) = Refused Shape path
number_written t path p cells (Bytes bytes) = Refused Shape path
number_written t path p cells Empty = Refused Shape path

abbrev pub bytes_written : List ℕ → ℕ → List ℕ → Datum → Written
bytes_written path p cells (Number n) = Refused Shape path
bytes_written path p cells (Sequence vs) = Refused Shape path
bytes_written path p cells (Bytes bytes) = wanted (has_room p (length bytes)) Long path (Done bytes cells [])
bytes_written path p cells Empty = Refused Shape path

abbrev pub zeros_written : List ℕ → ℕ → List ℕ → Datum → Written
zeros_written path p cells (Number n) = wanted (has_room p n) Long path (Done (replicate n 0) cells [])
zeros_written path p cells (Sequence vs) = Refused Shape path
zeros_written path p cells (Bytes bytes) = Refused Shape path
zeros_written path p cells Empty = Refused Shape path

abbrev pub unit_written : List ℕ → List ℕ → Datum → Written
unit_written path cells (Number n) = Refused Shape path
unit_written path cells (Sequence vs) = Refused Shape path
unit_written path cells (Bytes bytes) = Refused Shape path
unit_written path cells Empty = Done [] cells []

-- Elements

abbrev pub values_by : Tests → List Term → List ℕ → List ℕ
values_by tests args env = map (λ e. tests.value e env) args

-- an element's bytes, whatever its enum says
abbrev pub element_bytes : Tests → (ℕ → Writer) → Element → List ℕ → List ℕ → List ℕ → ℕ → List ℕ → Datum → Written
element_bytes tests writers (element.Number t) env places path p cells v = number_written t path p cells v
element_bytes tests writers (element.Listed base k) env places path p cells v = number_written base path p cells v
element_bytes tests writers (element.Named j args own) env places path p cells v =
    writers j (values_by tests args env) (map (slice_index places) own) cells path p v
element_bytes tests writers element.Unit env places path p cells v = unit_written path cells v
element_bytes tests writers element.Rest env places path p cells v = bytes_written path p cells v
element_bytes tests writers element.Zeros env places path p cells v = zeros_written path p cells v

-- an enum's number is among its values
abbrev pub is_listed : List (List ℕ) → Element → Datum → Bool
is_listed sets (element.Listed base k) (Number n) = is_among (values_of sets k) n
is_listed sets element v = true

abbrev pub element_written : Tests → List (List ℕ) → (ℕ → Writer) → Element → List ℕ → List ℕ → List ℕ → ℕ → List ℕ → Datum → Written
element_written tests sets writers element env places path p cells v =
    of_enum (is_listed sets element v) path (element_bytes tests writers element env places path p cells v)

-- Arrays

-- values one after the other, from number i of their list on, each of a byte at least (as each is in an array of a text's
-- module)
unfoldable pub items_written : (List ℕ → ℕ → List ℕ → Datum → Written) → List ℕ → ℕ → ℕ → List ℕ → List Datum → Written
items_written each path i p cells [] = Done [] cells []
items_written each path i p cells (v ∷ vs) =
    followed (of_size is_some_size (path ++ i ∷ []) (each (path ++ i ∷ []) p cells v)) p (λ q cells. items_written each path (suc i) q cells vs)

abbrev pub list_written : (List ℕ → ℕ → List ℕ → Datum → Written) → List ℕ → ℕ → List ℕ → Datum → Written
list_written each path p cells (Number n) = Refused Shape path
list_written each path p cells (Sequence vs) = items_written each path 0 p cells (list_of vs)
list_written each path p cells (Bytes bytes) = Refused Shape path
list_written each path p cells Empty = Refused Shape path

abbrev pub contents_written : Tests → List (List ℕ) → (ℕ → Writer) → Element → List ℕ → List ℕ → List ℕ → ℕ → List ℕ → Datum → Written
contents_written tests sets writers element env places path p cells v =
    pick (is_byte element) (bytes_written path p cells v) (list_written (element_written tests sets writers element env places) path p cells v)

-- numbers up to the first 0, no more than their bound
abbrev pub up_to_zero_written : NumberType → ℕ → List ℕ → ℕ → List ℕ → Datum → Written
up_to_zero_written t size path p cells (Number n) = Refused Shape path
up_to_zero_written t size path p cells (Sequence vs) =
    wanted (ends_in_zero (list_of vs)) Shape path
    (followed (items_written (number_written t) path 0 p cells (list_of vs)) p
    (λ q cells. wanted (nat_le (length (list_of vs)) (size / bytes_in t.width)) (Broken Constraint) path (Done [] cells [])))
up_to_zero_written t size path p cells (Bytes bytes) = Refused Shape path
up_to_zero_written t size path p cells Empty = Refused Shape path

abbrev pub zero_ended_written : Element → ℕ → List ℕ → ℕ → List ℕ → Datum → Written
zero_ended_written (element.Number t) size path p cells v = up_to_zero_written t size path p cells v
zero_ended_written (element.Listed base k) size path p cells v = Refused Shape path
zero_ended_written (element.Named j args own) size path p cells v = Refused Shape path
zero_ended_written element.Unit size path p cells v = Refused Shape path
zero_ended_written element.Rest size path p cells v = Refused Shape path
zero_ended_written element.Zeros size path p cells v = Refused Shape path

-- Fields without bytes

-- how many bytes are left
abbrev pub left_written : NumberType → List ℕ → ℕ → List ℕ → Datum → Written
left_written t path p cells (Number n) = wanted (fits t None n) Range path (Done [] cells (record { end = p + n; path = path } ∷ []))
left_written t path p cells (Sequence vs) = Refused Shape path
left_written t path p cells (Bytes bytes) = Refused Shape path
left_written t path p cells Empty = Refused Shape path

abbrev pub source_written : NumberType → Source → List ℕ → ℕ → List ℕ → Datum → Written
source_written t (Expression span e) path p cells v = unit_written path cells v
source_written t (FromCell cell) path p cells v = unit_written path cells v
source_written t Left path p cells v = left_written t path p cells v

abbrev pub given_written : Element → Source → List ℕ → ℕ → List ℕ → Datum → Written
given_written (element.Number t) source path p cells v = source_written t source path p cells v
given_written (element.Listed base k) source path p cells v = Refused Shape path
given_written (element.Named j args own) source path p cells v = Refused Shape path
given_written element.Unit source path p cells v = Refused Shape path
given_written element.Rest source path p cells v = Refused Shape path
given_written element.Zeros source path p cells v = Refused Shape path

-- Shapes

abbrev pub shape_written : Tests → List (List ℕ) → (ℕ → Writer) → Element → Extent → List ℕ → List ℕ → List ℕ → ℕ → List ℕ → Datum → Written
shape_written tests sets writers element Once env places path p cells v = element_written tests sets writers element env places path p cells v
shape_written tests sets writers element (Filling size step) env places path p cells v =
    settled p (of_size (fills step (tests.value size env)) path (contents_written tests sets writers element env places path p cells v))
shape_written tests sets writers element (OnceFilling size step) env places path p cells v =
    of_enum (is_listed sets element v) path
    (settled p (of_size (fills_once step (tests.value size env)) path (element_bytes tests writers element env places path p cells v)))
shape_written tests sets writers element (UpToZero size) env places path p cells v = zero_ended_written element (tests.value size env) path p cells v
shape_written tests sets writers element (Given source) env places path p cells v = given_written element source path p cells v

-- Fields

abbrev pub copied : Option CopyOut → List ℕ → ℕ → Written → Written
copied copy places p (Done bytes cells claims) = Done bytes (noted copy places p (length bytes) cells) claims
copied copy places p (Refused rule path) = Refused rule path

-- what follows a field: with the values in scope, the number of the next value, its place, the cells, and the values left
abbrev pub Later : Type 0
Later = List ℕ → ℕ → ℕ → List ℕ → List Datum → Written

-- a unit's bit fields (or a number) from its start on, and what follows their values
unfoldable pub parts_written : Tests → NumberType → List Part → List ℕ → List ℕ → List ℕ → ℕ → ℕ → List ℕ → List Datum → (List ℕ → List ℕ → ℕ → List ℕ → List Datum → Written) → Written
parts_written tests t [] env places path i start cells vs go = go [] env i cells vs
parts_written tests t (part ∷ parts) env places path i start cells [] go = Refused Shape path
parts_written tests t (part ∷ parts) env places path i start cells (Number n ∷ vs) go =
    wanted (fits t part.bits n) Range (path ++ i ∷ [])
    (wanted (has_room start (bytes_in t.width)) Long (path ++ i ∷ [])
    (tested (tests.checked part (env ++ n ∷ []) places start (start + bytes_in t.width) cells).ending (path ++ i ∷ [])
    (λ cells. parts_written tests t parts (env ++ n ∷ []) places path (suc i) start cells vs (λ ns. go (n ∷ ns)))))
parts_written tests t (part ∷ parts) env places path i start cells (Sequence ws ∷ vs) go = Refused Shape (path ++ i ∷ [])
parts_written tests t (part ∷ parts) env places path i start cells (Bytes bytes ∷ vs) go = Refused Shape (path ++ i ∷ [])
parts_written tests t (part ∷ parts) env places path i start cells (Empty ∷ vs) go = Refused Shape (path ++ i ∷ [])

-- the unit's bytes, and what follows
abbrev pub unit_then : NumberType → List Part → List ℕ → ℕ → Later → List ℕ → List ℕ → ℕ → List ℕ → List Datum → Written
unit_then t parts path p go ns env i cells vs =
    wanted (makes_unit t parts ns) Range path
    (wanted (has_room p (bytes_in t.width)) Long path
    (after_writing (number_bytes t (unit_number parts ns)) [] (go env i (p + bytes_in t.width) cells vs)))

-- any other field, its copy, its refinement and its action, and what follows
abbrev pub whole_written : Tests → List (List ℕ) → (ℕ → Writer) → NameId → Field → List ℕ → List ℕ → List ℕ → ℕ → ℕ → List ℕ → List Datum → Later → Written
whole_written tests sets writers ty f env places path i p cells [] go = Refused Shape path
whole_written tests sets writers ty f env places path i p cells (v ∷ vs) go =
    let n = number_in tests.value f.element f.extent env places cells v in
    followed (copied f.copy places p (shape_written tests sets writers f.element f.extent env places (path ++ i ∷ []) p cells v)) p
    (λ q cells. tested (tests.parts ty p n f.parts env places q cells).ending (path ++ i ∷ [])
    (λ cells. go (extended env n f.parts) (suc i) q cells vs))

abbrev pub field_written : Tests → List (List ℕ) → (ℕ → Writer) → NameId → Option NumberType → Field → List ℕ → List ℕ → List ℕ → ℕ → ℕ → List ℕ → List Datum → Later → Written
field_written tests sets writers ty (Some t) f env places path i p cells vs go =
    parts_written tests t f.parts env places path i p cells vs (unit_then t f.parts path p go)
field_written tests sets writers ty None f env places path i p cells vs go = whole_written tests sets writers ty f env places path i p cells vs go

unfoldable pub fields_written : Tests → List (List ℕ) → (ℕ → Writer) → NameId → List Field → List ℕ → List ℕ → List ℕ → ℕ → ℕ → List ℕ → List Datum → Written
fields_written tests sets writers ty [] env places path i p cells [] = Done [] cells []
fields_written tests sets writers ty [] env places path i p cells (v ∷ vs) = Refused Shape path
fields_written tests sets writers ty (f ∷ later) env places path i p cells vs =
    field_written tests sets writers ty (unit_type f.element f.extent) f env places path i p cells vs
    (λ env i p cells vs. fields_written tests sets writers ty later env places path i p cells vs)

-- how many values a field has: a unit one for each of its bit fields
abbrev pub value_count : Option NumberType → List Part → ℕ
value_count None parts = 1
value_count (Some t) parts = length parts

abbrev pub values_count : List Field → ℕ
values_count [] = 0
values_count (f ∷ fs) = value_count (unit_type f.element f.extent) f.parts + values_count fs

-- Definitions

-- as many values as the fields have
abbrev pub is_count : List Field → List Datum → Bool
is_count fields vs = nat_eq (length vs) (values_count fields)

-- the fields of the case that was chosen
abbrev pub chosen_written : Tests → List (List ℕ) → (ℕ → Writer) → NameId → Option (List Field) → List ℕ → List ℕ → List ℕ → ℕ → List ℕ → List Datum → Written
chosen_written tests sets writers ty None env places path p cells vs = Refused (Broken Impossible) path
chosen_written tests sets writers ty (Some fields) env places path p cells vs =
    wanted (is_count fields vs) Shape path (fields_written tests sets writers ty fields env places path 0 p cells vs)

-- a struct's values are counted before its `where`, a case's after it
abbrev pub body_written : Tests → List (List ℕ) → (ℕ → Writer) → TypeDef → Body → List ℕ → List ℕ → List ℕ → ℕ → List ℕ → List Datum → Written
body_written tests sets writers d (Struct fields) env places path p cells vs =
    wanted (is_count fields vs) Shape path
    (tested (tests.guarded d.guard env p p cells).ending path
    (λ cells. fields_written tests sets writers d.name fields env places path 0 p cells vs))
body_written tests sets writers d (Casetype switch cases default) env places path p cells vs =
    tested (tests.guarded d.guard env p p cells).ending path
    (λ cells. chosen_written tests sets writers d.name (case_for (tests.value switch env) cases default) env places path p cells vs)

abbrev pub listed_written : Tests → List (List ℕ) → (ℕ → Writer) → TypeDef → Writer
listed_written tests sets writers d env places cells path p (Number n) = Refused Shape path
listed_written tests sets writers d env places cells path p (Sequence vs) = body_written tests sets writers d d.body env places path p cells (list_of vs)
listed_written tests sets writers d env places cells path p (Bytes bytes) = Refused Shape path
listed_written tests sets writers d env places cells path p Empty = Refused Shape path

-- where there is no definition nothing is possible
abbrev pub nothing_written : Writer
nothing_written env places cells path p v = Refused (Broken Impossible) path

abbrev pub definition_written : Tests → List (List ℕ) → (ℕ → Writer) → Option TypeDef → Writer
definition_written tests sets writers None = nothing_written
definition_written tests sets writers (Some d) = listed_written tests sets writers d

-- of the definitions below n
unfoldable pub writers_below : Tests → List (List ℕ) → List TypeDef → ℕ → ℕ → Writer
writers_below tests sets definitions zero j = nothing_written
writers_below tests sets definitions (suc n) j =
    pick (nat_eq j n) (definition_written tests sets (writers_below tests sets definitions n) (slice_get definitions n)) (writers_below tests sets definitions n j)

-- how a value is written by an entry point's type
abbrev pub writing : Tests → Module → Entry → List ℕ → List ℕ → Datum → Written
writing tests m entry args cells v =
    settled 0 (writers_below tests m.listed m.definitions (length m.definitions) (entry_place (slice_get m.entries entry.number) (length m.definitions)) args (places_from 0 (length cells)) cells [] 0 v)
