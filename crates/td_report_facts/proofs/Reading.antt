-- Numbers of a JSON text that was read are of 64 bits.
use Rattle.std.proofs.Common.{◌≡◌, ℕ, ◌^◌, ◌<◌, List, [], Bool, true, false, ◌&&◌, nat_lt, Option, Some, None, refl, arith, option_map, option_and_then}
use Rattle.std.proofs.lemmas.Bool.Decides.{nat_tests}
use Rattle.std.proofs.lemmas.List.Elements.{All-nil, All-cons, All-append}
use Rattle.std.specs.List.{All}
use Rattle.std.proofs.Common.{Ordering, Less, Equal, Greater}
use Rattle.std.specs.Ordering.{nat_cmp, match_ordering}
use Rattle.std.specs.Cmp.Lexicographic.{slice_cmp}
use Rattle.std.specs.Float.{binary64, float_is_finite}
use Rattle.std.specs.Prelude.{IfSome, if◌then◌else◌, slice_index, drop, ◌==◌, nat_le}
use Rattle.fast_float.specs.Text.{minus, Parts, scan, digits_of, nearest, with_sign}
use Rattle.json.specs.Lex.{tokens}
use Rattle.json.specs.Json as json
use Rattle.serde_json.specs.Data.{Num, unsigned, negative, float, Data, null, boolean, number, string, array, object, Items, no_items, item, Members, no_members, member, put}
use Rattle.serde_json.specs.Find.{get_member, get, as_array}
use Rattle.serde_json.specs.Read.{is_integer, float_of, number_from, number_of, of_json, of_items, of_members, max_depth, read as read_text}
use Rattle.td_report_facts.specs.Imports.{Stretch, Key}
use Rattle.td_job.specs.Errors.{key_name}
use Rattle.td_job.specs.Fields.{Reads, field_of, whole}
use Rattle.td_job.specs.Stretches.{stretch_by, two_parts, spelled_stretch, stretch_of, each_stretch}

-- ---- data whose numbers are of 64 bits

abbrev pub SmallNumber : Num → Type 0
SmallNumber (unsigned n) = n < 2 ^ 64
SmallNumber (negative z) = Unit {0}
SmallNumber (float x) = Unit {0}

abbrev mutual
  pub Small : Data → Type 0
  Small null = Unit {0}
  Small (boolean b) = Unit {0}
  Small (number n) = SmallNumber n
  Small (string s) = Unit {0}
  Small (array ds) = SmallItems ds
  Small (object ms) = SmallMembers ms

  pub SmallItems : Items → Type 0
  SmallItems no_items = Unit {0}
  SmallItems (item d ds) = Small d × SmallItems ds

  pub SmallMembers : Members → Type 0
  SmallMembers no_members = Unit {0}
  SmallMembers (member k d ms) = Small d × SmallMembers ms

-- ---- a number

either : (b : Bool) (x y : Option Num) → IfSome x SmallNumber → IfSome y SmallNumber → IfSome (if b then x else y) SmallNumber
either true x y hx hy = hx
either false x y hx hy = hy

tested : (whole : Bool) (n : ℕ) (y : Option Num) → IfSome y SmallNumber → IfSome (if whole && nat_lt n (2 ^ 64) then Some (unsigned n) else y) SmallNumber
tested whole n y hy = by whole (nat_lt n (2 ^ 64)) refl
  where
    by : (a b : Bool) → nat_lt n (2 ^ 64) ≡ b → IfSome (if a && b then Some (unsigned n) else y) SmallNumber
    by true true e = grind (arith, nat_tests, e)
    by true false e = hy
    by false b e = hy

float_small : (sign : Bool) (p : Parts) → IfSome (float_of sign p) SmallNumber
float_small sign p = either (float_is_finite (nearest binary64 sign p)) (Some (float (nearest binary64 sign p))) None tt tt

from_small : (sign : Bool) (p : Parts) → IfSome (number_from sign p) SmallNumber
from_small false p = tested (is_integer p) (digits_of p) (float_of false p) (float_small false p)
from_small true p =
    either (is_integer p && nat_lt 0 (digits_of p) && nat_le (digits_of p) (2 ^ 63)) (Some (negative (with_sign true (digits_of p)))) (float_of true p) tt (float_small true p)

number_small : (s : List ℕ) → IfSome (number_of s) SmallNumber
unfolding number_of
number_small s =
    either (slice_index s 0 == minus) (number_from true (scan (drop 1 s))) (number_from false (scan s)) (from_small true (scan (drop 1 s))) (from_small false (scan s))

-- ---- a value

of_number : (o : Option Num) → IfSome o SmallNumber → IfSome (option_map number o) Small
of_number None h = tt
of_number (Some n) h = h

of_array : (o : Option Items) → IfSome o SmallItems → IfSome (option_map array o) Small
of_array None h = tt
of_array (Some ds) h = h

of_object : (o : Option Members) → IfSome o SmallMembers → IfSome (option_map object o) Small
of_object None h = tt
of_object (Some ms) h = h

of_item : (d : Data) (o : Option Items) → Small d → IfSome o SmallItems → IfSome (option_map (item d) o) SmallItems
of_item d None hd h = tt
of_item d (Some ds) hd h = (hd, h)

of_both : (o : Option Data) (p : Option Items) → IfSome o Small → IfSome p SmallItems → IfSome (option_and_then (λ d. option_map (item d) p) o) SmallItems
of_both None p ho hp = tt
of_both (Some d) p ho hp = of_item d p ho hp

ordered : {A : Type 0} (P : A → Type 0) (o : Ordering) (x y z : A) → P x → P y → P z → P (match_ordering o x y z)
ordered P Less x y z hx hy hz = hx
ordered P Equal x y z hx hy hz = hy
ordered P Greater x y z hx hy hz = hz

put_small : (k : List ℕ) (d : Data) (ms : Members) → Small d → SmallMembers ms → SmallMembers (put k d ms)
put_small k d no_members hd h = (hd, tt)
put_small k d (member l e ms) hd h =
    ordered SmallMembers (slice_cmp nat_cmp k l) (member k d (member l e ms)) (member l d ms) (member l e (put k d ms)) (hd, h) (hd, h.1) (h.0, put_small k d ms hd h.1)

of_next : (f : Data → Option Members) (o : Option Data) → IfSome o Small → ((d : Data) → Small d → IfSome (f d) SmallMembers) → IfSome (option_and_then f o) SmallMembers
of_next f None h then_ = tt
of_next f (Some d) h then_ = then_ d h

mutual
  json_small : (j : json.Json) → IfSome (of_json j) Small
  json_small json.null = tt
  json_small (json.boolean b) = tt
  json_small (json.number s) = of_number (number_of s) (number_small s)
  json_small (json.string s) = tt
  json_small (json.array js) = of_array (of_items js) (items_small js)
  json_small (json.object ms) = of_object (of_members ms no_members) (members_small ms no_members tt)

  items_small : (js : json.Items) → IfSome (of_items js) SmallItems
  items_small json.no_items = tt
  items_small (json.item j js) = of_both (of_json j) (of_items js) (json_small j) (items_small js)

  members_small : (ms : json.Members) (found : Members) → SmallMembers found → IfSome (of_members ms found) SmallMembers
  members_small json.no_members found h = h
  members_small (json.member k j ms) found h =
      of_next (λ d. of_members ms (put k d found)) (of_json j) (json_small j) (λ d small. members_small ms (put k d found) (put_small k d found small h))

of_text : (o : Option json.Json) → IfSome (option_and_then of_json o) Small
of_text None = tt
of_text (Some j) = json_small j

some_small : {A : Type 0} (P : A → Type 0) (o : Option A) (x : A) → IfSome o P → o ≡ Some x → P x
some_small P o x h e = rw e at h

-- numbers of a job are of 64 bits
pub read_small : (bytes : List ℕ) (job : Data) → Reads bytes job → Small job
read_small bytes job reads = some_small Small (read_text bytes) job (of_text (option_and_then (λ p. json.if_last p.0 p.1) (json.value max_depth (tokens bytes)))) reads.1

-- ---- looking into it

member_small : (k : List ℕ) (ms : Members) → SmallMembers ms → IfSome (get_member k ms) Small
member_small k no_members h = tt
member_small k (member l e ms) h = ordered (λ (o : Option Data). IfSome o Small) (slice_cmp nat_cmp k l) (get_member k ms) (Some e) (get_member k ms) (member_small k ms h.1) h.0 (member_small k ms h.1)

get_small : (k : List ℕ) (d : Data) → Small d → IfSome (get k d) Small
get_small k null h = tt
get_small k (boolean b) h = tt
get_small k (number n) h = tt
get_small k (string s) h = tt
get_small k (array ds) h = tt
get_small k (object ms) h = member_small k ms h

pub field_small : (k : Key) (d : Data) → Small d → IfSome (field_of k d) Small
field_small k d h = get_small (key_name k) d h

pub list_small : (d : Data) → Small d → IfSome (as_array d) SmallItems
list_small null h = tt
list_small (boolean b) h = tt
list_small (number n) h = tt
list_small (string s) h = tt
list_small (array ds) h = h
list_small (object ms) h = tt

whole_small : (d : Data) → Small d → IfSome (whole d) (λ n. n < 2 ^ 64)
whole_small null h = tt
whole_small (boolean b) h = tt
whole_small (number (unsigned n)) h = h
whole_small (number (negative z)) h = tt
whole_small (number (float x)) h = tt
whole_small (string s) h = tt
whole_small (array ds) h = tt
whole_small (object ms) h = tt

-- ---- stretches

-- a stretch that begins at a place of 64 bits
abbrev pub Low : Stretch → Type 0
Low s = s.place < 2 ^ 64

by_low : (place size : Option ℕ) → IfSome place (λ n. n < 2 ^ 64) → All Low (stretch_of (stretch_by place size))
by_low None size h = All-nil Low
by_low (Some place) None h = All-nil Low
by_low (Some place) (Some size) h = All-cons Low (record { place = place; size = size }) [] h (All-nil Low)

parts_low : (o : Option Items) → IfSome o SmallItems → All Low (stretch_of (option_and_then two_parts o))
parts_low None h = All-nil Low
parts_low (Some no_items) h = All-nil Low
parts_low (Some (item a no_items)) h = All-nil Low
parts_low (Some (item a (item b no_items))) h = by_low (whole a) (whole b) (whole_small a h.0)
parts_low (Some (item a (item b (item c others)))) h = All-nil Low

-- the stretches of such data do
pub stretches_low : (values : Items) → SmallItems values → All Low (each_stretch values)
stretches_low no_items h = All-nil Low
stretches_low (item value values) h = All-append Low (stretch_of (spelled_stretch value)) (each_stretch values) (parts_low (as_array value) (list_small value h.0)) (stretches_low values h.1)
