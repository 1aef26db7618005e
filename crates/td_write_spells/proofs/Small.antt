-- What spells a value are bytes. Cited by other crates.
use Rattle.std.proofs.Common.{◌≡◌, ℕ, zero, suc, ◌+◌, ◌/◌, ◌%◌, ◌<◌, Bool, true, false, List, [], ◌∷◌, ◌++◌, length, map, refl, sym, ap, subst, arith, Option, Some, None, slice_get, ◌^◌, ◌*◌}
use Rattle.std.specs.Prelude.{nat_eq, replicate, slice_index}
use Rattle.std.specs.List.{All}
use Rattle.std.proofs.lemmas.Option.{none-some, same_Some}
use Rattle.std.proofs.lemmas.List.Elements.{All-nil, All-cons, All-append}
use Rattle.std.proofs.lemmas.Nat.{mod_below}
use Rattle.td_num.specs.Numbers.{bytes_in, byte_of, places_from}
use Rattle.td_write_spells.specs.Imports.{ByteOrder, LittleEndian, BigEndian, NumberType, Element, Extent, Once, Filling, OnceFilling, UpToZero, Given, Source, Expression, FromCell, Left, Part, Field, TypeDef}
use Rattle.td_core.specs.declared.module.Element.TheVariants as element
use Rattle.td_meaning.specs.Doing.{natural_of}
use Rattle.td_meaning.specs.Meaning.{values, extended, pick, entry_place}
use Rattle.td_write_values.specs.Datum.{Datum, Data, Number, Sequence, Bytes, Empty, End, More, list_of}
use Rattle.td_write_values.specs.Bytes.{rising_bytes, falling_bytes, ordered_bytes, number_bytes, fits, is_byte, unit_type, unit_number, makes_unit}
use Rattle.td_write_values.specs.Spelling.{Spelled, Spelling, Next, bytes_alone, only, behind, sized, ended, bytes_of, spelled_number, spelled_bytes, spelled_zeros, spelled_unit, spelled_element, is_some_size, spelled_items, spelled_list, spelled_contents, ends_in_zero, spelled_up_to_zero, spelled_zero_ended, spelled_left, spelled_source, spelled_given, fills, fills_once, spelled_copied, spelled_shape, after_parts, number_in, part_numbers, with_number, spelled_parts, spelled_field, spelled_fields, body_fields, spelled_chosen, spelled_definition, spells_below}
use Rattle.td_write_spells.specs.Laws.{HoldsBytes, HoldBytes, SpelledAreBytes}
use Rattle.td_write_spells.proofs.Told.{behind_some, joined_some, only_some, sized_some, ended_some, copied_some}
use Rattle.td_write_spells.proofs.Parts.{with_some}

abbrev IsByte : ℕ → Type 0
IsByte b = b < 256

abbrev Small : List ℕ → Type 0
Small bytes = All (λ b. b < 256) bytes

same_small : (x a : Spelled) → Some x ≡ Some a → Small x.bytes → Small a.bytes
same_small x a e h = subst (λ (y : Spelled). Small y.bytes) (same_Some x a e) h

-- ---- numbers

rising_small : (w n : ℕ) → Small (rising_bytes w n)
rising_small zero n = All-nil IsByte
rising_small (suc w) n = All-cons IsByte (n % 256) (rising_bytes w (n / 256)) (mod_below n 256 (omega arith)) (rising_small w (n / 256))

falling_small : (w n : ℕ) → Small (falling_bytes w n)
falling_small zero n = All-nil IsByte
falling_small (suc w) n = All-cons IsByte (byte_of n w) (falling_bytes w n) (mod_below (n / 2 ^ (8 * w)) 256 (omega arith)) (falling_small w n)

ordered_small : (order : ByteOrder) (w n : ℕ) → Small (ordered_bytes order w n)
ordered_small LittleEndian w n = rising_small w n
ordered_small BigEndian w n = falling_small w n

number_small : (t : NumberType) (n : ℕ) → Small (number_bytes t n)
number_small t n = ordered_small t.order (bytes_in t.width) n

zeros_small : (n : ℕ) → Small (replicate n 0)
zeros_small zero = All-nil IsByte
zeros_small (suc n) = All-cons IsByte 0 (replicate n 0) (omega arith) (zeros_small n)

of_number : (t : NumberType) (cells : List ℕ) (v : Datum) (a : Spelled) → spelled_number t cells v ≡ Some a → Small a.bytes
of_number t cells (Number n) a e =
    let own = bytes_alone (number_bytes t n) cells in
    same_small own a (only_some (fits t None n) (Some own) a e).1 (number_small t n)
of_number t cells (Sequence vs) a e = absurd (none-some a e)
of_number t cells (Bytes bytes) a e = absurd (none-some a e)
of_number t cells Empty a e = absurd (none-some a e)

of_bytes : (cells : List ℕ) (v : Datum) (a : Spelled) → HoldsBytes v → spelled_bytes cells v ≡ Some a → Small a.bytes
of_bytes cells (Number n) a h e = absurd (none-some a e)
of_bytes cells (Sequence vs) a h e = absurd (none-some a e)
of_bytes cells (Bytes bytes) a h e = same_small (bytes_alone bytes cells) a e h
of_bytes cells Empty a h e = absurd (none-some a e)

of_zeros : (cells : List ℕ) (v : Datum) (a : Spelled) → spelled_zeros cells v ≡ Some a → Small a.bytes
of_zeros cells (Number n) a e = same_small (bytes_alone (replicate n 0) cells) a e (zeros_small n)
of_zeros cells (Sequence vs) a e = absurd (none-some a e)
of_zeros cells (Bytes bytes) a e = absurd (none-some a e)
of_zeros cells Empty a e = absurd (none-some a e)

of_unit : (cells : List ℕ) (v : Datum) (a : Spelled) → spelled_unit cells v ≡ Some a → Small a.bytes
of_unit cells (Number n) a e = absurd (none-some a e)
of_unit cells (Sequence vs) a e = absurd (none-some a e)
of_unit cells (Bytes bytes) a e = absurd (none-some a e)
of_unit cells Empty a e = same_small (bytes_alone [] cells) a e (All-nil IsByte)

of_left : (t : NumberType) (p : ℕ) (cells : List ℕ) (v : Datum) (a : Spelled) → spelled_left t p cells v ≡ Some a → Small a.bytes
of_left t p cells (Number n) a e =
    let own : Spelled = record { bytes = []; cells = cells; ends = (p + n) ∷ [] } in
    same_small own a (only_some (fits t None n) (Some own) a e).1 (All-nil IsByte)
of_left t p cells (Sequence vs) a e = absurd (none-some a e)
of_left t p cells (Bytes bytes) a e = absurd (none-some a e)
of_left t p cells Empty a e = absurd (none-some a e)

of_source : (t : NumberType) (s : Source) (p : ℕ) (cells : List ℕ) (v : Datum) (a : Spelled) → spelled_source t s p cells v ≡ Some a → Small a.bytes
of_source t (Expression span x) p cells v a e = of_unit cells v a e
of_source t (FromCell cell) p cells v a e = of_unit cells v a e
of_source t Left p cells v a e = of_left t p cells v a e

of_given : (element : Element) (s : Source) (p : ℕ) (cells : List ℕ) (v : Datum) (a : Spelled) → spelled_given element s p cells v ≡ Some a → Small a.bytes
of_given (element.Number t) s p cells v a e = of_source t s p cells v a e
of_given (element.Listed base k) s p cells v a e = absurd (none-some a e)
of_given (element.Named j args own) s p cells v a e = absurd (none-some a e)
of_given element.Unit s p cells v a e = absurd (none-some a e)
of_given element.Rest s p cells v a e = absurd (none-some a e)
of_given element.Zeros s p cells v a e = absurd (none-some a e)

-- ---- lists

abbrev Hold : List Datum → Type 0
Hold [] = Unit {0}
Hold (v ∷ vs) = HoldsBytes v × Hold vs

held : (vs : Data) → HoldBytes vs → Hold (list_of vs)
held End h = tt
held (More v vs) h = (h.0, held vs h.1)

-- of what spells a value anywhere
abbrev Each : (ℕ → List ℕ → Datum → Option Spelled) → Type 0
Each each = (p : ℕ) (cells : List ℕ) (v : Datum) (a : Spelled) → HoldsBytes v → each p cells v ≡ Some a → Small a.bytes

of_items : (each : ℕ → List ℕ → Datum → Option Spelled) → Each each
    → (p : ℕ) (cells : List ℕ) (vs : List Datum) (a : Spelled) → Hold vs → spelled_items each p cells vs ≡ Some a → Small a.bytes
unfolding spelled_items
of_items each good p cells [] a h e = same_small (bytes_alone [] cells) a e (All-nil IsByte)
of_items each good p cells (v ∷ vs) a h e =
    let j = joined_some (sized is_some_size (each p cells v)) p (λ q cells. spelled_items each q cells vs) a e in
    let x : Spelled = j.0 in
    let u : Spelled = j.1 in
    let first = good p cells v x h.0 (sized_some is_some_size (each p cells v) x j.2).0 in
    subst Small (sym j.4.bytes) (All-append IsByte x.bytes u.bytes first (of_items each good (p + length x.bytes) x.cells vs u h.1 j.3))

of_list : (each : ℕ → List ℕ → Datum → Option Spelled) → Each each
    → (p : ℕ) (cells : List ℕ) (v : Datum) (a : Spelled) → HoldsBytes v → spelled_list each p cells v ≡ Some a → Small a.bytes
of_list each good p cells (Number n) a h e = absurd (none-some a e)
of_list each good p cells (Sequence vs) a h e = of_items each good p cells (list_of vs) a (held vs h) e
of_list each good p cells (Bytes bytes) a h e = absurd (none-some a e)
of_list each good p cells Empty a h e = absurd (none-some a e)

up_to_zero : (t : NumberType) (p : ℕ) (cells : List ℕ) (v : Datum) (a : Spelled) → HoldsBytes v → spelled_up_to_zero t p cells v ≡ Some a → Small a.bytes
up_to_zero t p cells (Number n) a h e = absurd (none-some a e)
up_to_zero t p cells (Sequence vs) a h e =
    let each = λ (q : ℕ) (cells : List ℕ) (v : Datum). spelled_number t cells v in
    of_items each (λ q cells v a h e. of_number t cells v a e) p cells (list_of vs) a (held vs h) (only_some (ends_in_zero (list_of vs)) (spelled_items each p cells (list_of vs)) a e).1
up_to_zero t p cells (Bytes bytes) a h e = absurd (none-some a e)
up_to_zero t p cells Empty a h e = absurd (none-some a e)

zero_ended : (element : Element) (p : ℕ) (cells : List ℕ) (v : Datum) (a : Spelled) → HoldsBytes v → spelled_zero_ended element p cells v ≡ Some a → Small a.bytes
zero_ended (element.Number t) p cells v a h e = up_to_zero t p cells v a h e
zero_ended (element.Listed base k) p cells v a h e = absurd (none-some a e)
zero_ended (element.Named j args own) p cells v a h e = absurd (none-some a e)
zero_ended element.Unit p cells v a h e = absurd (none-some a e)
zero_ended element.Rest p cells v a h e = absurd (none-some a e)
zero_ended element.Zeros p cells v a h e = absurd (none-some a e)

-- ---- fields

-- the values after those of a unit's parts
rest_held : (t : NumberType) (parts : List Part) (vs : List Datum) (ns : List ℕ) (rest : List Datum) → Hold vs → part_numbers t parts vs ≡ Some (ns, rest) → Hold rest
rest_held t [] vs ns rest h e =
    let g : ([], vs) ≡ (ns, rest) = same_Some ([], vs) (ns, rest) e in
    subst Hold (ap (λ x. x.1) g) h
rest_held t (part ∷ parts) [] ns rest h e = absurd (none-some (ns, rest) e)
rest_held t (part ∷ parts) (Number n ∷ vs) ns rest h e =
    let m = with_some n (part_numbers t parts vs) ns rest (only_some (fits t part.bits n) (with_number n (part_numbers t parts vs)) (ns, rest) e).1 in
    rest_held t parts vs m.0 rest h.1 m.1
rest_held t (part ∷ parts) (Sequence ws ∷ vs) ns rest h e = absurd (none-some (ns, rest) e)
rest_held t (part ∷ parts) (Bytes bytes ∷ vs) ns rest h e = absurd (none-some (ns, rest) e)
rest_held t (part ∷ parts) (Empty ∷ vs) ns rest h e = absurd (none-some (ns, rest) e)

of_parts : (t : NumberType) (parts : List Part) (env places : List ℕ) (p : ℕ) (cells : List ℕ) (x : Option (List ℕ × List Datum)) (go : Next) (a : Spelled)
    → ((n q : ℕ) (left ns : List ℕ) (rest : List Datum) (u : Spelled) → x ≡ Some (ns, rest) → go n q left rest ≡ Some u → Small u.bytes) → spelled_parts t parts env places p cells x go ≡ Some a → Small a.bytes
of_parts t parts env places p cells None go a good e = absurd (none-some a e)
of_parts t parts env places p cells (Some x) go a good e =
    let n = unit_number parts x.0 in
    let own = bytes_alone (number_bytes t n) (after_parts p n parts env places cells) in
    let q = p + length own.bytes in
    let later = go n q own.cells x.1 in
    let o = only_some (makes_unit t parts x.0) (behind own later) a e in
    let j = behind_some own later a o.1 in
    let u : Spelled = j.0 in
    subst Small (sym j.2.bytes) (All-append IsByte (number_bytes t n) u.bytes (number_small t n) (good n q own.cells x.0 x.1 u refl j.1))

module _ (spells : ℕ → Spelling) (good : (j : ℕ) (args places cells : List ℕ) (p : ℕ) (v : Datum) (a : Spelled) → HoldsBytes v → spells j args places cells p v ≡ Some a → Small a.bytes) where
  of_element : (element : Element) (env places : List ℕ) → Each (spelled_element spells element env places)
  of_element (element.Number t) env places p cells v a h e = of_number t cells v a e
  of_element (element.Listed base k) env places p cells v a h e = of_number base cells v a e
  of_element (element.Named j args own) env places p cells v a h e = good j (values args env) (map (slice_index places) own) cells p v a h e
  of_element element.Unit env places p cells v a h e = of_unit cells v a e
  of_element element.Rest env places p cells v a h e = of_bytes cells v a h e
  of_element element.Zeros env places p cells v a h e = of_zeros cells v a e

  of_contents : (element : Element) (env places : List ℕ) → Each (spelled_contents spells element env places)
  of_contents element env places p cells v a h e = by (is_byte element) e
    where
      by : (b : Bool) → pick b (spelled_bytes cells v) (spelled_list (spelled_element spells element env places) p cells v) ≡ Some a → Small a.bytes
      by true e = of_bytes cells v a h e
      by false e = of_list (spelled_element spells element env places) (of_element element env places) p cells v a h e

  -- what ends where its values say
  of_ended : (p : ℕ) (test : ℕ → Bool) (o : Option Spelled) (a : Spelled) → ((x : Spelled) → o ≡ Some x → Small x.bytes) → ended p (sized test o) ≡ Some a → Small a.bytes
  of_ended p test o a good e =
      let z = ended_some p (sized test o) a e in
      subst (λ (y : Spelled). Small y.bytes) z.3 (good z.0 (sized_some test o z.0 z.1).0)

  of_shape : (element : Element) (extent : Extent) (env places : List ℕ) → Each (spelled_shape spells element extent env places)
  of_shape element Once env places p cells v a h e = of_element element env places p cells v a h e
  of_shape element (Filling size step) env places p cells v a h e =
      of_ended p (fills step (natural_of size env)) (spelled_contents spells element env places p cells v) a (λ x g. of_contents element env places p cells v x h g) e
  of_shape element (OnceFilling size step) env places p cells v a h e =
      of_ended p (fills_once step (natural_of size env)) (spelled_element spells element env places p cells v) a (λ x g. of_element element env places p cells v x h g) e
  of_shape element (UpToZero size) env places p cells v a h e = zero_ended element p cells v a h e
  of_shape element (Given source) env places p cells v a h e = of_given element source p cells v a e

  of_fields : (fs : List Field) (env places : List ℕ) (p : ℕ) (cells : List ℕ) (vs : List Datum) (a : Spelled) → Hold vs → spelled_fields spells fs env places p cells vs ≡ Some a → Small a.bytes
  unfolding spelled_fields
  of_fields [] env places p cells [] a h e = same_small (bytes_alone [] cells) a e (All-nil IsByte)
  of_fields [] env places p cells (v ∷ vs) a h e = absurd (none-some a e)
  of_fields (f ∷ later) env places p cells vs a h e = by (unit_type f.element f.extent) vs h e (λ env q cells vs a h e. of_fields later env places q cells vs a h e)
    where
      by : (o : Option NumberType) (vs : List Datum) → Hold vs → spelled_field spells o f env places p cells vs (λ n q cells vs. spelled_fields spells later (extended env n f.parts) places q cells vs) ≡ Some a
          → ((env : List ℕ) (q : ℕ) (cells : List ℕ) (vs : List Datum) (a : Spelled) → Hold vs → spelled_fields spells later env places q cells vs ≡ Some a → Small a.bytes)
          → Small a.bytes
      by None [] h e next = absurd (none-some a e)
      by None (v ∷ vs) h e next =
          let n = number_in natural_of f.element f.extent env places cells v in
          let shape = spelled_shape spells f.element f.extent env places p cells v in
          let j = joined_some (spelled_copied f.copy places p shape) p (λ q cells. spelled_fields spells later (extended env n f.parts) places q (after_parts p n f.parts env places cells) vs) a e in
          let x : Spelled = j.0 in
          let u : Spelled = j.1 in
          let z = copied_some f.copy places p shape x j.2 in
          let first = subst Small z.2 (of_shape f.element f.extent env places p cells v z.0 h.0 z.1) in
          subst Small (sym j.4.bytes) (All-append IsByte x.bytes u.bytes first (next (extended env n f.parts) (p + length x.bytes) (after_parts p n f.parts env places x.cells) vs u h.1 j.3))
      by (Some t) vs h e next =
          of_parts t f.parts env places p cells (part_numbers t f.parts vs) (λ n q cells vs. spelled_fields spells later (extended env n f.parts) places q cells vs) a
          (λ n q left ns rest u numbers there. next (extended env n f.parts) q left rest u (rest_held t f.parts vs ns rest h numbers) there)
          e

  of_chosen : (o : Option (List Field)) (env places : List ℕ) (p : ℕ) (cells : List ℕ) (vs : List Datum) (a : Spelled) → Hold vs → spelled_chosen spells o env places p cells vs ≡ Some a → Small a.bytes
  of_chosen None env places p cells vs a h e = absurd (none-some a e)
  of_chosen (Some fields) env places p cells vs a h e = of_fields fields env places p cells vs a h e

  of_definition : (o : Option TypeDef) (args places cells : List ℕ) (p : ℕ) (v : Datum) (a : Spelled) → HoldsBytes v → spelled_definition spells o args places cells p v ≡ Some a → Small a.bytes
  of_definition None args places cells p v a h e = absurd (none-some a e)
  of_definition (Some d) args places cells p (Number n) a h e = absurd (none-some a e)
  of_definition (Some d) args places cells p (Sequence vs) a h e = of_chosen (body_fields d.body args) args places p cells (list_of vs) a (held vs h) e
  of_definition (Some d) args places cells p (Bytes bytes) a h e = absurd (none-some a e)
  of_definition (Some d) args places cells p Empty a h e = absurd (none-some a e)

below_small : (ds : List TypeDef) (n j : ℕ) (args places cells : List ℕ) (p : ℕ) (v : Datum) (a : Spelled) → HoldsBytes v → spells_below ds n j args places cells p v ≡ Some a → Small a.bytes
unfolding spells_below
below_small ds zero j args places cells p v a h e = absurd (none-some a e)
below_small ds (suc n) j args places cells p v a h e = by (nat_eq j n) e (below_small ds n)
  where
    by : (b : Bool) → pick b (spelled_definition (spells_below ds n) (slice_get ds n)) (spells_below ds n j) args places cells p v ≡ Some a
        → ((j : ℕ) (args places cells : List ℕ) (p : ℕ) (v : Datum) (a : Spelled) → HoldsBytes v → spells_below ds n j args places cells p v ≡ Some a → Small a.bytes) → Small a.bytes
    by true e below = of_definition (spells_below ds n) below (slice_get ds n) args places cells p v a h e
    by false e below = below j args places cells p v a h e

pub spelled_are_bytes : SpelledAreBytes
spelled_are_bytes m entry args cells v bytes h e =
    let n = length m.definitions in
    let j = entry_place (slice_get m.entries entry.number) n in
    let places = places_from 0 (length cells) in
    by (ended 0 (spells_below m.definitions n j args places cells 0 v)) refl e
  where
    by : (o : Option Spelled) → ended 0 (spells_below m.definitions (length m.definitions) (entry_place (slice_get m.entries entry.number) (length m.definitions)) args (places_from 0 (length cells)) cells 0 v) ≡ o → bytes_of o ≡ Some bytes → Small bytes
    by None is e = absurd (none-some bytes e)
    by (Some a) is e =
        let n = length m.definitions in
        let j = entry_place (slice_get m.entries entry.number) n in
        let places = places_from 0 (length cells) in
        let sp = spells_below m.definitions n j args places cells 0 v in
        let z = ended_some 0 sp a is in
        let own = subst (λ (y : Spelled). Small y.bytes) z.3 (below_small m.definitions n j args places cells 0 v z.0 h z.1) in
        subst Small (same_Some a.bytes bytes e) own
