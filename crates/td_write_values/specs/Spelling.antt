-- Which bytes spell a value (own rule): by recursion on the type, with env, places and cells as the meaning has them at that
-- place p. At most one list of bytes spells a value by a type. None: the value has another shape, a number of it doesn't
-- fit, an array's bytes aren't as many as its size, or the bytes left aren't as many as the value says. Actions are done
-- for the cells alone: what they, `where`, refinements and enums say isn't looked at, for that is the meaning's.
use Rattle.std.specs.Prelude.{ℕ, zero, suc, ◌+◌, Bool, true, false, ◌&&◌, nat_eq, List, [], ◌∷◌, ◌++◌, length, map, replicate, Option, Some, None, slice_get, slice_index}
use Rattle.td_num.specs.Numbers.{bytes_in, places_from}
use Rattle.td_write_values.specs.Imports.{NumberType, Element, Extent, Once, Filling, OnceFilling, UpToZero, Given, Source, Expression, FromCell, Left, CopyOut, Part, Field, Body, Struct, Casetype, TypeDef, Module, Entry}
use Rattle.td_core.specs.Term.{Term, Deed}
use Rattle.td_core.specs.declared.module.Element.TheVariants as element
use Rattle.td_meaning.specs.Doing.{Effect, On, Returned, Aborted, doing, natural_of}
use Rattle.td_meaning.specs.Meaning.{values, divides, equals, with_copy, bits_of, extended, case_for, pick, entry_place}
use Rattle.td_write_values.specs.Datum.{Datum, Number, Sequence, Bytes, Empty, list_of}
use Rattle.td_write_values.specs.Bytes.{number_bytes, fits, is_byte, unit_type, unit_number, makes_unit}

-- what spells a value: its bytes, the cells behind it, and the ends that its numbers of bytes left say, which the bytes that
-- enclose it must have
pub record Spelled : Type 0 where
  pub bytes : List ℕ
  pub cells : List ℕ
  pub ends : List ℕ

-- of a definition, from its arguments, the places of its cells, the cells, and its place on
abbrev pub Spelling : Type 0
Spelling = List ℕ → List ℕ → List ℕ → ℕ → Datum → Option Spelled

-- where a test holds
abbrev pub only : {A : Type 0} → Bool → Option A → Option A
only true o = o
only false o = None

-- bytes that say no end
abbrev pub bytes_alone : List ℕ → List ℕ → Spelled
bytes_alone bytes cells = record { bytes = bytes; cells = cells; ends = [] }

abbrev pub behind : Spelled → Option Spelled → Option Spelled
behind a None = None
behind a (Some b) = Some (record { bytes = a.bytes ++ b.bytes; cells = b.cells; ends = a.ends ++ b.ends })

-- one from p on, and what follows it
abbrev pub joined : Option Spelled → ℕ → (ℕ → List ℕ → Option Spelled) → Option Spelled
joined None p go = None
joined (Some a) p go = behind a (go (p + length a.bytes) a.cells)

-- bytes whose number passes a test
abbrev pub sized : (ℕ → Bool) → Option Spelled → Option Spelled
sized test None = None
sized test (Some a) = only (test (length a.bytes)) (Some a)

abbrev pub all_at : ℕ → List ℕ → Bool
all_at end [] = true
all_at end (e ∷ es) = nat_eq e end && all_at end es

-- bytes from p on that end where their values say
abbrev pub ended : ℕ → Option Spelled → Option Spelled
ended p None = None
ended p (Some a) = only (all_at (p + length a.bytes) a.ends) (Some (bytes_alone a.bytes a.cells))

-- Numbers and bytes

abbrev pub spelled_number : NumberType → List ℕ → Datum → Option Spelled
spelled_number t cells (Number n) = only (fits t None n) (Some (bytes_alone (number_bytes t n) cells))
spelled_number t cells (Sequence vs) = None
spelled_number t cells (Bytes bytes) = None
spelled_number t cells Empty = None

abbrev pub spelled_bytes : List ℕ → Datum → Option Spelled
spelled_bytes cells (Number n) = None
spelled_bytes cells (Sequence vs) = None
spelled_bytes cells (Bytes bytes) = Some (bytes_alone bytes cells)
spelled_bytes cells Empty = None

-- so many zeros
abbrev pub spelled_zeros : List ℕ → Datum → Option Spelled
spelled_zeros cells (Number n) = Some (bytes_alone (replicate n 0) cells)
spelled_zeros cells (Sequence vs) = None
spelled_zeros cells (Bytes bytes) = None
spelled_zeros cells Empty = None

abbrev pub spelled_unit : List ℕ → Datum → Option Spelled
spelled_unit cells (Number n) = None
spelled_unit cells (Sequence vs) = None
spelled_unit cells (Bytes bytes) = None
spelled_unit cells Empty = Some (bytes_alone [] cells)

-- Elements

abbrev pub spelled_element : (ℕ → Spelling) → Element → List ℕ → List ℕ → ℕ → List ℕ → Datum → Option Spelled
spelled_element spells (element.Number t) env places p cells v = spelled_number t cells v
spelled_element spells (element.Listed base k) env places p cells v = spelled_number base cells v
spelled_element spells (element.Named j args own) env places p cells v = spells j (values args env) (map (slice_index places) own) cells p v
spelled_element spells element.Unit env places p cells v = spelled_unit cells v
spelled_element spells element.Rest env places p cells v = spelled_bytes cells v
spelled_element spells element.Zeros env places p cells v = spelled_zeros cells v

-- Arrays

-- at least one
abbrev pub is_some_size : ℕ → Bool
is_some_size zero = false
is_some_size (suc n) = true

-- one after the other, each of a byte at least (as each is in an array of a text's module)
unfoldable pub spelled_items : (ℕ → List ℕ → Datum → Option Spelled) → ℕ → List ℕ → List Datum → Option Spelled
spelled_items each p cells [] = Some (bytes_alone [] cells)
spelled_items each p cells (v ∷ vs) = joined (sized is_some_size (each p cells v)) p (λ q cells. spelled_items each q cells vs)

abbrev pub spelled_list : (ℕ → List ℕ → Datum → Option Spelled) → ℕ → List ℕ → Datum → Option Spelled
spelled_list each p cells (Number n) = None
spelled_list each p cells (Sequence vs) = spelled_items each p cells (list_of vs)
spelled_list each p cells (Bytes bytes) = None
spelled_list each p cells Empty = None

-- what stands in a byte-sized array: of `UINT8` bytes, of anything else a list
abbrev pub spelled_contents : (ℕ → Spelling) → Element → List ℕ → List ℕ → ℕ → List ℕ → Datum → Option Spelled
spelled_contents spells element env places p cells v =
    pick (is_byte element) (spelled_bytes cells v) (spelled_list (spelled_element spells element env places) p cells v)

abbrev pub is_zero : Datum → Bool
is_zero (Number n) = nat_eq n 0
is_zero (Sequence vs) = false
is_zero (Bytes bytes) = false
is_zero Empty = false

abbrev pub is_empty : {A : Type 0} → List A → Bool
is_empty [] = true
is_empty (x ∷ xs) = false

-- the first zero is there, and is the last value
abbrev pub ends_in_zero : List Datum → Bool
ends_in_zero [] = false
ends_in_zero (v ∷ vs) = pick (is_zero v) (is_empty vs) (ends_in_zero vs)

abbrev pub spelled_up_to_zero : NumberType → ℕ → List ℕ → Datum → Option Spelled
spelled_up_to_zero t p cells (Number n) = None
spelled_up_to_zero t p cells (Sequence vs) = only (ends_in_zero (list_of vs)) (spelled_items (λ q cells v. spelled_number t cells v) p cells (list_of vs))
spelled_up_to_zero t p cells (Bytes bytes) = None
spelled_up_to_zero t p cells Empty = None

-- only numbers stand in arrays up to a zero
abbrev pub spelled_zero_ended : Element → ℕ → List ℕ → Datum → Option Spelled
spelled_zero_ended (element.Number t) p cells v = spelled_up_to_zero t p cells v
spelled_zero_ended (element.Listed base k) p cells v = None
spelled_zero_ended (element.Named j args own) p cells v = None
spelled_zero_ended element.Unit p cells v = None
spelled_zero_ended element.Rest p cells v = None
spelled_zero_ended element.Zeros p cells v = None

-- Fields without bytes: the value of one that counts the bytes left is their number, and of any other nothing

abbrev pub spelled_left : NumberType → ℕ → List ℕ → Datum → Option Spelled
spelled_left t p cells (Number n) = only (fits t None n) (Some (record { bytes = []; cells = cells; ends = (p + n) ∷ [] }))
spelled_left t p cells (Sequence vs) = None
spelled_left t p cells (Bytes bytes) = None
spelled_left t p cells Empty = None

abbrev pub spelled_source : NumberType → Source → ℕ → List ℕ → Datum → Option Spelled
spelled_source t (Expression span e) p cells v = spelled_unit cells v
spelled_source t (FromCell cell) p cells v = spelled_unit cells v
spelled_source t Left p cells v = spelled_left t p cells v

-- only numbers have no bytes
abbrev pub spelled_given : Element → Source → ℕ → List ℕ → Datum → Option Spelled
spelled_given (element.Number t) source p cells v = spelled_source t source p cells v
spelled_given (element.Listed base k) source p cells v = None
spelled_given (element.Named j args own) source p cells v = None
spelled_given element.Unit source p cells v = None
spelled_given element.Rest source p cells v = None
spelled_given element.Zeros source p cells v = None

-- Shapes

-- a byte-sized array's bytes are as many as its size, which its elements' constant size divides; a single element's are
-- too, and its constant size is that
abbrev pub fills : Option ℕ → ℕ → ℕ → Bool
fills step n k = divides step n && nat_eq k n

abbrev pub fills_once : Option ℕ → ℕ → ℕ → Bool
fills_once step n k = equals step n && nat_eq k n

abbrev pub spelled_shape : (ℕ → Spelling) → Element → Extent → List ℕ → List ℕ → ℕ → List ℕ → Datum → Option Spelled
spelled_shape spells element Once env places p cells v = spelled_element spells element env places p cells v
spelled_shape spells element (Filling size step) env places p cells v =
    ended p (sized (fills step (natural_of size env)) (spelled_contents spells element env places p cells v))
spelled_shape spells element (OnceFilling size step) env places p cells v =
    ended p (sized (fills_once step (natural_of size env)) (spelled_element spells element env places p cells v))
spelled_shape spells element (UpToZero size) env places p cells v = spelled_zero_ended element p cells v
spelled_shape spells element (Given source) env places p cells v = spelled_given element source p cells v

-- the cells after n bytes from p on of a field: where it is copied, their place and their number stand in two of them
abbrev pub noted : Option CopyOut → List ℕ → ℕ → ℕ → List ℕ → List ℕ
noted None places p n cells = cells
noted (Some c) places p n cells = with_copy c places p n cells

abbrev pub spelled_copied : Option CopyOut → List ℕ → ℕ → Option Spelled → Option Spelled
spelled_copied copy places p None = None
spelled_copied copy places p (Some a) = Some (record { bytes = a.bytes; cells = noted copy places p (length a.bytes) a.cells; ends = a.ends })

-- Actions: the cells as an action leaves them, however it ends

abbrev pub left_by : Effect → List ℕ
left_by (On cells) = cells
left_by (Returned value cells) = cells
left_by (Aborted cells) = cells

abbrev pub after_action : Option Deed → List ℕ → List ℕ → ℕ → List ℕ → List ℕ
after_action None env places start cells = cells
after_action (Some action) env places start cells = left_by (doing action (env ++ start ∷ []) places cells)

-- by those of a number's parts
abbrev pub after_parts : ℕ → ℕ → List Part → List ℕ → List ℕ → List ℕ → List ℕ
after_parts start n [] env places cells = cells
after_parts start n (part ∷ parts) env places cells =
    let env = env ++ bits_of part.bits n ∷ [] in
    after_parts start n parts env places (after_action part.action env places start cells)

-- Fields: a struct's list has one value for each field, also for each bit field of a unit

-- the number of a field without bytes, by what gives an expression's value
abbrev pub source_number : (Term → List ℕ → ℕ) → Source → List ℕ → List ℕ → List ℕ → Datum → ℕ
source_number value (Expression span e) env places cells v = value e env
source_number value (FromCell cell) env places cells v = slice_index cells (slice_index places cell)
source_number value Left env places cells (Number n) = n
source_number value Left env places cells v = 0

-- the number of an enum or of a field without bytes, which its refinement and action see; else 0
abbrev pub number_in : (Term → List ℕ → ℕ) → Element → Extent → List ℕ → List ℕ → List ℕ → Datum → ℕ
number_in value (element.Listed base k) Once env places cells (Number n) = n
number_in value (element.Number t) (Given source) env places cells v = source_number value source env places cells v
number_in value element extent env places cells v = 0

-- the numbers of a unit's parts, each in its range, and the values after them
abbrev pub with_number : ℕ → Option (List ℕ × List Datum) → Option (List ℕ × List Datum)
with_number n None = None
with_number n (Some x) = Some (n ∷ x.0, x.1)

abbrev pub part_numbers : NumberType → List Part → List Datum → Option (List ℕ × List Datum)
part_numbers t [] vs = Some ([], vs)
part_numbers t (part ∷ parts) [] = None
part_numbers t (part ∷ parts) (Number n ∷ vs) = only (fits t part.bits n) (with_number n (part_numbers t parts vs))
part_numbers t (part ∷ parts) (Sequence ws ∷ vs) = None
part_numbers t (part ∷ parts) (Bytes bytes ∷ vs) = None
part_numbers t (part ∷ parts) (Empty ∷ vs) = None

-- what follows a field: with its number, the place behind it, the cells, and the values left
abbrev pub Next : Type 0
Next = ℕ → ℕ → List ℕ → List Datum → Option Spelled

-- a unit's bytes, and what follows
abbrev pub spelled_parts : NumberType → List Part → List ℕ → List ℕ → ℕ → List ℕ → Option (List ℕ × List Datum) → Next → Option Spelled
spelled_parts t parts env places p cells None go = None
spelled_parts t parts env places p cells (Some x) go =
    let n = unit_number parts x.0 in
    only (makes_unit t parts x.0)
    (joined (Some (bytes_alone (number_bytes t n) (after_parts p n parts env places cells))) p (λ q cells. go n q cells x.1))

-- any other field's bytes, and what follows
abbrev pub spelled_whole : (ℕ → Spelling) → Field → List ℕ → List ℕ → ℕ → List ℕ → List Datum → Next → Option Spelled
spelled_whole spells f env places p cells [] go = None
spelled_whole spells f env places p cells (v ∷ vs) go =
    let n = number_in natural_of f.element f.extent env places cells v in
    joined (spelled_copied f.copy places p (spelled_shape spells f.element f.extent env places p cells v)) p
    (λ q cells. go n q (after_parts p n f.parts env places cells) vs)

abbrev pub spelled_field : (ℕ → Spelling) → Option NumberType → Field → List ℕ → List ℕ → ℕ → List ℕ → List Datum → Next → Option Spelled
spelled_field spells (Some t) f env places p cells vs go = spelled_parts t f.parts env places p cells (part_numbers t f.parts vs) go
spelled_field spells None f env places p cells vs go = spelled_whole spells f env places p cells vs go

unfoldable pub spelled_fields : (ℕ → Spelling) → List Field → List ℕ → List ℕ → ℕ → List ℕ → List Datum → Option Spelled
spelled_fields spells [] env places p cells [] = Some (bytes_alone [] cells)
spelled_fields spells [] env places p cells (v ∷ vs) = None
spelled_fields spells (f ∷ later) env places p cells vs =
    spelled_field spells (unit_type f.element f.extent) f env places p cells vs
    (λ n q cells vs. spelled_fields spells later (extended env n f.parts) places q cells vs)

-- Definitions

abbrev pub body_fields : Body → List ℕ → Option (List Field)
body_fields (Struct fields) env = Some fields
body_fields (Casetype switch cases default) env = case_for (natural_of switch env) cases default

abbrev pub spelled_chosen : (ℕ → Spelling) → Option (List Field) → List ℕ → List ℕ → ℕ → List ℕ → List Datum → Option Spelled
spelled_chosen spells None env places p cells vs = None
spelled_chosen spells (Some fields) env places p cells vs = spelled_fields spells fields env places p cells vs

abbrev pub spelled_body : (ℕ → Spelling) → Body → Spelling
spelled_body spells body env places cells p (Number n) = None
spelled_body spells body env places cells p (Sequence vs) = spelled_chosen spells (body_fields body env) env places p cells (list_of vs)
spelled_body spells body env places cells p (Bytes bytes) = None
spelled_body spells body env places cells p Empty = None

abbrev pub nothing_spelled : Spelling
nothing_spelled env places cells p v = None

abbrev pub spelled_definition : (ℕ → Spelling) → Option TypeDef → Spelling
spelled_definition spells None = nothing_spelled
spelled_definition spells (Some d) = spelled_body spells d.body

-- of the definitions below n
unfoldable pub spells_below : List TypeDef → ℕ → ℕ → Spelling
spells_below definitions zero j = nothing_spelled
spells_below definitions (suc n) j =
    pick (nat_eq j n) (spelled_definition (spells_below definitions n) (slice_get definitions n)) (spells_below definitions n j)

abbrev pub bytes_of : Option Spelled → Option (List ℕ)
bytes_of None = None
bytes_of (Some a) = Some a.bytes

-- the bytes that spell a value by an entry point's type, from these cells
abbrev pub spelling : Module → Entry → List ℕ → List ℕ → Datum → Option (List ℕ)
spelling m entry args cells v =
    bytes_of (ended 0 (spells_below m.definitions (length m.definitions) (entry_place (slice_get m.entries entry.number) (length m.definitions)) args (places_from 0 (length cells)) cells 0 v))
