-- The number that a field's parts see.
use Rattle.std.proofs.Common.{◌≡◌, ℕ, zero, ◌+◌, ◌-◌, ◌≤◌, Bool, true, false, List, [], ◌∷◌, refl, sym, subst, arith, Option, Some, None, slice_index}
use Rattle.std.specs.Prelude.{int_lt, pos}
use Rattle.std.proofs.lemmas.Bool.{leb-true}
use Rattle.std.proofs.lemmas.Option.{none-some}
use Rattle.td_num.specs.Numbers.{bytes_in}
use Rattle.td_num.specs.declared.number.NumberType.{NumberType}
use Rattle.td_num.specs.Lists.{is_among}
use Rattle.td_core.specs.declared.module.Element.{Element}
use Rattle.td_core.specs.declared.module.Element.TheVariants as element
use Rattle.td_core.specs.declared.module.Extent.{Extent}
use Rattle.td_core.specs.declared.module.Extent.TheVariants.{Once, Filling, OnceFilling, UpToZero, Given}
use Rattle.td_core.specs.declared.module.Source.{Source}
use Rattle.td_core.specs.declared.module.Source.TheVariants.{Expression, Cell as FromCell, Left}
use Rattle.td_core.specs.declared.module.Bits.{Bits}
use Rattle.td_core.specs.Formed.{Bound, AllFit, IsSourceFormed, IsExtentFormed, bits_bound, part_bound}
use Rattle.td_expr.specs.Facts.{Fact}
use Rattle.td_expr.specs.Safe.{first_unsafe}
use Rattle.td_expr.proofs.Admitting.{neither}
use Rattle.td_meaning.specs.Doing.{natural_of}
use Rattle.td_meaning.specs.Words64 as words64
use Rattle.td_meaning.specs.Meaning.{values_of, bits_of}
use Rattle.td_meaning.proofs.Values64.{natural_is}
use Rattle.td_arith.specs.SafeModule.{value_range, value_unsafe, source_unsafe, extent_unsafe, given_range}
use Rattle.td_arith.proofs.Fitting.{Stand}
use Rattle.td_arith.proofs.States.{State, sound}
use Rattle.td_arith.proofs.Numbers.{bits_small, no_bits}
use Rattle.td_arith.proofs.Given.{IsTold, source_fits, extent_told}
use Rattle.td_write_values.specs.declared.error.WriteRule.TheVariants.{Range, Long}
use Rattle.td_write_values.specs.Datum.{Datum, Number, Sequence, Bytes, Empty}
use Rattle.td_write_values.specs.Bytes.{number_bytes, fits, unit_type}
use Rattle.td_write_values.specs.Spelling.{source_number, number_in}
use Rattle.td_write_values.specs.Writing.{Claim, Done, Writer, wanted, has_room, left_written, source_written, of_enum, shape_written, whole}

-- it is in their range, where its value was written, and what the rule knows of it holds
pub record NumberFits (facts : List Fact) (e : Element) (x : Extent) (n : ℕ) : Type 0 where
  pub small : (bits : Option Bits) → bits_of bits n ≤ (part_bound e x bits).most
  pub told : IsTold n (given_range facts e x)

-- a field that gives none
no_number : (facts : List Fact) (e : Element) (x : Extent) → ((bits : Option Bits) → (part_bound e x bits).most ≡ 0) → IsTold 0 (given_range facts e x) → NumberFits facts e x 0
no_number facts e x least is = record { small = λ bits. subst (λ m. bits_of bits 0 ≤ m) (sym (least bits)) (no_bits bits); told = is }

left_small : (t : NumberType) (env places path : List ℕ) (p : ℕ) (cells : List ℕ) (v : Datum) (s more : List ℕ) (claims : List Claim) → left_written t path p cells v ≡ Done s more claims → source_number natural_of Left env places cells v ≤ (bits_bound t.width None).most
left_small t env places path p cells (Number n) s more claims d = by (fits t None n) refl d
  where
    by : (f : Bool) → fits t None n ≡ f → wanted f Range path (Done [] cells (record { end = p + n; path = path } ∷ [])) ≡ Done s more claims → n ≤ (bits_bound t.width None).most
    by true e d = leb-true n (bits_bound t.width None).most e
    by false e d = absurd (cc)
left_small t env places path p cells (Sequence vs) s more claims d = absurd (cc)
left_small t env places path p cells (Bytes bytes) s more claims d = absurd (cc)
left_small t env places path p cells Empty s more claims d = absurd (cc)

module _ (all bounds scope : List Bound) (facts : List Fact) (env places : List ℕ) (st : Stand all bounds places) (known : State scope facts env) where
  source_small : (t : NumberType) (source : Source) (path : List ℕ) (p : ℕ) (cells : List ℕ) (v : Datum) (s more : List ℕ) (claims : List Claim) → AllFit all cells
      → IsSourceFormed bounds scope (bits_bound t.width None) source → source_unsafe facts (bits_bound t.width None).most source ≡ None → source_written t source path p cells v ≡ Done s more claims
      → NumberFits facts (element.Number t) (Given source) (source_number natural_of source env places cells v)
  source_small t (Expression span e) path p cells v s more claims f form u d =
      let le = source_fits all bounds scope facts env places cells (bits_bound t.width None) (Expression span e) 0 0 known st f (omega arith) form u in
      record {
        small = λ bits. bits_small t.width bits (natural_of e env) le;
        told = extent_told all bounds scope facts env places [] cells (element.Number t) (Given (Expression span e)) 0 0 known form u le;
      }
  source_small t (FromCell c) path p cells v s more claims f form u d = record {
    small = λ bits. bits_small t.width bits (slice_index cells (slice_index places c)) (source_fits all bounds scope facts env places cells (bits_bound t.width None) (FromCell c) 0 0 known st f (omega arith) form u);
    told = tt;
  }
  source_small t Left path p cells v s more claims f form u d = record {
    small = λ bits. bits_small t.width bits (source_number natural_of Left env places cells v) (left_small t env places path p cells v s more claims d);
    told = tt;
  }

  listed_small : (sets : List (List ℕ)) (base : NumberType) (k : ℕ) (writers : ℕ → Writer) (path : List ℕ) (p : ℕ) (cells : List ℕ) (v : Datum) (s more : List ℕ) (claims : List Claim)
      → shape_written whole sets writers (element.Listed base k) Once env places path p cells v ≡ Done s more claims → NumberFits facts (element.Listed base k) Once (number_in natural_of (element.Listed base k) Once env places cells v)
  listed_small sets base k writers path p cells (Number n) s more claims d = record { small = λ bits. by bits (is_among (values_of sets k) n) (fits base None n) refl d; told = tt }
    where
      by : (bits : Option Bits) (l f : Bool) → fits base None n ≡ f → of_enum l path (wanted f Range path (wanted (has_room p (bytes_in base.width)) Long path (Done (number_bytes base n) cells []))) ≡ Done s more claims
          → bits_of bits n ≤ (bits_bound base.width bits).most
      by bits true false e d = absurd (cc)
      by bits false false e d = absurd (cc)
      by bits l true e d = bits_small base.width bits n (leb-true n (bits_bound base.width None).most e)
  listed_small sets base k writers path p cells (Sequence vs) s more claims d = absurd (cc)
  listed_small sets base k writers path p cells (Bytes bytes) s more claims d = absurd (cc)
  listed_small sets base k writers path p cells Empty s more claims d = absurd (cc)

  pub number_fits : (sets : List (List ℕ)) (writers : ℕ → Writer) (e : Element) (x : Extent) (path : List ℕ) (p : ℕ) (cells : List ℕ) (v : Datum) (s more : List ℕ) (claims : List Claim) → AllFit all cells
      → IsExtentFormed bounds scope e x → extent_unsafe facts e x ≡ None → unit_type e x ≡ None → shape_written whole sets writers e x env places path p cells v ≡ Done s more claims
      → NumberFits facts e x (number_in natural_of e x env places cells v)
  number_fits sets writers (element.Number t) Once path p cells v s more claims f form u unit d = absurd (none-some t (sym unit))
  number_fits sets writers (element.Number t) (Filling size step) path p cells v s more claims f form u unit d = no_number facts (element.Number t) (Filling size step) (λ bits. refl) tt
  number_fits sets writers (element.Number t) (OnceFilling size step) path p cells v s more claims f form u unit d = no_number facts (element.Number t) (OnceFilling size step) (λ bits. refl) tt
  number_fits sets writers (element.Number t) (UpToZero size) path p cells v s more claims f form u unit d = no_number facts (element.Number t) (UpToZero size) (λ bits. refl) tt
  number_fits sets writers (element.Number t) (Given source) path p cells v s more claims f form u unit d = source_small t source path p cells v s more claims f form u d
  number_fits sets writers (element.Listed base k) Once path p cells v s more claims f form u unit d = listed_small sets base k writers path p cells v s more claims d
  number_fits sets writers (element.Listed base k) (Filling size step) path p cells v s more claims f form u unit d = no_number facts (element.Listed base k) (Filling size step) (λ bits. refl) tt
  number_fits sets writers (element.Listed base k) (OnceFilling size step) path p cells v s more claims f form u unit d = no_number facts (element.Listed base k) (OnceFilling size step) (λ bits. refl) tt
  number_fits sets writers (element.Listed base k) (UpToZero size) path p cells v s more claims f form u unit d = no_number facts (element.Listed base k) (UpToZero size) (λ bits. refl) tt
  number_fits sets writers (element.Listed base k) (Given source) path p cells v s more claims f form u unit d = absurd (cc)
  number_fits sets writers (element.Named j args own) Once path p cells v s more claims f form u unit d = no_number facts (element.Named j args own) Once (λ bits. refl) tt
  number_fits sets writers (element.Named j args own) (Filling size step) path p cells v s more claims f form u unit d = no_number facts (element.Named j args own) (Filling size step) (λ bits. refl) tt
  number_fits sets writers (element.Named j args own) (OnceFilling size step) path p cells v s more claims f form u unit d = no_number facts (element.Named j args own) (OnceFilling size step) (λ bits. refl) tt
  number_fits sets writers (element.Named j args own) (UpToZero size) path p cells v s more claims f form u unit d = no_number facts (element.Named j args own) (UpToZero size) (λ bits. refl) tt
  number_fits sets writers (element.Named j args own) (Given source) path p cells v s more claims f form u unit d = absurd (cc)
  number_fits sets writers element.Unit Once path p cells v s more claims f form u unit d = no_number facts element.Unit Once (λ bits. refl) tt
  number_fits sets writers element.Unit (Filling size step) path p cells v s more claims f form u unit d = no_number facts element.Unit (Filling size step) (λ bits. refl) tt
  number_fits sets writers element.Unit (OnceFilling size step) path p cells v s more claims f form u unit d = no_number facts element.Unit (OnceFilling size step) (λ bits. refl) tt
  number_fits sets writers element.Unit (UpToZero size) path p cells v s more claims f form u unit d = no_number facts element.Unit (UpToZero size) (λ bits. refl) tt
  number_fits sets writers element.Unit (Given source) path p cells v s more claims f form u unit d = absurd (cc)
  number_fits sets writers element.Rest Once path p cells v s more claims f form u unit d = no_number facts element.Rest Once (λ bits. refl) tt
  number_fits sets writers element.Rest (Filling size step) path p cells v s more claims f form u unit d = no_number facts element.Rest (Filling size step) (λ bits. refl) tt
  number_fits sets writers element.Rest (OnceFilling size step) path p cells v s more claims f form u unit d = no_number facts element.Rest (OnceFilling size step) (λ bits. refl) tt
  number_fits sets writers element.Rest (UpToZero size) path p cells v s more claims f form u unit d = no_number facts element.Rest (UpToZero size) (λ bits. refl) tt
  number_fits sets writers element.Rest (Given source) path p cells v s more claims f form u unit d = absurd (cc)
  number_fits sets writers element.Zeros Once path p cells v s more claims f form u unit d = no_number facts element.Zeros Once (λ bits. refl) tt
  number_fits sets writers element.Zeros (Filling size step) path p cells v s more claims f form u unit d = no_number facts element.Zeros (Filling size step) (λ bits. refl) tt
  number_fits sets writers element.Zeros (OnceFilling size step) path p cells v s more claims f form u unit d = no_number facts element.Zeros (OnceFilling size step) (λ bits. refl) tt
  number_fits sets writers element.Zeros (UpToZero size) path p cells v s more claims f form u unit d = no_number facts element.Zeros (UpToZero size) (λ bits. refl) tt
  number_fits sets writers element.Zeros (Given source) path p cells v s more claims f form u unit d = absurd (cc)

-- the machine's is the same
left_number_is : (env places cells : List ℕ) (v : Datum) → source_number words64.value_of Left env places cells v ≡ source_number natural_of Left env places cells v
left_number_is env places cells (Number n) = refl
left_number_is env places cells (Sequence vs) = refl
left_number_is env places cells (Bytes bytes) = refl
left_number_is env places cells Empty = refl

source_number_is : (scope : List Bound) (facts : List Fact) (env places cells : List ℕ) (bounds : List Bound) (b : Bound) (most : ℕ) (source : Source) (v : Datum) → State scope facts env → IsSourceFormed bounds scope b source → source_unsafe facts most source ≡ None
    → source_number words64.value_of source env places cells v ≡ source_number natural_of source env places cells v
source_number_is scope facts env places cells bounds b most (Expression span e) v s form u =
    natural_is e env (sound scope facts env e s form (neither (value_unsafe span (int_lt (pos most) (value_range facts e).high)) (first_unsafe facts e) u).1)
source_number_is scope facts env places cells bounds b most (FromCell c) v s form u = refl
source_number_is scope facts env places cells bounds b most Left v s form u = left_number_is env places cells v

listed_number_is : (base : NumberType) (k : ℕ) (env places cells : List ℕ) (v : Datum) → number_in words64.value_of (element.Listed base k) Once env places cells v ≡ number_in natural_of (element.Listed base k) Once env places cells v
listed_number_is base k env places cells (Number n) = refl
listed_number_is base k env places cells (Sequence vs) = refl
listed_number_is base k env places cells (Bytes bytes) = refl
listed_number_is base k env places cells Empty = refl

pub number_is : (bounds scope : List Bound) (facts : List Fact) (env places cells : List ℕ) (e : Element) (x : Extent) (v : Datum) → State scope facts env → IsExtentFormed bounds scope e x → extent_unsafe facts e x ≡ None
    → number_in words64.value_of e x env places cells v ≡ number_in natural_of e x env places cells v
number_is bounds scope facts env places cells (element.Number t) (Given source) v s form u =
    source_number_is scope facts env places cells bounds (bits_bound t.width None) (bits_bound t.width None).most source v s form u
number_is bounds scope facts env places cells (element.Listed base k) Once v s form u = listed_number_is base k env places cells v
number_is bounds scope facts env places cells (element.Number t) Once v s form u = refl
number_is bounds scope facts env places cells (element.Number t) (Filling size step) v s form u = refl
number_is bounds scope facts env places cells (element.Number t) (OnceFilling size step) v s form u = refl
number_is bounds scope facts env places cells (element.Number t) (UpToZero size) v s form u = refl
number_is bounds scope facts env places cells (element.Listed base k) (Filling size step) v s form u = refl
number_is bounds scope facts env places cells (element.Listed base k) (OnceFilling size step) v s form u = refl
number_is bounds scope facts env places cells (element.Listed base k) (UpToZero size) v s form u = refl
number_is bounds scope facts env places cells (element.Listed base k) (Given source) v s form u = refl
number_is bounds scope facts env places cells (element.Named j args own) Once v s form u = refl
number_is bounds scope facts env places cells (element.Named j args own) (Filling size step) v s form u = refl
number_is bounds scope facts env places cells (element.Named j args own) (OnceFilling size step) v s form u = refl
number_is bounds scope facts env places cells (element.Named j args own) (UpToZero size) v s form u = refl
number_is bounds scope facts env places cells (element.Named j args own) (Given source) v s form u = refl
number_is bounds scope facts env places cells element.Unit Once v s form u = refl
number_is bounds scope facts env places cells element.Unit (Filling size step) v s form u = refl
number_is bounds scope facts env places cells element.Unit (OnceFilling size step) v s form u = refl
number_is bounds scope facts env places cells element.Unit (UpToZero size) v s form u = refl
number_is bounds scope facts env places cells element.Unit (Given source) v s form u = refl
number_is bounds scope facts env places cells element.Rest Once v s form u = refl
number_is bounds scope facts env places cells element.Rest (Filling size step) v s form u = refl
number_is bounds scope facts env places cells element.Rest (OnceFilling size step) v s form u = refl
number_is bounds scope facts env places cells element.Rest (UpToZero size) v s form u = refl
number_is bounds scope facts env places cells element.Rest (Given source) v s form u = refl
number_is bounds scope facts env places cells element.Zeros Once v s form u = refl
number_is bounds scope facts env places cells element.Zeros (Filling size step) v s form u = refl
number_is bounds scope facts env places cells element.Zeros (OnceFilling size step) v s form u = refl
number_is bounds scope facts env places cells element.Zeros (UpToZero size) v s form u = refl
number_is bounds scope facts env places cells element.Zeros (Given source) v s form u = refl

-- a unit's number is its bytes' alone
pub unit_range : (facts : List Fact) (e : Element) (x : Extent) (t : NumberType) → unit_type e x ≡ Some t → given_range facts e x ≡ None
unit_range facts e Once t is = refl
unit_range facts e (Filling size step) t is = refl
unit_range facts e (OnceFilling size step) t is = refl
unit_range facts e (UpToZero size) t is = refl
unit_range facts (element.Number y) (Given source) t is = absurd (none-some t is)
unit_range facts (element.Listed base k) (Given source) t is = absurd (none-some t is)
unit_range facts (element.Named j args own) (Given source) t is = absurd (none-some t is)
unit_range facts element.Unit (Given source) t is = absurd (none-some t is)
unit_range facts element.Rest (Given source) t is = absurd (none-some t is)
unit_range facts element.Zeros (Given source) t is = absurd (none-some t is)
