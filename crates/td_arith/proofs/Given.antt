-- Fields without bytes: their numbers are no greater than the fields can be, and what is known of them holds. Cited by other crates.
use Rattle.std.proofs.Common.{◌≡◌, ℕ, suc, ◌+◌, ◌-◌, ◌^◌, ◌<◌, ◌≤◌, Bool, true, false, cond, List, [], ◌∷◌, ◌++◌, length, refl, sym, ap, subst, ◌∙◌, arith, ℤ, pos, negsuc, Option, Some, None, nat_le, slice_get, slice_index, length-append}
use Rattle.std.specs.Prelude.{int_lt}
use Rattle.std.proofs.lemmas.Bool.{leb-true, le-ltb}
use Rattle.std.proofs.lemmas.Option.{none-some, same_Some}
use Rattle.std.proofs.Math.Seq.{get_or-append_seam}
use Rattle.td_arith.specs.Imports.{Span, NumberType, Element, Number, Listed, Named, Unit as UnitElement, Rest, Zeros, Extent, Once, Filling, OnceFilling, UpToZero, Given, Source, Expression, FromCell, Left, Bits, Value, Relation, GreaterEqual, LessEqual}
use Rattle.td_core.specs.declared.expressions.Scalar.{Scalar}
use Rattle.td_core.specs.declared.expressions.Scalar.TheVariants.{SixtyFour}
use Rattle.td_core.specs.Term.{Term}
use Rattle.td_core.specs.Types.{limit, type_of}
use Rattle.td_core.specs.Formed.{Bound, AllFit, scalar_of, part_bound, IsScoped, IsHeldIn, IsSourceFormed, IsExtentFormed}
use Rattle.td_expr.specs.Value.{value_of, flip}
use Rattle.td_expr.specs.Facts.{Fact}
use Rattle.td_expr.specs.Range.{range_of}
use Rattle.td_expr.specs.Safe.{first_unsafe}
use Rattle.td_expr.specs.Sound.{AllPlaced, AllHold}
use Rattle.td_expr.proofs.Reaching.{Reaches, Starts, Contains, cut_holds}
use Rattle.td_expr.proofs.Holding.{in_type, below_limit, all_append}
use Rattle.td_expr.proofs.Ranging.{good}
use Rattle.td_expr.proofs.Admitting.{neither, all_safe}
use Rattle.td_expr.proofs.Widths.{limit_pos}
use Rattle.td_arith_ranges.specs.Ends.{within}
use Rattle.td_meaning.specs.Doing.{natural_of}
use Rattle.td_meaning.specs.Meaning.{bits_of, given_value, field_number}
use Rattle.td_arith.specs.declared.values.ValueRange.{ValueRange}
use Rattle.td_arith.specs.SafeModule.{value_range, value_unsafe, source_unsafe, extent_unsafe, source_range, given_range, end_fact, value_facts, part_facts}
use Rattle.td_arith.proofs.Fitting.{Stand, stand_at, get_fits}
use Rattle.td_arith.proofs.States.{State, known, placed_append, known_too}
use Rattle.td_arith.proofs.Copies.{under}
use Rattle.td_arith.proofs.Numbers.{IsGivenFit}

-- The value of an expression

-- it lies in its range, and in its type
pub value_inside : (scope : List Bound) (facts : List Fact) (env : List ℕ) (e : Term) → State scope facts env → IsScoped scope e → first_unsafe facts e ≡ None → Contains (value_range facts e) (natural_of e env)
value_inside scope facts env e s i u =
    let g = good e env facts (known scope env e s.fits i) s.holds (all_safe e facts u) in
    let small = below_limit (type_of e) (value_of e env) (in_type e env g.sound) in
    let le : natural_of e env ≤ limit (type_of e) - 1 = omega (arith, small) in
    cut_holds LessEqual (limit (type_of e) - 1) (natural_of e env) (range_of facts e) (ap flip (le-ltb (limit (type_of e) - 1) (natural_of e env) le)) g.inside

not_passed : (span : Span) (b : Bool) → value_unsafe span b ≡ None → b ≡ false
not_passed span true u = absurd (none-some (Value span) (sym u))
not_passed span false u = refl

-- what gives a number to a field that can be so much gives no more
pub source_fits : (all bounds scope : List Bound) (facts : List Fact) (env places cells : List ℕ) (b : Bound) (source : Source) (end p : ℕ) → State scope facts env → Stand all bounds places → AllFit all cells → end < 2 ^ 32
    → IsSourceFormed bounds scope b source → source_unsafe facts b.most source ≡ None → given_value source env places end p cells ≤ b.most
source_fits all bounds scope facts env places cells b (Expression span e) end p s st f low form u =
    let two = neither (value_unsafe span (int_lt (pos b.most) (value_range facts e).high)) (first_unsafe facts e) u in
    let i = value_inside scope facts env e s form two.1 in
    under (value_range facts e).high (natural_of e env) b.most i.to (not_passed span (int_lt (pos b.most) (value_range facts e).high) two.0)
source_fits all bounds scope facts env places cells b (FromCell c) end p s st f low form u = by (slice_get bounds c) refl form
  where
    by : (o : Option Bound) → slice_get bounds c ≡ o → IsHeldIn o b → slice_index cells (slice_index places c) ≤ b.most
    by None e h = absurd h
    by (Some held) e h =
        let le = get_fits all cells (slice_index places c) held (stand_at all bounds places c held e st) f in
        omega (arith, le, h)
source_fits all bounds scope facts env places cells b Left end p s st f low form u = omega (arith, low, form)

-- What is known of a number

abbrev pub IsFrom : ℕ → Option ℕ → Type 0
IsFrom n None = Unit {0}
IsFrom n (Some c) = c ≤ n

abbrev pub IsTo : Scalar → ℕ → Option ℕ → Type 0
IsTo w n None = Unit {0}
IsTo w n (Some c) = (n ≤ c) × (c < limit w)

-- the number is one of its type, between the ends
abbrev pub IsTold : ℕ → Option ValueRange → Type 0
IsTold n None = Unit {0}
IsTold n (Some v) = (n < limit v.scalar) × (IsFrom n v.low × IsTo v.scalar n v.high)

low_told : (most n : ℕ) (l : ℤ) → Starts l n → IsFrom n (within most l)
low_told most n (pos l) h = by (nat_le l most)
  where
    by : (b : Bool) → IsFrom n (cond b (Some l) None)
    by true = h
    by false = tt
low_told most n (negsuc l) h = tt

high_told : (w : Scalar) (most n : ℕ) (h : ℤ) → most < limit w → Reaches h n → IsTo w n (within most h)
high_told w most n (pos h) small r = by (nat_le h most) refl
  where
    by : (b : Bool) → nat_le h most ≡ b → IsTo w n (cond b (Some h) None)
    by true e = let le : h ≤ most = leb-true h most e in (r, omega (arith, le, small))
    by false e = tt
high_told w most n (negsuc h) small r = tt

pub source_told : (all bounds scope : List Bound) (facts : List Fact) (env places cells : List ℕ) (b : Bound) (source : Source) (end p : ℕ) → State scope facts env → b.most < limit b.type
    → IsSourceFormed bounds scope b source → source_unsafe facts b.most source ≡ None → given_value source env places end p cells ≤ b.most
    → IsTold (given_value source env places end p cells) (source_range facts b source)
source_told all bounds scope facts env places cells b (Expression span e) end p s small form u le =
    let two = neither (value_unsafe span (int_lt (pos b.most) (value_range facts e).high)) (first_unsafe facts e) u in
    let i = value_inside scope facts env e s form two.1 in
    (omega (arith, le, small), (low_told b.most (natural_of e env) (value_range facts e).low i.from, high_told b.type b.most (natural_of e env) (value_range facts e).high small i.to))
source_told all bounds scope facts env places cells b (FromCell c) end p s small form u le = tt
source_told all bounds scope facts env places cells b Left end p s small form u le = tt

-- The number of a field

bound_small : (element : Element) (source : Source) → (part_bound element (Given source) None).most < limit (part_bound element (Given source) None).type
bound_small (Number type) source = omega (arith, limit_pos (scalar_of type.width))
bound_small (Listed base k) source = limit_pos SixtyFour
bound_small (Named j args own) source = limit_pos SixtyFour
bound_small UnitElement source = limit_pos SixtyFour
bound_small Rest source = limit_pos SixtyFour
bound_small Zeros source = limit_pos SixtyFour

-- what is no number's has nothing to give
number_given : (element : Element) (source : Source) (env places message : List ℕ) (end p : ℕ) (cells : List ℕ) → given_value source env places end p cells ≤ (part_bound element (Given source) None).most
    → field_number element (Given source) env places message end p cells ≡ given_value source env places end p cells
number_given (Number type) source env places message end p cells le = refl
number_given (Listed base k) source env places message end p cells le = omega (arith, le)
number_given (Named j args own) source env places message end p cells le = omega (arith, le)
number_given UnitElement source env places message end p cells le = omega (arith, le)
number_given Rest source env places message end p cells le = omega (arith, le)
number_given Zeros source env places message end p cells le = omega (arith, le)

pub extent_fits : (all bounds scope : List Bound) (facts : List Fact) (env places cells : List ℕ) (element : Element) (extent : Extent) (end p : ℕ) → State scope facts env → Stand all bounds places → AllFit all cells → end < 2 ^ 32
    → IsExtentFormed bounds scope element extent → extent_unsafe facts element extent ≡ None → IsGivenFit element extent env places end p cells
extent_fits all bounds scope facts env places cells element Once end p s st f low form u = tt
extent_fits all bounds scope facts env places cells element (Filling size step) end p s st f low form u = tt
extent_fits all bounds scope facts env places cells element (OnceFilling size step) end p s st f low form u = tt
extent_fits all bounds scope facts env places cells element (UpToZero size) end p s st f low form u = tt
extent_fits all bounds scope facts env places cells element (Given source) end p s st f low form u =
    source_fits all bounds scope facts env places cells (part_bound element (Given source) None) source end p s st f low form u

pub extent_told : (all bounds scope : List Bound) (facts : List Fact) (env places message cells : List ℕ) (element : Element) (extent : Extent) (end p : ℕ) → State scope facts env
    → IsExtentFormed bounds scope element extent → extent_unsafe facts element extent ≡ None → IsGivenFit element extent env places end p cells
    → IsTold (field_number element extent env places message end p cells) (given_range facts element extent)
extent_told all bounds scope facts env places message cells element Once end p s form u le = tt
extent_told all bounds scope facts env places message cells element (Filling size step) end p s form u le = tt
extent_told all bounds scope facts env places message cells element (OnceFilling size step) end p s form u le = tt
extent_told all bounds scope facts env places message cells element (UpToZero size) end p s form u le = tt
extent_told all bounds scope facts env places message cells element (Given source) end p s form u le =
    subst (λ n. IsTold n (given_range facts element (Given source))) (sym (number_given element source env places message end p cells le))
    (source_told all bounds scope facts env places cells (part_bound element (Given source) None) source end p s (bound_small element source) form u le)

-- Parts

end_placed : (r : Relation) (size level : ℕ) (v : ValueRange) (o : Option ℕ) → level < size → AllPlaced size (end_fact r level v o)
end_placed r size level v None h = tt
end_placed r size level v (Some c) h = ((h, tt), tt)

low_holds : (env : List ℕ) (level n : ℕ) (v : ValueRange) (o : Option ℕ) → slice_index env level ≡ n → n < limit v.scalar → IsFrom n o → AllHold (end_fact GreaterEqual level v o) env
low_holds env level n v None at small h = tt
low_holds env level n v (Some c) at small h = (
  record {
    relates = ap flip (le-ltb (slice_index env level) c (omega (arith, at, h)));
    left = (omega (arith, at, small), tt);
    right = (omega (arith, h, small), tt);
  },
  tt,
)

high_holds : (env : List ℕ) (level n : ℕ) (v : ValueRange) (o : Option ℕ) → slice_index env level ≡ n → n < limit v.scalar → IsTo v.scalar n o → AllHold (end_fact LessEqual level v o) env
high_holds env level n v None at small h = tt
high_holds env level n v (Some c) at small h = (
  record {
    relates = let le = h.0 in ap flip (le-ltb c (slice_index env level) (omega (arith, at, le)));
    left = (omega (arith, at, small), tt);
    right = (h.1, tt);
  },
  tt,
)

-- what is known of a part's value holds of it
pub part_known : (scope : List Bound) (facts : List Fact) (env : List ℕ) (n level : ℕ) (range : Option ValueRange) (bits : Option Bits) → length env ≡ level → IsTold n range
    → State scope facts (env ++ bits_of bits n ∷ []) → State scope (facts ++ part_facts level range bits) (env ++ bits_of bits n ∷ [])
part_known scope facts env n level None bits at told s = known_too scope facts [] (env ++ bits_of bits n ∷ []) s tt tt
part_known scope facts env n level (Some v) (Some b) at told s = known_too scope facts [] (env ++ bits_of (Some b) n ∷ []) s tt tt
part_known scope facts env n level (Some v) None at told s =
    let values = env ++ n ∷ [] in
    let long : length values ≡ length env + 1 = length-append env (n ∷ []) in
    let there : level < length values = omega (arith, at, long) in
    let is : slice_index values level ≡ n = ap (slice_index values) (sym at) ∙ get_or-append_seam env n [] 0 in
    known_too scope facts (value_facts level v) values s
    (placed_append (length values) (end_fact GreaterEqual level v v.low) (end_fact LessEqual level v v.high) (end_placed GreaterEqual (length values) level v v.low there) (end_placed LessEqual (length values) level v v.high there))
    (all_append (end_fact GreaterEqual level v v.low) (end_fact LessEqual level v v.high) values (low_holds values level n v v.low is told.0 told.1.0) (high_holds values level n v v.high is told.0 told.1.1))
