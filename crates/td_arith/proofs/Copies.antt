-- Copies: the two cells of a buffer stand among a definition's own, and a size within the room leaves the spare in range. Cited by other crates.
use Rattle.std.proofs.Common.{◌≡◌, ℕ, zero, suc, ◌+◌, ◌*◌, ◌-◌, ◌^◌, ◌<◌, ◌≤◌, Bool, true, false, List, [], ◌∷◌, ◌++◌, length, replicate, refl, sym, ap, subst, ◌∙◌, arith, ℤ, pos, negsuc, Option, Some, None, slice_get, slice_index, slice_set}
use Rattle.std.specs.Prelude.{int_lt}
use Rattle.std.proofs.lemmas.Bool.{ltb-false, false≢true}
use Rattle.std.proofs.lemmas.Option.{none-some, same_Some}
use Rattle.td_num.specs.Lists.{Each}
use Rattle.td_num.proofs.Lists.{each_at}
use Rattle.td_arith.specs.Imports.{ThirtyTwo, Subtract, CopyOut, Field, Case, Body, Struct, Casetype, TypeDef}
use Rattle.td_core.specs.declared.module.Cell.{Cell}
use Rattle.td_core.specs.declared.module.Buffer.{Buffer}
use Rattle.td_core.specs.Term.{Term, number}
use Rattle.td_core.specs.Types.{limit, type_of}
use Rattle.td_core.specs.WellFormed.{OfSome, EachField}
use Rattle.td_core.specs.Formed.{Bound, whole, AllFit, cell_bounds, buffer_bounds, own_bounds, IsScoped}
use Rattle.td_core.specs.Copies.{IsBufferCell, IsCopyWhole, IsFieldCopying, IsDefinitionCopying}
use Rattle.td_expr.specs.Value.{value_of, natural}
use Rattle.td_expr.specs.Facts.{Fact}
use Rattle.td_expr.specs.Range.{range_of}
use Rattle.td_expr.specs.Safe.{first_unsafe}
use Rattle.td_expr.specs.Sound.{Sound}
use Rattle.td_expr.proofs.Reaching.{Reaches, computed_fits}
use Rattle.td_expr.proofs.Holding.{in_type, as_number, below_limit, computed_in_type}
use Rattle.td_expr.proofs.Ranging.{good}
use Rattle.td_expr.proofs.Admitting.{all_safe}
use Rattle.td_meaning.specs.Doing.{natural_of}
use Rattle.td_meaning.specs.Meaning.{with_copy}
use Rattle.td_meaning.specs.Throughout.{spare}
use Rattle.td_arith.proofs.Fitting.{Stand, stand_at, fit_set}
use Rattle.td_arith.proofs.States.{State, known}

-- Rooms

pub under : (h : ℤ) (n room : ℕ) → Reaches h n → int_lt (pos room) h ≡ false → n ≤ room
under (pos m) n room r e = let most : m ≤ room = ltb-false room m e in omega (arith, r, most)
under (negsuc m) n room r e = absurd r

-- where the greatest size is within the room, the size is
pub within_room : (scope : List Bound) (facts : List Fact) (env : List ℕ) (size : Term) (room : ℕ) → State scope facts env → IsScoped scope size → first_unsafe facts size ≡ None
    → int_lt (pos room) (range_of facts size).high ≡ false → natural_of size env ≤ room
within_room scope facts env size room s i u e =
    let g = good size env facts (known scope env size s.fits i) s.holds (all_safe size facts u) in
    under (range_of facts size).high (natural_of size env) room g.inside.to e

pub spare_sound : (c : CopyOut) (size : Term) (env : List ℕ) → c.room < limit ThirtyTwo → Sound size env → natural_of size env ≤ c.room → Sound (spare c size) env
spare_sound c size env low g le =
    let y = natural (value_of size env) in (
      computed_in_type Subtract (number c.room ThirtyTwo) size env c.room y refl (as_number (type_of size) (value_of size env) (in_type size env g))
          (computed_fits Subtract ThirtyTwo (type_of size) c.room y low (below_limit (type_of size) (value_of size env) (in_type size env g)) le),
      ((low, tt), g),
    )

-- Cells

-- a copy's two cells are of 32 bits, and its room is a number of 32 bits
pub record CopyStands (bounds : List Bound) (c : CopyOut) : Type 0 where
  pub place : slice_get bounds c.cell ≡ Some (whole ThirtyTwo)
  pub count : slice_get bounds (c.cell + 1) ≡ Some (whole ThirtyTwo)
  pub room : c.room < limit ThirtyTwo

pub copy_fits : (all bounds : List Bound) (places : List ℕ) (c : CopyOut) (p n : ℕ) (cells : List ℕ) → Stand all bounds places → CopyStands bounds c → p < 2 ^ 32 → n ≤ c.room
    → AllFit all cells → AllFit all (with_copy c places p n cells)
copy_fits all bounds places c p n cells st h low le f =
    let few : p ≤ limit ThirtyTwo - 1 = omega (arith, low) in
    let small = h.room in
    let less : n ≤ limit ThirtyTwo - 1 = omega (arith, small, le) in
    fit_set all (slice_set cells (slice_index places c.cell) p) (slice_index places (c.cell + 1)) (whole ThirtyTwo) n (stand_at all bounds places (c.cell + 1) (whole ThirtyTwo) h.count st)
    (fit_set all cells (slice_index places c.cell) (whole ThirtyTwo) p (stand_at all bounds places c.cell (whole ThirtyTwo) h.place st) f few) less

even : (n : ℕ) → suc (suc (2 * n)) ≡ 2 * suc n
even n = omega arith

even_next : (n : ℕ) → suc (suc (2 * n + 1)) ≡ 2 * suc n + 1
even_next n = omega arith

buffer_at : (bs : List Buffer) (n : ℕ) (b : Buffer) → slice_get bs n ≡ Some b
    → (slice_get (buffer_bounds bs) (2 * n) ≡ Some (whole ThirtyTwo)) × (slice_get (buffer_bounds bs) (2 * n + 1) ≡ Some (whole ThirtyTwo))
buffer_at [] n b e = absurd (none-some b e)
buffer_at (x ∷ bs) zero b e = (refl, refl)
buffer_at (x ∷ bs) (suc n) b e =
    let h = buffer_at bs n b e in (
      subst (λ k. slice_get (buffer_bounds (x ∷ bs)) k ≡ Some (whole ThirtyTwo)) (even n) h.0,
      subst (λ k. slice_get (buffer_bounds (x ∷ bs)) k ≡ Some (whole ThirtyTwo)) (even_next n) h.1,
    )

get_behind : (cs : List Cell) (ys : List Bound) (k : ℕ) → slice_get (cell_bounds cs ++ ys) (length cs + k) ≡ slice_get ys k
get_behind [] ys k = let same : 0 + k ≡ k = omega arith in ap (slice_get ys) same
get_behind (c ∷ cs) ys k =
    let same : suc (length cs) + k ≡ suc (length cs + k) = omega arith in
    ap (slice_get (cell_bounds (c ∷ cs) ++ ys)) same ∙ get_behind cs ys k

copy_stands : (d : TypeDef) (f : Field) (c : CopyOut) → Each (λ b. (0 < b.room) × (b.room ≤ 65536)) d.buffers → IsCopyWhole d f c → CopyStands (own_bounds d) c
copy_stands d f c rooms h =
    let b = h.buffer in
    let at = buffer_at d.buffers b.number b.buffer b.there in
    let ends = buffer_bounds d.buffers in
    let room : b.buffer.room ≤ 65536 = (each_at (λ b. (0 < b.room) × (b.room ≤ 65536)) d.buffers b.number b.buffer rooms b.there).1 in
    let small : c.room ≤ 65536 = subst (λ r. r ≤ 65536) b.room_is room in
    let next : c.cell + 1 ≡ length d.cells + (2 * b.number + 1) = let e = b.cell_is in omega (arith, e) in
    record {
      place = ap (slice_get (own_bounds d)) b.cell_is ∙ get_behind d.cells ends (2 * b.number) ∙ at.0;
      count = ap (slice_get (own_bounds d)) next ∙ get_behind d.cells ends (2 * b.number + 1) ∙ at.1;
      room = omega (arith, small);
    }

-- each copied field of a list
abbrev pub CopiesStand : List Bound → List Field → Type 0
CopiesStand bounds fs = Each (λ f. OfSome (CopyStands bounds) f.copy) fs

abbrev pub CasesStand : List Bound → List Case → Type 0
CasesStand bounds cs = Each (λ c. CopiesStand bounds c.fields) cs

abbrev pub BodyStands : List Bound → Body → Type 0
BodyStands bounds body = EachField (λ f. OfSome (CopyStands bounds) f.copy) body

module _ (ds : List TypeDef) (d : TypeDef) (rooms : Each (λ b. (0 < b.room) × (b.room ≤ 65536)) d.buffers) where
  option_stands : (f : Field) (copy : Option CopyOut) → OfSome (IsCopyWhole d f) copy → OfSome (CopyStands (own_bounds d)) copy
  option_stands f None h = tt
  option_stands f (Some c) h = copy_stands d f c rooms h

  fields_stand : (fs : List Field) → Each (IsFieldCopying ds d) fs → CopiesStand (own_bounds d) fs
  fields_stand [] h = tt
  fields_stand (f ∷ fs) h = (option_stands f f.copy h.0.copy, fields_stand fs h.1)

  cases_stand : (cs : List Case) → Each (λ c. Each (IsFieldCopying ds d) c.fields) cs → CasesStand (own_bounds d) cs
  cases_stand [] h = tt
  cases_stand (c ∷ cs) h = (fields_stand c.fields h.0, cases_stand cs h.1)

  default_stands : (default : Option (List Field)) → OfSome (Each (IsFieldCopying ds d)) default → OfSome (CopiesStand (own_bounds d)) default
  default_stands None h = tt
  default_stands (Some fs) h = fields_stand fs h

  pub body_stands : (body : Body) → EachField (IsFieldCopying ds d) body → BodyStands (own_bounds d) body
  body_stands (Struct fs) h = fields_stand fs h
  body_stands (Casetype switch cases default) h = (cases_stand cases h.0, default_stands default h.1)

pub definition_stands : (ds : List TypeDef) (d : TypeDef) → IsDefinitionCopying ds d → BodyStands (own_bounds d) d.body
definition_stands ds d h = body_stands ds d h.rooms d.body h.fields

-- At the start

abbrev pub zeros : ℕ → List ℕ
zeros n = replicate n 0

pub fit_zeros : (bs : List Buffer) → AllFit (buffer_bounds bs) (zeros (2 * length bs))
fit_zeros [] = tt
fit_zeros (b ∷ bs) = subst (λ k. AllFit (buffer_bounds (b ∷ bs)) (zeros k)) (even (length bs)) (omega arith, (omega arith, fit_zeros bs))

pub fit_append : (bs cs : List Bound) (vs ws : List ℕ) → AllFit bs vs → AllFit cs ws → AllFit (bs ++ cs) (vs ++ ws)
fit_append [] cs [] ws f g = g
fit_append [] cs (v ∷ vs) ws f g = absurd f
fit_append (b ∷ bs) cs [] ws f g = absurd f
fit_append (b ∷ bs) cs (v ∷ vs) ws f g = (f.0, fit_append bs cs vs ws f.1 g)
