-- Where cells and buffers lie, from definition to definition.
use Rattle.std.proofs.Common.{append_assoc, ◌≡◌, ℕ, zero, suc, ◌+◌, ◌*◌, ◌<◌, ◌≤◌, Bool, true, false, cond, Option, Some, None, List, [], ◌∷◌, ◌++◌, length, length-append, map, drop, replicate, refl, sym, ap, ◌∙◌, subst, arith}
use Rattle.std.specs.Prelude.{slice_get, slice_index, nat_eq}
use Rattle.std.proofs.lemmas.List.{get_or-drop, length-map, length-drop, replicate-append-replicate}
use Rattle.std.proofs.Math.Seq.{drop-append_seam}
use Rattle.std.proofs.lemmas.Option.{none-some}
use Rattle.td_num.specs.Lists.{Each}
use Rattle.td_num.specs.Numbers.{places_from}
use Rattle.td_num.proofs.Lists.{each_taken}
use Rattle.td_core.specs.Copies.{IsBufferCell, IsCopyWhole, AreBuffersGiven, AreOwnGiven, IsElementGiven, IsFieldCopying, IsDefinitionCopying, IsCopying}
use Rattle.td_core.specs.Formed.{Bound, cell_bound, cell_bounds, buffer_bounds, own_bounds, own_at, param_bounds, parts_scope, AreCellsFormed, IsElementFormed, AreFieldsFormed, AreCasesFormed, IsDefaultFormed, IsBodyFormed, IsDefinitionFormed, IsModuleFormed}
use Rattle.td_core.specs.Held.{IsBufferAt, AreHeld}
use Rattle.td_core.specs.Outcome.{copies_by}
use Rattle.td_core.specs.WellFormed.{OfSome, EachField}
use Rattle.td_direct.specs.Imports.{Buffer, CopyOut, Struct, Casetype, Element, Number, Listed, Named, Unit as UnitElement, Rest, Zeros, Field, Module, TypeDef, Entry}
use Rattle.td_core.specs.declared.module.Case.{Case}
use Rattle.td_core.specs.declared.module.Body.{Body}
use Rattle.td_core.proofs.Found.{cells_mapped}
use Rattle.td_meaning.specs.Words64.{value_of, body_fields}
use Rattle.td_meaning.specs.Meaning.{case_for}
use Rattle.td_stream.specs.Copies.{BufferView, held_by, rooms_of, empty_with}
use Rattle.td_core.specs.Entries.{definition_at}
use Rattle.td_meaning.specs.Copies.{buffers_at}
use Rattle.td_direct.specs.Copies.{AreBuffersFor, AreOfDefinition, AreOfEntry}
use Rattle.td_direct.specs.Placing.{HasPlaces, IsPlaced, IsElementPlaced, IsCopyPlaced, IsFieldPlaced, IsLongFor, IsElementLong, IsDefinitionGiven, AreGiven}

-- What a module gives

long_for : (cells : List Bound) (o : Option TypeDef) (own : List ℕ) → AreCellsFormed cells (own_at o) own → IsLongFor o own
long_for cells None own h = tt
long_for cells (Some e) own h =
    let same : length own ≡ length (cell_bounds e.cells ++ buffer_bounds e.buffers) = cells_mapped cells (own_bounds e) own h in
    omega (arith, same, length-append (cell_bounds e.cells) (buffer_bounds e.buffers), length-map e.cells (λ c. cell_bound c.kind))

element_long : (ds : List TypeDef) (n : ℕ) (cells scope : List Bound) (el : Element) → IsElementFormed ds n cells scope el → IsElementLong ds el
element_long ds n cells scope (Number type) h = tt
element_long ds n cells scope (Listed base k) h = tt
element_long ds n cells scope (Named j args own) h = long_for cells (slice_get ds j) own h.1.1
element_long ds n cells scope UnitElement h = tt
element_long ds n cells scope Rest h = tt
element_long ds n cells scope Zeros h = tt

fields_long : (ds : List TypeDef) (n : ℕ) (cells scope : List Bound) (fs : List Field) → AreFieldsFormed ds n cells scope fs → Each (λ f. IsElementLong ds f.element) fs
fields_long ds n cells scope [] h = tt
fields_long ds n cells scope (f ∷ fs) h = (element_long ds n cells scope f.element h.0, fields_long ds n cells (parts_scope f.element f.extent scope f.parts) fs h.1.1.1)

cases_long : (ds : List TypeDef) (n : ℕ) (cells scope : List Bound) (cs : List Case) → AreCasesFormed ds n cells scope cs → Each (λ c. Each (λ f. IsElementLong ds f.element) c.fields) cs
cases_long ds n cells scope [] h = tt
cases_long ds n cells scope (c ∷ cs) h = (fields_long ds n cells scope c.fields h.0, cases_long ds n cells scope cs h.1)

default_long : (ds : List TypeDef) (n : ℕ) (cells scope : List Bound) (o : Option (List Field)) → IsDefaultFormed ds n cells scope o → OfSome (Each (λ f. IsElementLong ds f.element)) o
default_long ds n cells scope None h = tt
default_long ds n cells scope (Some fs) h = fields_long ds n cells scope fs h

body_long : (ds : List TypeDef) (n : ℕ) (cells scope : List Bound) (b : Body) → IsBodyFormed ds n cells scope b → EachField (λ f. IsElementLong ds f.element) b
body_long ds n cells scope (Struct fs) h = fields_long ds n cells scope fs h
body_long ds n cells scope (Casetype switch cases default) h = (cases_long ds n cells scope cases h.1.0, default_long ds n cells scope default h.1.1)

later_given : (ds : List TypeDef) (k : ℕ) (xs : List TypeDef) → Each (IsDefinitionCopying ds) xs
    → ((n : ℕ) (d : TypeDef) → slice_get xs n ≡ Some d → IsDefinitionFormed ds (k + n) d) → Each (IsDefinitionGiven ds) xs
later_given ds k [] c h = tt
later_given ds k (x ∷ xs) c h = (
  record { copying = c.0; long = body_long ds (k + 0) (own_bounds x) (param_bounds x.params) x.body (h 0 x refl).1 },
  later_given ds (suc k) xs c.1 (λ n d g. subst (λ j. IsDefinitionFormed ds j d) (let e : k + suc n ≡ suc k + n = omega arith in e) (h (suc n) d g)),
)

pub all_given : (m : Module) → IsModuleFormed m → IsCopying m → AreGiven m.definitions
all_given m h c = later_given m.definitions 0 m.definitions c (λ n d g. subst (λ j. IsDefinitionFormed m.definitions j d) (let e : n ≡ 0 + n = omega arith in e) (h n d g))

-- From a definition to its fields

case_each : (P : Field → Type 0) (n : ℕ) (cases : List Case) (default : Option (List Field)) (fs : List Field) → Each (λ c. Each P c.fields) cases → OfSome (Each P) default → case_for n cases default ≡ Some fs → Each P fs
case_each P n [] default fs h d e = subst (OfSome (Each P)) e d
case_each P n (c ∷ cases) default fs h d e = by (nat_eq c.value n) (λ e. case_each P n cases default fs h.1 d e) e
  where
    by : (v : Bool) → (case_for n cases default ≡ Some fs → Each P fs) → cond v (Some c.fields) (case_for n cases default) ≡ Some fs → Each P fs
    by true later e = subst (OfSome (Each P)) e h.0
    by false later e = later e

body_each : (P : Field → Type 0) (b : Body) (args : List ℕ) (fs : List Field) → EachField P b → body_fields b args ≡ Some fs → Each P fs
body_each P (Struct gs) args fs h e = subst (OfSome (Each P)) e h
body_each P (Casetype switch cases default) args fs h e = case_each P (value_of switch args) cases default fs h.0 h.1 e

each_more : {A : Type 0} (P Q R : A → Type 0) (xs : List A) → ((x : A) → P x → Q x → R x) → Each P xs → Each Q xs → Each R xs
each_more P Q R [] k h g = tt
each_more P Q R (x ∷ xs) k h g = (k x h.0 g.0, each_more P Q R xs k h.1 g.1)

mapped_at : (places own : List ℕ) (k : ℕ) → k < length own → slice_index (map (slice_index places) own) k ≡ slice_index places (slice_index own k)
mapped_at places [] k h = absurd (omega (arith, h))
mapped_at places (x ∷ xs) zero h = refl
mapped_at places (x ∷ xs) (suc k) h = mapped_at places xs k (omega (arith, h))

-- the two numbers of a callee's buffer, among those that it is given
record AreTwo (cells : ℕ) (buffers : List Buffer) (room : ℕ) (ks : List ℕ) (k : ℕ) : Type 0 where
  pub cell : IsBufferCell cells buffers (slice_index ks (2 * k)) room
  pub next : slice_index ks (2 * k + 1) ≡ slice_index ks (2 * k) + 1
  pub there : 2 * k + 1 < length ks

two_at : (cells : ℕ) (buffers bs : List Buffer) (ks : List ℕ) (k : ℕ) (b : Buffer) → AreBuffersGiven cells buffers bs ks → slice_get bs k ≡ Some b → AreTwo cells buffers b.room ks k
two_at cells buffers [] ks k b h e = absurd (none-some b e)
two_at cells buffers (x ∷ bs) [] k b h e = absurd h
two_at cells buffers (x ∷ bs) (p ∷ []) k b h e = absurd h
two_at cells buffers (x ∷ bs) (p ∷ q ∷ ks) zero b h e =
    record { cell = subst (λ (o : Option Buffer). OfSome (λ (y : Buffer). IsBufferCell cells buffers p y.room) o) e h.0; next = h.1.0; there = omega arith }
two_at cells buffers (x ∷ bs) (p ∷ q ∷ ks) (suc k) b h e =
    let r = two_at cells buffers bs ks k b h.1.1 e in
    let one : suc (suc (2 * k)) ≡ 2 * suc k = omega arith in
    let two : suc (suc (2 * k + 1)) ≡ 2 * suc k + 1 = omega arith in
    let more = r.there in
    record {
      cell = subst (λ i. IsBufferCell cells buffers (slice_index (p ∷ q ∷ ks) i) b.room) one r.cell;
      next = subst (λ (x : ℕ × ℕ). slice_index (p ∷ q ∷ ks) x.1 ≡ slice_index (p ∷ q ∷ ks) x.0 + 1) (λ i. (one i, two i)) r.next;
      there = omega (arith, more);
    }

module _ (d : TypeDef) (places : List ℕ) (first : ℕ) (rooms : List ℕ) (h : HasPlaces d places first rooms) where
  buffer_at : (cell room : ℕ) → IsBufferCell (length d.cells) d.buffers cell room → IsBufferAt (slice_index places cell) (slice_index places (cell + 1)) room first rooms
  buffer_at cell room c =
      subst (λ (x : ℕ × ℕ). IsBufferAt (slice_index places x.0) (slice_index places (x.0 + 1)) x.1 first rooms) (λ i. (sym c.cell_is i, c.room_is i)) (h.buffers c.number c.buffer c.there)

  own_placed : (o : Option TypeDef) (own : List ℕ) → AreOwnGiven d o own → IsLongFor o own → IsPlaced o (map (slice_index places) own) first rooms
  own_placed None own g l = tt
  own_placed (Some e) own g l = record {
    cells = λ k lt.
        let inside : k < length own = omega (arith, lt, l) in
        let at = mapped_at places own k inside in
        let low = h.cells (slice_index own k) (each_taken (λ k. k < length d.cells) (length e.cells) own k g.0 lt inside) in
        omega (arith, at, low);
    buffers = λ k b it.
        let n = length e.cells in
        let r = two_at (length d.cells) d.buffers e.buffers (drop n own) k b g.1 it in
        let there = r.there in
        let rest = length-drop n own in
        let last : n + 2 * k + 1 ≡ n + (2 * k + 1) = omega arith in
        let one = mapped_at places own (n + 2 * k) (omega (arith, there, rest)) in
        let two = mapped_at places own (n + 2 * k + 1) (omega (arith, there, rest)) in
        let p : slice_index own (n + 2 * k) ≡ slice_index (drop n own) (2 * k) = sym (get_or-drop n own (2 * k) 0) in
        let q : slice_index own (n + 2 * k + 1) ≡ slice_index (drop n own) (2 * k) + 1 = ap (slice_index own) last ∙ sym (get_or-drop n own (2 * k + 1) 0) ∙ r.next in
        let is = buffer_at (slice_index (drop n own) (2 * k)) b.room r.cell in
        subst (λ (x : ℕ × ℕ). IsBufferAt x.0 x.1 b.room first rooms) (λ i. (sym (one ∙ ap (slice_index places) p) i, sym (two ∙ ap (slice_index places) q) i)) is;
  }

  element_placed : (ds : List TypeDef) (el : Element) → IsElementGiven ds d el → IsElementLong ds el → IsElementPlaced ds places first rooms el
  element_placed ds (Number type) g l = tt
  element_placed ds (Listed base k) g l = tt
  element_placed ds (Named j args own) g l = own_placed (slice_get ds j) own g l
  element_placed ds UnitElement g l = tt
  element_placed ds Rest g l = tt
  element_placed ds Zeros g l = tt

  copy_placed : (f : Field) (o : Option CopyOut) → OfSome (IsCopyWhole d f) o → IsCopyPlaced places first rooms o
  copy_placed f None g = tt
  copy_placed f (Some c) g = buffer_at c.cell c.room g.buffer

  pub fields_placed : (ds : List TypeDef) (args : List ℕ) (fs : List Field) → IsDefinitionGiven ds d → body_fields d.body args ≡ Some fs → Each (IsFieldPlaced ds places first rooms) fs
  fields_placed ds args fs g e =
      each_more (IsFieldCopying ds d) (λ f. IsElementLong ds f.element) (IsFieldPlaced ds places first rooms) fs
      (λ f c l. record {
        copy = copy_placed f f.copy c.copy;
        element = element_placed ds f.element c.element l;
        actions = record { count = length d.cells; cells = h.cells; named = c.actions };
      })
      (body_each (IsFieldCopying ds d) d.body args fs g.copying.fields e) (body_each (λ f. IsElementLong ds f.element) d.body args fs g.long e)

-- The entry point

from_at : (p n k : ℕ) → k < n → slice_index (places_from p n) k ≡ p + k
from_at p zero k h = absurd (omega (arith, h))
from_at p (suc n) zero h = omega arith
from_at p (suc n) (suc k) h = let e : p + 1 + k ≡ p + suc k = omega arith in from_at (p + 1) n k (omega (arith, h)) ∙ e

for_at : (bs : List Buffer) (vs : List BufferView) (k : ℕ) (b : Buffer) → AreBuffersFor bs vs → slice_get bs k ≡ Some b → (k < length vs) × (b.room ≤ slice_index (rooms_of vs) k)
for_at [] vs k b h e = absurd (none-some b e)
for_at (x ∷ bs) [] k b h e = absurd h
for_at (x ∷ bs) (v ∷ vs) zero b h e = (omega arith, subst (λ (o : Option Buffer). OfSome (λ (y : Buffer). y.room ≤ v.room) o) e h.1.0)
for_at (x ∷ bs) (v ∷ vs) (suc k) b h e = let r = for_at bs vs k b h.1.1 e in let lt = r.0 in (omega (arith, lt), r.1)

pub entry_placed : (d : TypeDef) (n first : ℕ) (vs : List BufferView) → first ≡ length d.cells → n ≡ first + 2 * length vs → AreBuffersFor d.buffers vs → HasPlaces d (places_from 0 n) first (rooms_of vs)
entry_placed d n first vs same all h = record {
  cells = λ k lt. let at = from_at 0 n k (omega (arith, lt, same, all)) in omega (arith, at, lt, same);
  buffers = λ k b it.
      let r = for_at d.buffers vs k b h it in
      let there = r.0 in
      let one = from_at 0 n (length d.cells + 2 * k) (omega (arith, there, same, all)) in
      let two = from_at 0 n (length d.cells + 2 * k + 1) (omega (arith, there, same, all)) in
      record {
        number = k;
        there = omega (arith, there, length-map vs (λ (v : BufferView). v.room));
        place_is = omega (arith, one, same);
        count_is = omega (arith, one, two);
        room_is = r.1;
      };
}

pub as_many : (bs : List Buffer) (vs : List BufferView) → AreBuffersFor bs vs → length vs ≡ length bs
as_many [] [] h = refl
as_many [] (v ∷ vs) h = absurd h
as_many (b ∷ bs) [] h = absurd h
as_many (b ∷ bs) (v ∷ vs) h = ap suc (as_many bs vs h.1.1)

-- numbers that are 0 tell of empty buffers
abbrev pub zeros : ℕ → List ℕ
zeros n = replicate n 0

none_by : (b : List ℕ) (bs : List Buffer) (vs : List BufferView) → AreBuffersFor bs vs → copies_by b (zeros (2 * length vs)) ≡ held_by vs
none_by b [] [] h = refl
none_by b [] (v ∷ vs) h = absurd h
none_by b (x ∷ bs) [] h = absurd h
none_by b (x ∷ bs) (v ∷ vs) h =
    let e : 2 * suc (length vs) ≡ suc (suc (2 * length vs)) = omega arith in
    ap (λ n. copies_by b (zeros n)) e ∙ (λ i. sym h.0 i ∷ none_by b bs vs h.1.1 i)

pub held_first : (b cells : List ℕ) (bs : List Buffer) (vs : List BufferView) → AreBuffersFor bs vs → AreHeld b (length cells) (cells ++ zeros (2 * length vs)) (held_by vs)
held_first b cells bs vs h = ap (copies_by b) (drop-append_seam cells (zeros (2 * length vs))) ∙ none_by b bs vs h

-- buffers that are emptied are as they were
pub cleared_again : (bs : List Buffer) (vs : List BufferView) → AreBuffersFor bs vs → map empty_with (rooms_of vs) ≡ vs
cleared_again [] [] h = refl
cleared_again [] (v ∷ vs) h = absurd h
cleared_again (b ∷ bs) [] h = absurd h
cleared_again (b ∷ bs) (v ∷ vs) h = λ i. record { held = sym h.0 i; room = v.room } ∷ cleared_again bs vs h.1.1 i

-- two numbers more for one buffer more
pub two_more : (cells : List ℕ) (k : ℕ) (xs : List ℕ) → xs ≡ cells ++ zeros (2 * k) → (xs ++ 0 ∷ []) ++ 0 ∷ [] ≡ cells ++ zeros (2 * (k + 1))
two_more cells k xs e =
    let more : 2 * k + 2 ≡ 2 * (k + 1) = omega arith in
    append_assoc xs (0 ∷ []) (0 ∷ [])
    ∙ ap (λ ys. ys ++ zeros 2) e
    ∙ append_assoc cells (zeros (2 * k)) (zeros 2)
    ∙ ap (λ ys. cells ++ ys) (replicate-append-replicate (2 * k) 2 0 ∙ ap zeros more)

-- the entry point's definition, by what there is of it
pub at_entry : (m : Module) (entry : Entry) (place cells : ℕ) (vs : List BufferView) → slice_get m.entries entry.number ≡ Some place → AreOfEntry m entry cells vs → AreOfDefinition (slice_get m.definitions place) cells vs
at_entry m entry place cells vs e h = subst (λ o. AreOfDefinition (definition_at m o) cells vs) e h

pub definition_placed : (o : Option TypeDef) (n first : ℕ) (vs : List BufferView) → AreOfDefinition o first vs → n ≡ first + 2 * length vs → IsPlaced o (places_from 0 n) first (rooms_of vs)
definition_placed None n first vs h all = tt
definition_placed (Some d) n first vs h all = entry_placed d n first vs h.0 all h.1

pub buffers_for : (o : Option TypeDef) (cells : ℕ) (vs : List BufferView) → AreOfDefinition o cells vs → (bs : List Buffer) × AreBuffersFor bs vs
buffers_for None cells vs h = ([], subst (AreBuffersFor []) (sym h) tt)
buffers_for (Some d) cells vs h = (d.buffers, h.1)

pub count_of : (o : Option TypeDef) (cells : ℕ) (vs : List BufferView) → AreOfDefinition o cells vs → buffers_at o ≡ length vs
count_of None cells vs h = ap length (sym h)
count_of (Some d) cells vs h = sym (as_many d.buffers vs h.1)
