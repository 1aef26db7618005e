-- Numbers, bytes and arrays.
use Rattle.std.proofs.Common.{◌≡◌, ℕ, zero, suc, ◌+◌, ◌-◌, ◌<◌, ◌≤◌, Bool, true, false, cond, List, [], ◌∷◌, ◌++◌, length, drop, replicate, refl, sym, ap, ◌∙◌, subst, arith, Option, Some, None}
use Rattle.std.proofs.lemmas.Bool.{leb-true, leb-false, ne_eqb, false≢true}
use Rattle.std.proofs.lemmas.Option.{same_Some}
use Rattle.std.proofs.lemmas.List.{length-replicate}
use Rattle.td_num.specs.Numbers.{bytes_in}
use Rattle.td_write_spells.specs.Imports.{Width, One, Two, Four, Eight, ByteOrder, LittleEndian, BigEndian, NumberType, Constraint, Range, Broken, Long}
use Rattle.td_core.specs.Outcome.{Ending, Accepted, Behavior, accepted, onward, and_then}
use Rattle.td_meaning.specs.Meaning.{taken, elements, zeros_meaning}
use Rattle.td_meaning.proofs.Zeros.{zeros_none, zeros_on}
use Rattle.td_write_values.specs.declared.limits.TheConstants.{MOST_WRITTEN}
use Rattle.td_write_values.specs.Datum.{Datum, Number, Sequence, Bytes, Empty, list_of}
use Rattle.td_core.specs.Types.{is_octet}
use Rattle.td_write_values.specs.Bytes.{number_bytes, fits}
use Rattle.td_write_values.specs.Spelling.{Spelled, bytes_alone, only, sized, is_some_size, spelled_number, spelled_bytes, spelled_zeros, spelled_items, spelled_list}
use Rattle.td_write_values.specs.Writing.{Claim, Written, Done, wanted, of_size, has_room, number_written, of_enum, bytes_written, zeros_written, items_written, list_written}
use Rattle.td_write_spells.specs.Laws.{FailsFor}
use Rattle.td_write_spells.proofs.Numbers.{drop_head}
use Rattle.td_write_values.proofs.Lengths.{number_length}
use Rattle.td_write_spells.proofs.Told.{Fit, UpTo, Told, only_some, sized_some, fails_then, told_join, told_wanted, told_of_size}
use Rattle.td_meaning.proofs.Filling.{taken_long, elements_done}

no_room : (p n : ℕ) → has_room p n ≡ false → MOST_WRITTEN < p + n
no_room p n e = leb-false (p + n) MOST_WRITTEN e

room : (p n : ℕ) → has_room p n ≡ true → p + n ≤ MOST_WRITTEN
room p n e = leb-true (p + n) MOST_WRITTEN e

-- Numbers

-- a number whose bytes aren't tested
pub number_told : (t : NumberType) (path : List ℕ) (p : ℕ) (cells : List ℕ) (v : Datum) (all : List ℕ → ℕ → Ending)
    → ((b : List ℕ) (end : ℕ) → p + bytes_in t.width ≤ end → all b end ≡ Accepted (p + bytes_in t.width) cells)
    → Told (UpTo false) p (number_written t path p cells v) (spelled_number t cells v) all
number_told t path p cells (Number n) all holds =
    let w = bytes_in t.width in
    let x = bytes_alone (number_bytes t n) cells in
    let len : length (number_bytes t n) ≡ w = number_length t n in
    told_wanted (UpTo false) p (fits t None n) Range path _ (only (fits t None n) (Some x)) all
    (λ e. ap (λ v. only v (Some x)) e)
    (λ e. told_wanted (UpTo false) p (has_room p w) Long path _ (only (fits t None n) (Some x)) all
    (λ r a f. let g : x ≡ a = same_Some x a (only_some (fits t None n) (Some x) a f).1 in omega (arith, no_room p w r, len, ap (λ (y : Spelled). length y.bytes) g))
    (λ r. (
      ap (λ v. only v (Some x)) e,
      (
        omega (arith, room p w r, len),
        λ b post end at fit ends.
            let in_end : p + w ≤ end = omega (arith, fit, len) in
            holds b end in_end ∙ ap (λ k. Accepted (p + k) cells) (sym len),
      ),
    )))
number_told t path p cells (Sequence vs) all holds = refl
number_told t path p cells (Bytes bytes) all holds = refl
number_told t path p cells Empty all holds = refl

-- the test of an enum stands behind that of its number's range
enum_last : (b f r : Bool) (path s cells : List ℕ)
    → of_enum b path (wanted f Range path (wanted r Long path (Done s cells []))) ≡ wanted f Range path (wanted r Long path (wanted b (Broken Constraint) path (Done s cells [])))
enum_last true f r path s cells = by f r
  where
    by : (f r : Bool) → wanted f Range path (wanted r Long path (Done s cells [])) ≡ wanted f Range path (wanted r Long path (Done s cells []))
    by f r = refl
enum_last false true true path s cells = refl
enum_last false true false path s cells = refl
enum_last false false r path s cells = refl

-- an enum's number
pub listed_told : (t : NumberType) (listed : Bool) (path : List ℕ) (p : ℕ) (cells : List ℕ) (n : ℕ) (all : List ℕ → ℕ → Ending)
    → ((b post : List ℕ) (end : ℕ) → fits t None n ≡ true → listed ≡ true → drop p b ≡ number_bytes t n ++ post → p + bytes_in t.width ≤ end → all b end ≡ Accepted (p + bytes_in t.width) cells)
    → ((b post : List ℕ) (end : ℕ) → fits t None n ≡ true → listed ≡ false → drop p b ≡ number_bytes t n ++ post → p + bytes_in t.width ≤ end → FailsFor Constraint (all b end))
    → Told (UpTo false) p (of_enum listed path (number_written t path p cells (Number n))) (only (fits t None n) (Some (bytes_alone (number_bytes t n) cells))) all
listed_told t listed path p cells n all holds lacks =
    let w = bytes_in t.width in
    let x = bytes_alone (number_bytes t n) cells in
    let len : length (number_bytes t n) ≡ w = number_length t n in
    let spelled = only (fits t None n) (Some x) in
    subst (λ y. Told (UpTo false) p y spelled all) (sym (enum_last listed (fits t None n) (has_room p w) path (number_bytes t n) cells))
    (told_wanted (UpTo false) p (fits t None n) Range path _ spelled all
    (λ e. ap (λ v. only v (Some x)) e)
    (λ e. told_wanted (UpTo false) p (has_room p w) Long path _ spelled all
    (λ r a f. let g : x ≡ a = same_Some x a (only_some (fits t None n) (Some x) a f).1 in omega (arith, no_room p w r, len, ap (λ (y : Spelled). length y.bytes) g))
    (λ r. told_wanted (UpTo false) p listed (Broken Constraint) path _ spelled all
    (λ a b post y end f at fit ends.
    let g : x ≡ y = same_Some x y (only_some (fits t None n) (Some x) y f).1 in
    let same : number_bytes t n ≡ y.bytes = ap (λ (z : Spelled). z.bytes) g in
    let in_end : p + w ≤ end = omega (arith, fit, len, ap length same) in
    lacks b post end e a (at ∙ ap (λ z. z ++ post) (sym same)) in_end)
    (λ a. (
      ap (λ v. only v (Some x)) e,
      (
        omega (arith, room p w r, len),
        λ b post end at fit ends.
            let in_end : p + w ≤ end = omega (arith, fit, len) in
            holds b post end e a at in_end ∙ ap (λ k. Accepted (p + k) cells) (sym len),
      ),
    )))))

-- the bytes that were written spell it
pub number_spelled : (t : NumberType) (n : ℕ) (path : List ℕ) (p : ℕ) (cells s more : List ℕ) (claims : List Claim) → number_written t path p cells (Number n) ≡ Done s more claims
    → (only (fits t None n) (Some (bytes_alone (number_bytes t n) cells)) ≡ Some (bytes_alone s more)) × (claims ≡ [])
number_spelled t n path p cells s more claims w = by (fits t None n) (has_room p (bytes_in t.width)) w
  where
    by : (f r : Bool) → wanted f Range path (wanted r Long path (Done (number_bytes t n) cells [])) ≡ Done s more claims → (only f (Some (bytes_alone (number_bytes t n) cells)) ≡ Some (bytes_alone s more)) × (claims ≡ [])
    by true true e =
        let bytes : number_bytes t n ≡ s = cc in
        let left : cells ≡ more = cc in
        let none : [] ≡ claims = cc in
        (λ k. Some (bytes_alone (bytes k) (left k)), sym none)
    by true false e = absurd (cc)
    by false r e = absurd (cc)

-- Bytes

pub bytes_told : (Q : Fit) (path : List ℕ) (p : ℕ) (cells : List ℕ) (v : Datum) (all : List ℕ → ℕ → Ending)
    → ((bytes b : List ℕ) (end : ℕ) → Q p (p + length bytes) end → all b end ≡ Accepted (p + length bytes) cells)
    → Told Q p (bytes_written path p cells v) (spelled_bytes cells v) all
bytes_told Q path p cells (Number n) all holds = refl
bytes_told Q path p cells (Sequence vs) all holds = refl
bytes_told Q path p cells (Bytes bytes) all holds =
    let x = bytes_alone bytes cells in
    told_wanted Q p (has_room p (length bytes)) Long path (Done bytes cells []) (Some x) all
    (λ r a f. let g : x ≡ a = same_Some x a f in omega (arith, no_room p (length bytes) r, ap (λ (y : Spelled). length y.bytes) g))
    (λ r. (refl, (room p (length bytes) r, λ b post end at fit ends. holds bytes b end fit)))
bytes_told Q path p cells Empty all holds = refl

zeros_are : (n p : ℕ) (b post cells : List ℕ) (end : ℕ) → drop p b ≡ replicate n 0 ++ post → p + n ≡ end → (zeros_meaning b end p cells).ending ≡ Accepted end cells
zeros_are zero p b post cells end at e =
    let same : p ≡ end = omega (arith, e) in
    ap (λ (t : Behavior). t.ending) (zeros_none b end p cells same) ∙ ap (λ q. Accepted q cells) same
zeros_are (suc n) p b post cells end at e =
    let h = drop_head p b 0 (replicate n 0 ++ post) at in
    let left : end - p ≡ suc n = omega (arith, e) in
    let next : p + 1 + n ≡ end = omega (arith, e) in
    ap (λ (t : Behavior). t.ending) (zeros_on b end p n cells left h.0) ∙ zeros_are n (p + 1) b post cells end h.1 next

pub zeros_told : (path : List ℕ) (p : ℕ) (cells : List ℕ) (v : Datum) → Told (UpTo true) p (zeros_written path p cells v) (spelled_zeros cells v) (λ b end. (zeros_meaning b end p cells).ending)
zeros_told path p cells (Number n) =
    let zeros : List ℕ = replicate n 0 in
    let x = bytes_alone zeros cells in
    let len : length zeros ≡ n = length-replicate n 0 in
    told_wanted (UpTo true) p (has_room p n) Long path (Done zeros cells []) (Some x) (λ b end. (zeros_meaning b end p cells).ending)
    (λ r a f. let g : x ≡ a = same_Some x a f in omega (arith, no_room p n r, len, ap (λ (y : Spelled). length y.bytes) g))
    (λ r. (
      refl,
      (
        omega (arith, room p n r, len),
        λ b post end at fit ends.
            let whole : p + n ≡ end = omega (arith, fit, len) in
            zeros_are n p b post cells end at whole ∙ ap (λ q. Accepted q cells) (sym fit),
      ),
    ))
zeros_told path p cells (Sequence vs) = refl
zeros_told path p cells (Bytes bytes) = refl
zeros_told path p cells Empty = refl

-- Elements one after the other

pub elements_on : (each : ℕ → List ℕ → Behavior) (turns more start end p : ℕ) (cells : List ℕ) → turns ≡ suc more → (p ≡ end → ⊥) → (elements each turns start end p cells).ending ≡ (and_then (each p cells) (elements each more start end)).ending
unfolding elements
elements_on each turns more start end p cells e apart =
    ap (λ n. (elements each n start end p cells).ending) e
    ∙ ap (λ v. (cond v (accepted p cells) (and_then (each p cells) (elements each more start end))).ending) (ne_eqb p end apart)

-- all bytes up to the end, for which the turns are enough
abbrev pub Turns : ℕ → Fit
Turns turns p q end = (q ≡ end) × (end < p + turns)

some_size : (n : ℕ) → is_some_size n ≡ true → 0 < n
some_size zero e = absurd (false≢true e)
some_size (suc n) e = omega arith

module _ (each : List ℕ → ℕ → List ℕ → Datum → Written) (spells : ℕ → List ℕ → Datum → Option Spelled) (means : List ℕ → ℕ → ℕ → List ℕ → Behavior)
    (told : (path : List ℕ) (p : ℕ) (cells : List ℕ) (v : Datum) → p ≤ MOST_WRITTEN → Told (UpTo false) p (each path p cells v) (spells p cells v) (λ b end. (means b end p cells).ending)) where
  pub items_told : (start turns : ℕ) (path : List ℕ) (i p : ℕ) (cells : List ℕ) (vs : List Datum) → p ≤ MOST_WRITTEN
      → Told (Turns turns) p (items_written each path i p cells vs) (spelled_items spells p cells vs) (λ b end. (elements (means b end) turns start end p cells).ending)
  unfolding items_written spelled_items
  items_told start turns path i p cells [] le = (
    refl,
    (
      omega (arith, le),
      λ b post end at fit ends.
          let one : turns ≡ suc (turns - 1) = omega (arith, fit.0, fit.1) in
          let here : p ≡ end = omega (arith, fit.0) in
          let same : p ≡ p + 0 = omega arith in
          elements_done (means b end) turns (turns - 1) start end p cells one here ∙ ap (λ q. Accepted q cells) same,
    ),
  )
  items_told start turns path i p cells (v ∷ vs) le =
      told_join (Turns turns) (UpTo false) (Turns (turns - 1)) p (of_size is_some_size (path ++ i ∷ []) (each (path ++ i ∷ []) p cells v)) (λ q cells. items_written each path (suc i) q cells vs)
      (sized is_some_size (spells p cells v)) (λ q cells. spelled_items spells q cells vs) (λ b end. (means b end p cells).ending)
      (λ s cells b end. (elements (means b end) (turns - 1) start end (p + length s) cells).ending)
      (λ b end. (elements (means b end) turns start end p cells).ending)
      (λ x u end e f fit. omega (arith, fit.0))
      (λ b post x u end e f at fit ends m.
      let pos : 0 < length x.bytes = some_size (length x.bytes) (sized_some is_some_size (spells p cells v) x e).1 in
      let one : turns ≡ suc (turns - 1) = omega (arith, fit.0, fit.1, pos) in
      let apart : p ≡ end → ⊥ = λ z. omega (arith, fit.0, pos, z) in
      let enough : end < p + length x.bytes + (turns - 1) = omega (arith, fit.1, pos) in (
        elements_on (means b end) turns (turns - 1) start end p cells one apart
            ∙ ap (λ o. (onward o (means b end p cells).reads (elements (means b end) (turns - 1) start end)).ending) m,
        (fit.0, enough),
      ))
      (λ reason b post x u end e fit h.
      let pos : 0 < length x.bytes = some_size (length x.bytes) (sized_some is_some_size (spells p cells v) x e).1 in
      let one : turns ≡ suc (turns - 1) = omega (arith, fit.0, fit.1, pos) in
      let apart : p ≡ end → ⊥ = λ z. omega (arith, fit.0, pos, z) in
      subst (FailsFor reason) (sym (elements_on (means b end) turns (turns - 1) start end p cells one apart)) (fails_then reason (means b end p cells).ending (means b end p cells).reads (elements (means b end) (turns - 1) start end) h))
      (told_of_size (UpTo false) p is_some_size (path ++ i ∷ []) (each (path ++ i ∷ []) p cells v) (spells p cells v) (λ b end. (means b end p cells).ending) (told (path ++ i ∷ []) p cells v le))
      (λ s more claims e le. items_told start (turns - 1) path (suc i) (p + length s) more vs le)

  pub list_told : (start turns : ℕ) (path : List ℕ) (p : ℕ) (cells : List ℕ) (v : Datum) → p ≤ MOST_WRITTEN
      → Told (Turns turns) p (list_written each path p cells v) (spelled_list spells p cells v) (λ b end. (elements (means b end) turns start end p cells).ending)
  list_told start turns path p cells (Number n) le = refl
  list_told start turns path p cells (Sequence vs) le = items_told start turns path 0 p cells (list_of vs) le
  list_told start turns path p cells (Bytes bytes) le = refl
  list_told start turns path p cells Empty le = refl

-- Bytes as elements

pub octet_one : (w : Width) (o : ByteOrder) → is_octet w o ≡ true → bytes_in w ≡ 1
octet_one One LittleEndian e = refl
octet_one One BigEndian e = absurd (false≢true e)
octet_one Two LittleEndian e = absurd (false≢true e)
octet_one Two BigEndian e = absurd (false≢true e)
octet_one Four LittleEndian e = absurd (false≢true e)
octet_one Four BigEndian e = absurd (false≢true e)
octet_one Eight LittleEndian e = absurd (false≢true e)
octet_one Eight BigEndian e = absurd (false≢true e)

pub bytes_run : (k turns w start end p : ℕ) (cells : List ℕ) → w ≡ 1 → p + k ≡ end → end < p + turns → (elements (taken w start end) turns start end p cells).ending ≡ Accepted end cells
bytes_run zero turns w start end p cells one e enough =
    let more : turns ≡ suc (turns - 1) = omega (arith, e, enough) in
    let here : p ≡ end = omega (arith, e) in
    elements_done (taken w start end) turns (turns - 1) start end p cells more here ∙ ap (λ q. Accepted q cells) here
bytes_run (suc k) turns w start end p cells one e enough =
    let more : turns ≡ suc (turns - 1) = omega (arith, e, enough) in
    let apart : p ≡ end → ⊥ = λ z. omega (arith, e, z) in
    let inside : p + w ≤ end = omega (arith, e, one) in
    let next : p + w + k ≡ end = omega (arith, e, one) in
    let left : end < p + w + (turns - 1) = omega (arith, one, enough) in
    elements_on (taken w start end) turns (turns - 1) start end p cells more apart
    ∙ ap (λ (t : Behavior). (and_then t (elements (taken w start end) (turns - 1) start end)).ending) (taken_long w start end p cells inside)
    ∙ bytes_run k (turns - 1) w start end (p + w) cells one next left
