-- Arrays up to a zero.
use Rattle.std.proofs.Common.{◌≡◌, ℕ, zero, suc, ◌+◌, ◌-◌, ◌*◌, ◌/◌, ◌<◌, ◌≤◌, min, Bool, true, false, cond, List, [], ◌∷◌, ◌++◌, length, drop, refl, sym, ap, ◌∙◌, subst, arith, append_assoc, length-append, Option, Some, None}
use Rattle.std.specs.Prelude.{nat_eq, nat_le}
use Rattle.std.proofs.lemmas.Bool.{le-leb, lt-leb, leb-true, leb-false, false≢true}
use Rattle.std.proofs.lemmas.Option.{none-some, same_Some}
use Rattle.std.proofs.lemmas.List.{append-nil}
use Rattle.std.proofs.Math.Nat.{le-div_iff_mul-le}
use Rattle.td_num.specs.Numbers.{bytes_in, number_at}
use Rattle.td_write_spells.specs.Imports.{NumberType, Reason, NotEnough, Constraint, Shape, Range, Broken, Size, Long}
use Rattle.td_core.specs.Outcome.{Ending, Accepted, Rejected, Behavior, accepted}
use Rattle.td_meaning.specs.Meaning.{taken, up_to_zero, pick}
use Rattle.td_meaning.proofs.Zeros.{zero_turns, turns_of, turns_none, turns_on}
use Rattle.td_write_values.specs.declared.limits.TheConstants.{MOST_WRITTEN}
use Rattle.td_write_values.specs.Datum.{Datum, Number, Sequence, Bytes, Empty, list_of}
use Rattle.td_write_values.specs.Bytes.{number_bytes, fits}
use Rattle.td_write_values.specs.Spelling.{Spelled, bytes_alone, only, sized, is_some_size, is_empty, ends_in_zero, spelled_number, spelled_items, spelled_up_to_zero}
use Rattle.td_write_values.specs.Writing.{Claim, Written, Done, Refused, after_writing, followed, wanted, of_size, has_room, number_written, items_written, up_to_zero_written}
use Rattle.td_write_spells.specs.Laws.{FailsFor}
use Rattle.td_write_spells.proofs.Numbers.{drop_past, number_is, bytes_some}
use Rattle.td_write_spells.proofs.Told.{UpTo, Told, AllAt, ends_of, as_spelled, joined_some, only_some, sized_some, told_wanted}
use Rattle.td_write_spells.proofs.Arrays.{number_told, items_told, Turns}
use Rattle.td_meaning.proofs.Filling.{taken_long}
use Rattle.td_write_values.proofs.Lengths.{number_length}

-- Numbers leave the cells as they are, and pass every test

abbrev Plain : List ℕ → Written → Type 0
Plain cells (Done s more claims) = more ≡ cells
Plain cells (Refused Shape path) = Unit {0}
Plain cells (Refused Range path) = Unit {0}
Plain cells (Refused (Broken reason) path) = ⊥
Plain cells (Refused Size path) = Unit {0}
Plain cells (Refused Long path) = Unit {0}

plain_number : (t : NumberType) (path : List ℕ) (p : ℕ) (cells : List ℕ) (v : Datum) → Plain cells (number_written t path p cells v)
plain_number t path p cells (Number n) = by (fits t None n) (has_room p (bytes_in t.width))
  where
    by : (f r : Bool) → Plain cells (wanted f Range path (wanted r Long path (Done (number_bytes t n) cells [])))
    by false r = tt
    by true false = tt
    by true true = refl
plain_number t path p cells (Sequence vs) = tt
plain_number t path p cells (Bytes bytes) = tt
plain_number t path p cells Empty = tt

plain_sized : (cells : List ℕ) (test : ℕ → Bool) (path : List ℕ) (w : Written) → Plain cells w → Plain cells (of_size test path w)
plain_sized cells test path (Done s more claims) h = by (test (length s))
  where
    by : (v : Bool) → Plain cells (wanted v Size path (Done s more claims))
    by true = h
    by false = tt
plain_sized cells test path (Refused Shape at) h = tt
plain_sized cells test path (Refused Range at) h = tt
plain_sized cells test path (Refused (Broken reason) at) h = h
plain_sized cells test path (Refused Size at) h = tt
plain_sized cells test path (Refused Long at) h = tt

plain_after : (cells s : List ℕ) (claims : List Claim) (w : Written) → Plain cells w → Plain cells (after_writing s claims w)
plain_after cells s claims (Done t more others) h = h
plain_after cells s claims (Refused Shape at) h = tt
plain_after cells s claims (Refused Range at) h = tt
plain_after cells s claims (Refused (Broken reason) at) h = h
plain_after cells s claims (Refused Size at) h = tt
plain_after cells s claims (Refused Long at) h = tt

plain_followed : (cells : List ℕ) (p : ℕ) (w : Written) (go : ℕ → List ℕ → Written) → Plain cells w → ((q : ℕ) → Plain cells (go q cells)) → Plain cells (followed w p go)
plain_followed cells p (Done s more claims) go h next =
    plain_after cells s claims (go (p + length s) more) (subst (λ c. Plain cells (go (p + length s) c)) (sym h) (next (p + length s)))
plain_followed cells p (Refused Shape at) go h next = tt
plain_followed cells p (Refused Range at) go h next = tt
plain_followed cells p (Refused (Broken reason) at) go h next = h
plain_followed cells p (Refused Size at) go h next = tt
plain_followed cells p (Refused Long at) go h next = tt

plain_items : (t : NumberType) (path : List ℕ) (i p : ℕ) (cells : List ℕ) (vs : List Datum) → Plain cells (items_written (number_written t) path i p cells vs)
unfolding items_written
plain_items t path i p cells [] = refl
plain_items t path i p cells (v ∷ vs) =
    plain_followed cells p (of_size is_some_size (path ++ i ∷ []) (number_written t (path ++ i ∷ []) p cells v)) (λ q cells. items_written (number_written t) path (suc i) q cells vs)
    (plain_sized cells is_some_size (path ++ i ∷ []) (number_written t (path ++ i ∷ []) p cells v) (plain_number t (path ++ i ∷ []) p cells v))
    (λ q. plain_items t path (suc i) q cells vs)

-- What spells numbers

-- numbers in an array
abbrev each_number : NumberType → ℕ → List ℕ → Datum → Option Spelled
each_number t q cells v = spelled_number t cells v

number_some : (t : NumberType) (cells : List ℕ) (v : Datum) (a : Spelled) → spelled_number t cells v ≡ Some a → (n : ℕ) × (v ≡ Number n) × (fits t None n ≡ true) × (a.bytes ≡ number_bytes t n)
number_some t cells (Number n) a e =
    let h = only_some (fits t None n) (Some (bytes_alone (number_bytes t n) cells)) a e in
    (n, refl, h.0, ap (λ (y : Spelled). y.bytes) (sym (same_Some (bytes_alone (number_bytes t n) cells) a h.1)))
number_some t cells (Sequence vs) a e = absurd (none-some a e)
number_some t cells (Bytes bytes) a e = absurd (none-some a e)
number_some t cells Empty a e = absurd (none-some a e)

items_length : (t : NumberType) (p : ℕ) (cells : List ℕ) (vs : List Datum) (a : Spelled) → spelled_items (each_number t) p cells vs ≡ Some a → length a.bytes ≡ length vs * bytes_in t.width
unfolding spelled_items
items_length t p cells [] a e =
    let none : bytes_alone [] cells ≡ a = same_Some (bytes_alone [] cells) a e in
    let z : length a.bytes ≡ 0 = ap (λ (y : Spelled). length y.bytes) (sym none) in
    omega (arith, z)
items_length t p cells (v ∷ vs) a e =
    let j = joined_some (sized is_some_size (spelled_number t cells v)) p (λ q cells. spelled_items (each_number t) q cells vs) a e in
    let x : Spelled = j.0 in
    let u : Spelled = j.1 in
    let one = number_some t cells v x (sized_some is_some_size (spelled_number t cells v) x j.2).0 in
    let len : length a.bytes ≡ length x.bytes + length u.bytes = ap length j.4.bytes ∙ length-append x.bytes u.bytes in
    let first : length x.bytes ≡ bytes_in t.width = ap length one.3 ∙ number_length t one.0 in
    let later : length u.bytes ≡ length vs * bytes_in t.width = items_length t (p + length x.bytes) x.cells vs u j.3 in
    let grown : suc (length vs) * bytes_in t.width ≡ bytes_in t.width + length vs * bytes_in t.width = omega arith in
    omega (arith, len, first, later, grown)

abbrev run_end : Bool → Reason → ℕ → ℕ → List ℕ → Ending
run_end true reason start q cells = Accepted q cells
run_end false reason start q cells = Rejected reason start [] cells

more_room : (a b : ℕ) → nat_le (suc a) (suc b) ≡ nat_le a b
more_room a b = by (nat_le a b) refl
  where
    by : (v : Bool) → nat_le a b ≡ v → nat_le (suc a) (suc b) ≡ v
    by true e = let le : a ≤ b = leb-true a b e in let more : suc a ≤ suc b = omega (arith, le) in le-leb (suc a) (suc b) more
    by false e = let lt : b < a = leb-false a b e in let more : suc b < suc a = omega (arith, lt) in lt-leb (suc a) (suc b) more

-- they run to the first zero, which is the last of them, where that many are looked at
zero_run : (t : NumberType) (vs : List Datum) (o : ℕ) (old : List ℕ) (a : Spelled) → spelled_items (each_number t) o old vs ≡ Some a → ends_in_zero vs ≡ true
    → (m p : ℕ) (b post : List ℕ) (reason : Reason) (start : ℕ) (cells : List ℕ) → drop p b ≡ a.bytes ++ post
    → (zero_turns t b reason start m p cells).ending ≡ run_end (nat_le (length vs) m) reason start (p + length a.bytes) cells
unfolding spelled_items
zero_run t [] o old a e z m p b post reason start cells at = absurd (false≢true z)
zero_run t (v ∷ vs) o old a e z zero p b post reason start cells at =
    ap (λ (x : Behavior). x.ending) (turns_none t b reason start 0 p cells refl)
    ∙ ap (λ x. run_end x reason start (p + length a.bytes) cells) (sym (lt-leb (length (v ∷ vs)) 0 (omega arith)))
zero_run t (v ∷ vs) o old a e z (suc m) p b post reason start cells at =
    let w = bytes_in t.width in
    let j = joined_some (sized is_some_size (spelled_number t old v)) o (λ q cells. spelled_items (each_number t) q cells vs) a e in
    let x : Spelled = j.0 in
    let u : Spelled = j.1 in
    let one = number_some t old v x (sized_some is_some_size (spelled_number t old v) x j.2).0 in
    let at' : drop p b ≡ number_bytes t one.0 ++ (u.bytes ++ post) = at ∙ ap (λ y. y ++ post) j.4.bytes ∙ append_assoc x.bytes u.bytes post ∙ ap (λ y. y ++ (u.bytes ++ post)) one.3 in
    let value : number_at t b p ≡ one.0 = number_is t one.0 p b (u.bytes ++ post) one.2 at' in
    let first : length (number_bytes t one.0) ≡ w = number_length t one.0 in
    let len : p + length a.bytes ≡ p + w + length u.bytes = ap (λ y. p + length y) j.4.bytes ∙ omega (arith, length-append x.bytes u.bytes, ap length one.3, first) in
    let later : drop (p + w) b ≡ u.bytes ++ post = ap (λ k. drop (p + k) b) (sym first) ∙ drop_past p b (number_bytes t one.0) (u.bytes ++ post) at' in
    let zeros : ends_in_zero (Number one.0 ∷ vs) ≡ true = ap (λ x. ends_in_zero (x ∷ vs)) (sym one.1) ∙ z in
    ap (λ (x : Behavior). x.ending) (turns_on t b reason start (suc m) m p cells (nat_eq one.0 0) refl (ap (λ n. nat_eq n 0) value))
    ∙ by (nat_eq one.0 0) vs (o + length x.bytes) x.cells u j.3 zeros (λ g. zero_run t vs (o + length x.bytes) x.cells u j.3 g m (p + w) b post reason start cells later)
    ∙ ap (λ k. run_end (nat_le (suc (length vs)) (suc m)) reason start k cells) (sym len)
  where
    by : (x : Bool) (ws : List Datum) (o : ℕ) (old : List ℕ) (u : Spelled) → spelled_items (each_number t) o old ws ≡ Some u → pick x (is_empty ws) (ends_in_zero ws) ≡ true
        → (ends_in_zero ws ≡ true → (zero_turns t b reason start m (p + bytes_in t.width) cells).ending ≡ run_end (nat_le (length ws) m) reason start (p + bytes_in t.width + length u.bytes) cells)
        → (cond x (accepted (p + bytes_in t.width) cells) (zero_turns t b reason start m (p + bytes_in t.width) cells)).ending ≡ run_end (nat_le (suc (length ws)) (suc m)) reason start (p + bytes_in t.width + length u.bytes) cells
    by true [] o old u e g later =
        let none : bytes_alone [] old ≡ u = same_Some (bytes_alone [] old) u e in
        let here : p + bytes_in t.width ≡ p + bytes_in t.width + length u.bytes = omega (arith, ap (λ (y : Spelled). length y.bytes) none) in
        let enough : suc (length {A = Datum} []) ≤ suc m = omega arith in
        ap (λ q. Accepted q cells) here ∙ ap (λ x. run_end x reason start (p + bytes_in t.width + length u.bytes) cells) (sym (le-leb (suc (length {A = Datum} [])) (suc m) enough))
    by true (y ∷ ys) o old u e g later = absurd (false≢true g)
    by false ws o old u e g later = later g ∙ ap (λ x. run_end x reason start (p + bytes_in t.width + length u.bytes) cells) (sym (more_room (length ws) m))

-- Their bound

bound_told : (p turns : ℕ) (w : Written) (sp : Option Spelled) (v : Bool) (path cells : List ℕ) (all means : List ℕ → ℕ → Ending)
    → ((b post : List ℕ) (x : Spelled) (end : ℕ) → v ≡ true → sp ≡ Some x → drop p b ≡ x.bytes ++ post → p + length x.bytes ≤ end → all b end ≡ Accepted (p + length x.bytes) cells)
    → ((b post : List ℕ) (x : Spelled) (end : ℕ) → v ≡ false → sp ≡ Some x → drop p b ≡ x.bytes ++ post → p + length x.bytes ≤ end → FailsFor Constraint (all b end))
    → Told (Turns turns) p w sp means → Plain cells w
    → Told (UpTo false) p (followed w p (λ q more. wanted v (Broken Constraint) path (Done [] more []))) sp all
bound_told p turns (Done s more claims) sp v path cells all means accepts fails h plain = by v refl
  where
    x : Spelled
    x = as_spelled s more claims

    by : (y : Bool) → v ≡ y → Told (UpTo false) p (after_writing s claims (wanted y (Broken Constraint) path (Done [] more []))) sp all
    by true e =
        let same : s ++ [] ≡ s = append-nil s in
        let none : claims ++ [] ≡ claims = append-nil claims in
        let len : length (s ++ []) ≡ length s = ap length same in (
          h.0 ∙ (λ k. Some (as_spelled (sym same k) more (sym none k))),
          (
            subst (λ n. p + n ≤ MOST_WRITTEN) (sym len) h.1.0,
            λ b post end at fit ends.
                let in_end : p + length s ≤ end = omega (arith, fit, len) in
                accepts b post x end e h.0 (at ∙ ap (λ x. x ++ post) same) in_end ∙ (λ k. Accepted (p + sym len k) (sym plain k)),
          ),
        )
    by false e = λ b post u end f at fit ends. fails b post u end e f at fit
bound_told p turns (Refused Shape at) sp v path cells all means accepts fails h plain = h
bound_told p turns (Refused Range at) sp v path cells all means accepts fails h plain = h
bound_told p turns (Refused (Broken reason) at) sp v path cells all means accepts fails h plain = absurd plain
bound_told p turns (Refused Size at) sp v path cells all means accepts fails h plain = h
bound_told p turns (Refused Long at) sp v path cells all means accepts fails h plain = h

module _ (t : NumberType) (size : ℕ) (path : List ℕ) (p : ℕ) (cells : List ℕ) (le : p ≤ MOST_WRITTEN) where
  -- how many are looked at, of those that there are
  looked : (vs : List Datum) (b post : List ℕ) (a : Spelled) (end : ℕ) → ends_in_zero vs ≡ true → spelled_items (each_number t) p cells vs ≡ Some a → drop p b ≡ a.bytes ++ post → p + length a.bytes ≤ end
      → (length vs ≤ (end - p) / bytes_in t.width)
      × ((up_to_zero t size b end p cells).ending ≡ run_end (nat_le (length vs) (min (size / bytes_in t.width) ((end - p) / bytes_in t.width))) (cond (nat_le (size / bytes_in t.width) ((end - p) / bytes_in t.width)) Constraint NotEnough) p (p + length a.bytes) cells)
  looked vs b post a end z e at fit =
      let w = bytes_in t.width in
      let bound = size / w in
      let room = (end - p) / w in
      let len : length a.bytes ≡ length vs * w = items_length t p cells vs a e in
      let inside : length vs * w ≤ end - p = omega (arith, fit, len) in (
        fits_in (length vs) w (end - p) (bytes_some t) inside,
        ap (λ (x : Behavior). x.ending) (turns_of t size b end p cells) ∙ zero_run t vs p cells a e z (min bound room) p b post (cond (nat_le bound room) Constraint NotEnough) p cells at,
      )
    where
      fits_in : (k w n : ℕ) → 0 < w → k * w ≤ n → k ≤ n / w
      fits_in k w n pos h = (le-div_iff_mul-le pos).1 h

  list_ended : (vs : List Datum) → ends_in_zero vs ≡ true
      → Told (UpTo false) p (followed (items_written (number_written t) path 0 p cells vs) p (λ q more. wanted (nat_le (length vs) (size / bytes_in t.width)) (Broken Constraint) path (Done [] more []))) (spelled_items (each_number t) p cells vs) (λ b end. (up_to_zero t size b end p cells).ending)
  list_ended vs z =
      let w = bytes_in t.width in
      let bound = size / w in
      bound_told p 0 (items_written (number_written t) path 0 p cells vs) (spelled_items (each_number t) p cells vs) (nat_le (length vs) bound) path cells (λ b end. (up_to_zero t size b end p cells).ending) _
      (λ b post x end v e at fit.
      let h = looked vs b post x end z e at fit in
      let room = (end - p) / w in
      let few : length vs ≤ min bound room = omega (arith, leb-true (length vs) bound v, h.0) in
      h.1 ∙ ap (λ y. run_end y (cond (nat_le bound room) Constraint NotEnough) p (p + length x.bytes) cells) (le-leb (length vs) (min bound room) few))
      (λ b post x end v e at fit.
      let h = looked vs b post x end z e at fit in
      let room = (end - p) / w in
      let less : bound < length vs = leb-false (length vs) bound v in
      let many : min bound room < length vs = omega (arith, less) in
      let reached : bound ≤ room = omega (arith, less, h.0) in
      let is : (up_to_zero t size b end p cells).ending ≡ Rejected Constraint p [] cells =
      h.1 ∙ ap (λ y. run_end y (cond (nat_le bound room) Constraint NotEnough) p (p + length x.bytes) cells) (lt-leb (length vs) (min bound room) many) ∙ ap (λ y. Rejected (cond y Constraint NotEnough) p [] cells) (le-leb bound room reached) in
      subst (FailsFor Constraint) (sym is) refl)
      (items_told (number_written t) (each_number t) (λ b end q cells. taken w q end q cells) numbers 0 0 path 0 p cells vs le)
      (plain_items t path 0 p cells vs)
    where
      numbers : (path : List ℕ) (q : ℕ) (cells : List ℕ) (v : Datum) → q ≤ MOST_WRITTEN → Told (UpTo false) q (number_written t path q cells v) (spelled_number t cells v) (λ b end. (taken (bytes_in t.width) q end q cells).ending)
      numbers path q cells v le =
          number_told t path q cells v (λ b end. (taken (bytes_in t.width) q end q cells).ending)
          (λ b end fit. ap (λ (x : Behavior). x.ending) (taken_long (bytes_in t.width) q end q cells fit))

  pub up_to_zero_told : (v : Datum) → Told (UpTo false) p (up_to_zero_written t size path p cells v) (spelled_up_to_zero t p cells v) (λ b end. (up_to_zero t size b end p cells).ending)
  up_to_zero_told (Number n) = refl
  up_to_zero_told (Sequence vs) =
      told_wanted (UpTo false) p (ends_in_zero (list_of vs)) Shape path _ (only (ends_in_zero (list_of vs)) (spelled_items (each_number t) p cells (list_of vs))) (λ b end. (up_to_zero t size b end p cells).ending)
      (λ z. ap (λ x. only x (spelled_items (each_number t) p cells (list_of vs))) z)
      (λ z. subst (λ x. Told (UpTo false) p (followed (items_written (number_written t) path 0 p cells (list_of vs)) p (λ q more. wanted (nat_le (length (list_of vs)) (size / bytes_in t.width)) (Broken Constraint) path (Done [] more []))) (only x (spelled_items (each_number t) p cells (list_of vs))) (λ b end. (up_to_zero t size b end p cells).ending)) (sym z) (list_ended (list_of vs) z))
  up_to_zero_told (Bytes bytes) = refl
  up_to_zero_told Empty = refl
