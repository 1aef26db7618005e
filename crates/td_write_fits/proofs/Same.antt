-- What is written the same in both arithmetics, step by step.
use Rattle.std.proofs.Common.{◌≡◌, ℕ, suc, ◌+◌, ◌/◌, ◌≤◌, Bool, true, false, List, [], ◌∷◌, ◌++◌, length, replicate, refl, ap, ◌∙◌, arith, length-append}
use Rattle.std.specs.Prelude.{nat_eq, nat_le, Option, None}
use Rattle.std.proofs.lemmas.Bool.{leb-true}
use Rattle.std.proofs.lemmas.List.{length-replicate}
use Rattle.td_num.specs.Numbers.{bytes_in}
use Rattle.td_num.specs.declared.number.NumberType.{NumberType}
use Rattle.td_core.specs.declared.module.CopyOut.{CopyOut}
use Rattle.td_core.specs.declared.module.Element.{Element}
use Rattle.td_core.specs.declared.module.Element.TheVariants as element
use Rattle.td_core.specs.declared.module.Source.{Source}
use Rattle.td_core.specs.declared.module.Source.TheVariants.{Expression, Cell as FromCell, Left}
use Rattle.td_core.specs.declared.outcome.Reason.TheVariants.{Constraint}
use Rattle.td_core.specs.Formed.{Bound, AllFit}
use Rattle.td_core.specs.Outcome.{Ending, Accepted, Rejected}
use Rattle.td_meaning.specs.Throughout.{OnEnding}
use Rattle.td_write_values.specs.declared.error.WriteRule.{WriteRule}
use Rattle.td_write_values.specs.declared.error.WriteRule.TheVariants.{Shape, Range, Broken, Size, Long}
use Rattle.td_write_values.specs.declared.limits.TheConstants.{MOST_WRITTEN}
use Rattle.td_write_values.specs.Datum.{Datum, Number, Sequence, Bytes, Empty, list_of}
use Rattle.td_write_values.specs.Bytes.{fits}
use Rattle.td_write_values.specs.Spelling.{is_some_size, ends_in_zero, noted}
use Rattle.td_write_values.specs.Writing.{Claim, Written, Done, Refused, after_writing, followed, wanted, tested, of_size, agreed, settled, unlisted, of_enum, copied, has_room, number_written, bytes_written, zeros_written, unit_written, items_written, list_written, up_to_zero_written, zero_ended_written, left_written, source_written, given_written}
use Rattle.td_write_values.proofs.Lengths.{number_length}

-- a fact of what was written
abbrev pub OnDone : Written → (List ℕ → List ℕ → Type 0) → Type 0
OnDone (Done s cells claims) P = P s cells
OnDone (Refused rule path) P = Unit {0}

-- it is within the limit, and the cells within their bounds
abbrev pub Kept : List Bound → ℕ → List ℕ → List ℕ → Type 0
Kept all p s cells = (p + length s ≤ MOST_WRITTEN) × AllFit all cells

abbrev pub Same : List Bound → ℕ → Written → Written → Type 0
Same all p w v = (w ≡ v) × OnDone v (Kept all p)

module _ (all : List Bound) where
  pub after_kept : (p : ℕ) (s : List ℕ) (claims : List Claim) (v : Written) → OnDone v (Kept all (p + length s)) → OnDone (after_writing s claims v) (Kept all p)
  after_kept p s claims (Done t cells others) h = (omega (arith, h.0, length-append s t), h.1)
  after_kept p s claims (Refused rule path) h = tt

  pub followed_same : (p : ℕ) (w v : Written) (go next : ℕ → List ℕ → Written) → Same all p w v
      → ((s cells : List ℕ) (claims : List Claim) → v ≡ Done s cells claims → Kept all p s cells → Same all (p + length s) (go (p + length s) cells) (next (p + length s) cells))
      → Same all p (followed w p go) (followed v p next)
  followed_same p w (Done s cells claims) go next h k =
      let l = k s cells claims refl h.1 in
      (ap (λ x. followed x p go) h.0 ∙ ap (after_writing s claims) l.0, after_kept p s claims (next (p + length s) cells) l.1)
  followed_same p w (Refused rule path) go next h k = (ap (λ x. followed x p go) h.0, tt)

  pub wanted_same : (p : ℕ) (b : Bool) (rule : WriteRule) (path : List ℕ) (w v : Written) → (b ≡ true → Same all p w v) → Same all p (wanted b rule path w) (wanted b rule path v)
  wanted_same p true rule path w v h = h refl
  wanted_same p false rule path w v h = (refl, tt)

  pub tested_same : (p : ℕ) (o u : Ending) (path : List ℕ) (go next : List ℕ → Written) (P : ℕ → List ℕ → Type 0) → o ≡ u → OnEnding u P
      → ((q : ℕ) (cells : List ℕ) → P q cells → Same all p (go cells) (next cells)) → Same all p (tested o path go) (tested u path next)
  tested_same p o (Accepted q cells) path go next P e h k = let l = k q cells h in (ap (λ x. tested x path go) e ∙ l.0, l.1)
  tested_same p o (Rejected reason q trace cells) path go next P e h k = (ap (λ x. tested x path go) e, tt)

  pub size_same : (p : ℕ) (test : ℕ → Bool) (path : List ℕ) (w v : Written) → Same all p w v → Same all p (of_size test path w) (of_size test path v)
  size_same p test path w (Done s cells claims) h = (ap (of_size test path) h.0, by (test (length s)))
    where
      by : (b : Bool) → OnDone (wanted b Size path (Done s cells claims)) (Kept all p)
      by true = h.1
      by false = tt
  size_same p test path w (Refused rule at) h = (ap (of_size test path) h.0, tt)

  agreed_kept : (p end : ℕ) (claims : List Claim) (v : Written) → OnDone v (Kept all p) → OnDone (agreed end claims v) (Kept all p)
  agreed_kept p end [] v h = h
  agreed_kept p end (c ∷ cs) v h = by (nat_eq c.end end) (agreed_kept p end cs v h)
    where
      by : (b : Bool) → OnDone (agreed end cs v) (Kept all p) → OnDone (wanted b Size c.path (agreed end cs v)) (Kept all p)
      by true rest = rest
      by false rest = tt

  pub settled_same : (p : ℕ) (w v : Written) → Same all p w v → Same all p (settled p w) (settled p v)
  settled_same p w (Done s cells claims) h = (ap (settled p) h.0, agreed_kept p (p + length s) claims (Done s cells []) h.1)
  settled_same p w (Refused rule at) h = (ap (settled p) h.0, tt)

  pub enum_same : (p : ℕ) (listed : Bool) (path : List ℕ) (w v : Written) → Same all p w v → Same all p (of_enum listed path w) (of_enum listed path v)
  enum_same p true path w v h = h
  enum_same p false path w (Done s cells claims) h = (ap (unlisted path) h.0, tt)
  enum_same p false path w (Refused rule at) h = (ap (unlisted path) h.0, tt)

  pub copied_same : (copy : Option CopyOut) (places : List ℕ) (p : ℕ) (w v : Written)
      → ((n : ℕ) (cells : List ℕ) → n ≤ MOST_WRITTEN → AllFit all cells → AllFit all (noted copy places p n cells))
      → Same all p w v → Same all p (copied copy places p w) (copied copy places p v)
  copied_same copy places p w (Done s cells claims) small h =
      let few : length s ≤ MOST_WRITTEN = let most = h.1.0 in omega (arith, most) in
      (ap (copied copy places p) h.0, (h.1.0, small (length s) cells few h.1.1))
  copied_same copy places p w (Refused rule path) small h = (ap (copied copy places p) h.0, tt)

  -- Values that name no type

  pub number_same : (t : NumberType) (path : List ℕ) (p : ℕ) (cells : List ℕ) (v : Datum) → AllFit all cells
      → Same all p (number_written t path p cells v) (number_written t path p cells v)
  number_same t path p cells (Number n) f =
      wanted_same p (fits t None n) Range path _ _
      (λ e. wanted_same p (has_room p (bytes_in t.width)) Long path _ _
      (λ r. (refl, (omega (arith, leb-true (p + bytes_in t.width) MOST_WRITTEN r, number_length t n), f))))
  number_same t path p cells (Sequence vs) f = (refl, tt)
  number_same t path p cells (Bytes bytes) f = (refl, tt)
  number_same t path p cells Empty f = (refl, tt)

  pub bytes_same : (path : List ℕ) (p : ℕ) (cells : List ℕ) (v : Datum) → AllFit all cells → Same all p (bytes_written path p cells v) (bytes_written path p cells v)
  bytes_same path p cells (Number n) f = (refl, tt)
  bytes_same path p cells (Sequence vs) f = (refl, tt)
  bytes_same path p cells (Bytes bytes) f = wanted_same p (has_room p (length bytes)) Long path _ _ (λ r. (refl, (leb-true (p + length bytes) MOST_WRITTEN r, f)))
  bytes_same path p cells Empty f = (refl, tt)

  pub zeros_same : (path : List ℕ) (p : ℕ) (cells : List ℕ) (v : Datum) → AllFit all cells → Same all p (zeros_written path p cells v) (zeros_written path p cells v)
  zeros_same path p cells (Number n) f =
      let zeros : List ℕ = replicate n 0 in
      let len : length zeros ≡ n = length-replicate n 0 in
      wanted_same p (has_room p n) Long path (Done zeros cells []) (Done zeros cells []) (λ r. (refl, (omega (arith, leb-true (p + n) MOST_WRITTEN r, len), f)))
  zeros_same path p cells (Sequence vs) f = (refl, tt)
  zeros_same path p cells (Bytes bytes) f = (refl, tt)
  zeros_same path p cells Empty f = (refl, tt)

  pub unit_same : (path : List ℕ) (p : ℕ) (cells : List ℕ) (v : Datum) → p ≤ MOST_WRITTEN → AllFit all cells → Same all p (unit_written path cells v) (unit_written path cells v)
  unit_same path p cells (Number n) le f = (refl, tt)
  unit_same path p cells (Sequence vs) le f = (refl, tt)
  unit_same path p cells (Bytes bytes) le f = (refl, tt)
  unit_same path p cells Empty le f = (refl, (omega (arith, le), f))

  pub items_same : (each means : List ℕ → ℕ → List ℕ → Datum → Written) → ((path : List ℕ) (p : ℕ) (cells : List ℕ) (v : Datum) → p ≤ MOST_WRITTEN → AllFit all cells → Same all p (each path p cells v) (means path p cells v))
      → (path : List ℕ) (i p : ℕ) (cells : List ℕ) (vs : List Datum) → p ≤ MOST_WRITTEN → AllFit all cells → Same all p (items_written each path i p cells vs) (items_written means path i p cells vs)
  unfolding items_written
  items_same each means told path i p cells [] le f = (refl, (omega (arith, le), f))
  items_same each means told path i p cells (v ∷ vs) le f =
      followed_same p (of_size is_some_size (path ++ i ∷ []) (each (path ++ i ∷ []) p cells v)) (of_size is_some_size (path ++ i ∷ []) (means (path ++ i ∷ []) p cells v))
      (λ q cells. items_written each path (suc i) q cells vs) (λ q cells. items_written means path (suc i) q cells vs)
      (size_same p is_some_size (path ++ i ∷ []) (each (path ++ i ∷ []) p cells v) (means (path ++ i ∷ []) p cells v) (told (path ++ i ∷ []) p cells v le f))
      (λ s more claims e k. items_same each means told path (suc i) (p + length s) more vs k.0 k.1)

  pub list_same : (each means : List ℕ → ℕ → List ℕ → Datum → Written) → ((path : List ℕ) (p : ℕ) (cells : List ℕ) (v : Datum) → p ≤ MOST_WRITTEN → AllFit all cells → Same all p (each path p cells v) (means path p cells v))
      → (path : List ℕ) (p : ℕ) (cells : List ℕ) (v : Datum) → p ≤ MOST_WRITTEN → AllFit all cells → Same all p (list_written each path p cells v) (list_written means path p cells v)
  list_same each means told path p cells (Number n) le f = (refl, tt)
  list_same each means told path p cells (Sequence vs) le f = items_same each means told path 0 p cells (list_of vs) le f
  list_same each means told path p cells (Bytes bytes) le f = (refl, tt)
  list_same each means told path p cells Empty le f = (refl, tt)

  up_to_zero_same : (t : NumberType) (size : ℕ) (path : List ℕ) (p : ℕ) (cells : List ℕ) (v : Datum) → p ≤ MOST_WRITTEN → AllFit all cells → Same all p (up_to_zero_written t size path p cells v) (up_to_zero_written t size path p cells v)
  up_to_zero_same t size path p cells (Number n) le f = (refl, tt)
  up_to_zero_same t size path p cells (Sequence vs) le f =
      let items = items_written (number_written t) path 0 p cells (list_of vs) in
      let bound = λ (q : ℕ) (more : List ℕ). wanted (nat_le (length (list_of vs)) (size / bytes_in t.width)) (Broken Constraint) path (Done [] more []) in
      wanted_same p (ends_in_zero (list_of vs)) Shape path (followed items p bound) (followed items p bound)
      (λ z. followed_same p items items bound bound
      (items_same (number_written t) (number_written t) (λ path p cells v le f. number_same t path p cells v f) path 0 p cells (list_of vs) le f)
      (λ s more claims e k. wanted_same (p + length s) (nat_le (length (list_of vs)) (size / bytes_in t.width)) (Broken Constraint) path (Done [] more []) (Done [] more []) (λ b. (refl, (omega (arith, k.0), k.1)))))
  up_to_zero_same t size path p cells (Bytes bytes) le f = (refl, tt)
  up_to_zero_same t size path p cells Empty le f = (refl, tt)

  pub zero_ended_same : (e : Element) (size : ℕ) (path : List ℕ) (p : ℕ) (cells : List ℕ) (v : Datum) → p ≤ MOST_WRITTEN → AllFit all cells → Same all p (zero_ended_written e size path p cells v) (zero_ended_written e size path p cells v)
  zero_ended_same (element.Number t) size path p cells v le f = up_to_zero_same t size path p cells v le f
  zero_ended_same (element.Listed base k) size path p cells v le f = (refl, tt)
  zero_ended_same (element.Named j args own) size path p cells v le f = (refl, tt)
  zero_ended_same element.Unit size path p cells v le f = (refl, tt)
  zero_ended_same element.Rest size path p cells v le f = (refl, tt)
  zero_ended_same element.Zeros size path p cells v le f = (refl, tt)

  -- Fields without bytes

  left_same : (t : NumberType) (path : List ℕ) (p : ℕ) (cells : List ℕ) (v : Datum) → p ≤ MOST_WRITTEN → AllFit all cells → Same all p (left_written t path p cells v) (left_written t path p cells v)
  left_same t path p cells (Number n) le f = wanted_same p (fits t None n) Range path _ _ (λ e. (refl, (omega (arith, le), f)))
  left_same t path p cells (Sequence vs) le f = (refl, tt)
  left_same t path p cells (Bytes bytes) le f = (refl, tt)
  left_same t path p cells Empty le f = (refl, tt)

  source_same : (t : NumberType) (s : Source) (path : List ℕ) (p : ℕ) (cells : List ℕ) (v : Datum) → p ≤ MOST_WRITTEN → AllFit all cells → Same all p (source_written t s path p cells v) (source_written t s path p cells v)
  source_same t (Expression span e) path p cells v le f = unit_same path p cells v le f
  source_same t (FromCell cell) path p cells v le f = unit_same path p cells v le f
  source_same t Left path p cells v le f = left_same t path p cells v le f

  pub given_same : (e : Element) (s : Source) (path : List ℕ) (p : ℕ) (cells : List ℕ) (v : Datum) → p ≤ MOST_WRITTEN → AllFit all cells → Same all p (given_written e s path p cells v) (given_written e s path p cells v)
  given_same (element.Number t) s path p cells v le f = source_same t s path p cells v le f
  given_same (element.Listed base k) s path p cells v le f = (refl, tt)
  given_same (element.Named j args own) s path p cells v le f = (refl, tt)
  given_same element.Unit s path p cells v le f = (refl, tt)
  given_same element.Rest s path p cells v le f = (refl, tt)
  given_same element.Zeros s path p cells v le f = (refl, tt)
