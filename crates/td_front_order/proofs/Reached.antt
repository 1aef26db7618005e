-- What is reached, by flags and by a list. Cited by other crates.
use Rattle.std.proofs.Common.{◌≡◌, ℕ, zero, suc, ◌+◌, ◌<◌, ◌≤◌, Bool, true, false, cond, ◌||◌, List, [], ◌∷◌, ◌++◌, length, set, get_or, replicate, Option, Some, None, nat_eq, refl, sym, ap, ◌∙◌, arith, ◌⊎◌, inl, inr}
use Rattle.std.specs.Prelude.{slice_get}
use Rattle.std.proofs.lemmas.Bool.Decides.{nat_tests}
use Rattle.std.proofs.lemmas.List.{length_push}
use Rattle.std.proofs.lemmas.Option.{same_Some}
use Rattle.td_num.specs.Lists.{is_among}
use Rattle.td_num.proofs.Truths.{or_left, or_right, or_cases, or_assoc}
use Rattle.td_front_order.specs.Order.{used_by, IsWithin, ReachesBy, Reaches}
use Rattle.td_front_order.specs.Flags.{flag_at, flagged, AreFlags, AreBelow, add_new}
use Rattle.td_front_order.proofs.Ready.{none_flagged, flagged_more, among_append}

none_counted : (n : ℕ) → flagged (replicate n false) ≡ 0
none_counted zero = refl
none_counted (suc n) = none_counted n

pub no_flags : (n : ℕ) → AreFlags (replicate n false) []
no_flags n = record { each = none_flagged n; count = none_counted n }

-- no more are flagged than there are
pub counted_within : (flags : List Bool) → flagged flags ≤ length flags
counted_within [] = omega arith
counted_within (true ∷ flags) = omega (arith, counted_within flags)
counted_within (false ∷ flags) = omega (arith, counted_within flags)

counted_more : (flags : List Bool) (n : ℕ) → n < length flags → flag_at flags n ≡ false → flagged (set flags n true) ≡ flagged flags + 1
counted_more [] n lt e = absurd (omega arith)
counted_more (false ∷ flags) zero lt e = refl
counted_more (true ∷ flags) zero lt e = absurd cc
counted_more (true ∷ flags) (suc n) lt e = let h = counted_more flags n (omega arith) e in omega (arith, h)
counted_more (false ∷ flags) (suc n) lt e = counted_more flags n (omega arith) e

-- one more, that wasn't there
pub flags_more : (flags : List Bool) (reached : List ℕ) (n : ℕ) → n < length flags → flag_at flags n ≡ false → AreFlags flags reached → AreFlags (set flags n true) (reached ++ n ∷ [])
flags_more flags reached n lt e F = record {
  each = flagged_more flags reached n lt F.each;
  count = counted_more flags n lt e ∙ ap (λ k. k + 1) F.count ∙ sym (length_push reached n);
}

-- those added are there, and those that were
pub among_added : (reached js : List ℕ) (j : ℕ) → is_among (add_new reached js) j ≡ (is_among reached j || is_among js j)
among_added reached [] j = by_test (is_among reached j)
  where
    by_test : (b : Bool) → b ≡ (b || false)
    by_test true = refl
    by_test false = refl
among_added reached (n ∷ js) j = by_there (is_among reached n) refl (among_added reached js j) (among_added (reached ++ n ∷ []) js j)
  where
    absorbed : (b : Bool) → nat_eq j n ≡ b → is_among reached n ≡ true → (is_among reached j || is_among js j) ≡ (is_among reached j || (b || is_among js j))
    absorbed true e h = let same : j ≡ n = grind (arith, nat_tests) in rw (same, h) refl
    absorbed false e h = refl

    by_there : (b : Bool) → is_among reached n ≡ b → is_among (add_new reached js) j ≡ (is_among reached j || is_among js j) → is_among (add_new (reached ++ n ∷ []) js) j ≡ (is_among (reached ++ n ∷ []) j || is_among js j)
        → is_among (add_new (cond b reached (reached ++ n ∷ [])) js) j ≡ (is_among reached j || (nat_eq j n || is_among js j))
    by_there true h old new = old ∙ absorbed (nat_eq j n) refl h
    by_there false h old new = new ∙ ap (λ b. b || is_among js j) (among_append reached n j) ∙ or_assoc (is_among reached j) (nat_eq j n) (is_among js j)

-- and these stay at their places
kept_one : (reached : List ℕ) (n k : ℕ) → k < length reached → slice_get (reached ++ n ∷ []) k ≡ slice_get reached k
kept_one [] n k lt = absurd (omega arith)
kept_one (x ∷ reached) n zero lt = refl
kept_one (x ∷ reached) n (suc k) lt = kept_one reached n k (omega arith)

pub kept : (reached js : List ℕ) (k : ℕ) → k < length reached → slice_get (add_new reached js) k ≡ slice_get reached k
kept reached [] k lt = refl
kept reached (n ∷ js) k lt = by_there (is_among reached n) (kept reached js k lt) (kept (reached ++ n ∷ []) js k (let l = length_push reached n in omega (arith, l)))
  where
    by_there : (b : Bool) → slice_get (add_new reached js) k ≡ slice_get reached k → slice_get (add_new (reached ++ n ∷ []) js) k ≡ slice_get (reached ++ n ∷ []) k → slice_get (add_new (cond b reached (reached ++ n ∷ [])) js) k ≡ slice_get reached k
    by_there true old new = old
    by_there false old new = new ∙ kept_one reached n k lt

pub longer : (reached js : List ℕ) → length reached ≤ length (add_new reached js)
longer reached [] = omega arith
longer reached (n ∷ js) = by_there (is_among reached n) (longer reached js) (longer (reached ++ n ∷ []) js)
  where
    by_there : (b : Bool) → length reached ≤ length (add_new reached js) → length (reached ++ n ∷ []) ≤ length (add_new (reached ++ n ∷ []) js) → length reached ≤ length (add_new (cond b reached (reached ++ n ∷ [])) js)
    by_there true old new = old
    by_there false old new = let l = length_push reached n in omega (arith, l, new)

-- ---- reaching

pub reaches_more : (graph : List (List ℕ)) (n a b c : ℕ) → ReachesBy graph n a b → is_among (used_by graph b) c ≡ true → ReachesBy graph (suc n) a c
reaches_more graph zero a b c e u = (c, rw e u, refl)
reaches_more graph (suc n) a b c (d, first, rest) u = (d, first, reaches_more graph n d b c rest u)

module _ (graph : List (List ℕ)) (from : ℕ) where
  -- what was looked at up to here, and what was found
  pub record IsUpTo (cursor : ℕ) (reached : List ℕ) : Type 0 where
    pub there : is_among reached from ≡ true
    pub sound : (j : ℕ) → is_among reached j ≡ true → Reaches graph from j
    pub closed : (k c j : ℕ) → k < cursor → slice_get reached k ≡ Some c → is_among (used_by graph c) j ≡ true → is_among reached j ≡ true

  found_there : (reached : List ℕ) (k c : ℕ) → slice_get reached k ≡ Some c → is_among reached c ≡ true
  found_there [] k c e = absurd cc
  found_there (x ∷ reached) zero c e = let same : x ≡ c = cc in or_left (nat_eq c x) (is_among reached c) (grind (arith, nat_tests))
  found_there (x ∷ reached) (suc k) c e = or_right (nat_eq c x) (is_among reached c) (found_there reached k c e)

  pub up_to_more : (cursor number : ℕ) (reached : List ℕ) → cursor < length reached → slice_get reached cursor ≡ Some number → IsUpTo cursor reached → IsUpTo (cursor + 1) (add_new reached (used_by graph number))
  up_to_more cursor number reached lt here U = record {
    there = among_added reached (used_by graph number) from ∙ or_left (is_among reached from) (is_among (used_by graph number) from) U.there;
    sound = λ j e. by_cases j (or_cases (is_among reached j) (is_among (used_by graph number) j) (sym (among_added reached (used_by graph number) j) ∙ e));
    closed = λ k c j le at u. close k c j (k_cases k le) at u;
  }
    where
      by_cases : (j : ℕ) → (is_among reached j ≡ true) ⊎ (is_among (used_by graph number) j ≡ true) → Reaches graph from j
      by_cases j (inl e) = U.sound j e
      by_cases j (inr e) = let r = U.sound number (found_there reached cursor number here) in (suc r.0, reaches_more graph r.0 from number j r.1 e)

      k_cases : (k : ℕ) → k < cursor + 1 → (k < cursor) ⊎ (k ≡ cursor)
      k_cases k lt = by_test (nat_eq k cursor) refl
        where
          by_test : (b : Bool) → nat_eq k cursor ≡ b → (k < cursor) ⊎ (k ≡ cursor)
          by_test true e = inr (grind (arith, nat_tests))
          by_test false e = inl (grind (arith, nat_tests))

      close : (k c j : ℕ) → (k < cursor) ⊎ (k ≡ cursor) → slice_get (add_new reached (used_by graph number)) k ≡ Some c → is_among (used_by graph c) j ≡ true → is_among (add_new reached (used_by graph number)) j ≡ true
      close k c j (inl before) at u =
          among_added reached (used_by graph number) j
          ∙ or_left (is_among reached j) (is_among (used_by graph number) j) (U.closed k c j before (sym (kept reached (used_by graph number) k (omega arith)) ∙ at) u)
      close k c j (inr same) at u =
          let is : number ≡ c = same_Some number c (sym here ∙ sym (kept reached (used_by graph number) cursor lt) ∙ ap (λ i. slice_get (add_new reached (used_by graph number)) i) (sym same) ∙ at) in
          among_added reached (used_by graph number) j ∙ or_right (is_among reached j) (is_among (used_by graph number) j) (ap (λ i. is_among (used_by graph i) j) is ∙ u)

  place_of : (reached : List ℕ) (c : ℕ) → is_among reached c ≡ true → (k : ℕ) × (k < length reached) × (slice_get reached k ≡ Some c)
  place_of [] c e = absurd cc
  place_of (x ∷ reached) c e = by_test (nat_eq c x) refl (place_of reached c) e
    where
      by_test : (b : Bool) → nat_eq c x ≡ b → (is_among reached c ≡ true → (k : ℕ) × (k < length reached) × (slice_get reached k ≡ Some c)) → (b || is_among reached c) ≡ true → (k : ℕ) × (k < length (x ∷ reached)) × (slice_get (x ∷ reached) k ≡ Some c)
      by_test true e ih h = (0, omega arith, ap (λ n. Some n) (grind (arith, nat_tests)))
      by_test false e ih h = let p = ih h in (suc p.0, omega (arith, p.1), p.2)

  -- all that is reached, once all was looked at
  pub whole_reached : (cursor : ℕ) (reached : List ℕ) → length reached ≤ cursor → IsUpTo cursor reached → (j : ℕ) → Reaches graph from j → is_among reached j ≡ true
  whole_reached cursor reached le U j (n, r) = on n from U.there r
    where
      on : (n a : ℕ) → is_among reached a ≡ true → ReachesBy graph n a j → is_among reached j ≡ true
      on zero a h e = rw (← e) h
      on (suc n) a h (c, u, rest) = let p = place_of reached a h in on n c (U.closed p.0 a c (omega (arith, p.1)) p.2 u) rest

  pub up_to_none : IsUpTo 0 (from ∷ [])
  up_to_none = record {
    there = or_left (nat_eq from from) false (grind (arith, nat_tests));
    sound = λ j e. (0, by_test j (nat_eq j from) refl e);
    closed = λ k c j lt at u. absurd (omega arith);
  }
    where
      by_test : (j : ℕ) (b : Bool) → nat_eq j from ≡ b → (b || false) ≡ true → from ≡ j
      by_test j true e h = grind (arith, nat_tests)
      by_test j false e h = absurd cc

pub below_all : (n : ℕ) (xs : List ℕ) → ((j : ℕ) → is_among xs j ≡ true → j < n) → AreBelow n xs
below_all n [] h = tt
below_all n (x ∷ xs) h = (h x (first x), below_all n xs (λ j e. h j (rest j e)))
  where
    first : (x : ℕ) → (nat_eq x x || is_among xs x) ≡ true
    first x = let same : nat_eq x x ≡ true = grind (arith, nat_tests) in rw same refl

    rest : (j : ℕ) → is_among xs j ≡ true → (nat_eq j x || is_among xs j) ≡ true
    rest j e = by_test (nat_eq j x)
      where
        by_test : (b : Bool) → (b || is_among xs j) ≡ true
        by_test true = refl
        by_test false = e

pub used_are_below : (graph : List (List ℕ)) (i : ℕ) → IsWithin graph → AreBelow (length graph) (used_by graph i)
used_are_below graph i w = below_all (length graph) (used_by graph i) (λ j e. w i j e)
