-- What is ready and what waits, step by step.
use Rattle.std.proofs.Common.{◌≡◌, ◌⊎◌, inl, inr, ℕ, zero, suc, ◌+◌, ◌<◌, ◌≤◌, Bool, true, false, cond, not, ◌&&◌, ◌||◌, List, [], ◌∷◌, ◌++◌, length, set, Option, Some, None, is_some, nat_eq, refl, sym, ap, subst, ◌∙◌, arith}
use Rattle.std.specs.List.{list_all, list_any, find}
use Rattle.std.specs.Ordering.{is_eq, is_gt, nat_cmp}
use Rattle.std.proofs.lemmas.Bool.Decides.{nat_tests}
use Rattle.td_num.specs.Lists.{is_among}
use Rattle.td_num.specs.Numbers.{places_from}
use Rattle.td_num.proofs.Equals.{same_test}
use Rattle.td_front_order.specs.Order.{used_by}
use Rattle.td_front_order.specs.Flags.{flag_at, is_ready_by}
use Rattle.td_front_order.specs.Waiting.{is_in, AreReady, IsWaiting, IsListed, AreListed}
use Rattle.td_front_order.proofs.Ready.{flag_is}
use Rattle.td_front_order.proofs.Lists.{set_else, added_there, kept_there}
use Rattle.std.proofs.lemmas.List.{get_or-set_same, get_or-set_other}

-- one that is used isn't taken, so not all are
not_all : (taken : ℕ → Bool) (used : List ℕ) (other : ℕ) → is_among used other ≡ true → taken other ≡ false → list_all taken used ≡ false
not_all taken [] other h e = absurd cc
not_all taken (x ∷ used) other h e = by (nat_eq other x) refl h (not_all taken used other)
  where
    rest : (a b : Bool) → b ≡ false → (a && b) ≡ false
    rest true b k = k
    rest false b k = refl

    by : (b : Bool) → nat_eq other x ≡ b → (b || is_among used other) ≡ true → (is_among used other ≡ true → taken other ≡ false → list_all taken used ≡ false) → (taken x && list_all taken used) ≡ false
    by true k h ih = let same : other ≡ x = grind (arith, nat_tests) in ap (λ b. b && list_all taken used) (ap taken (sym same) ∙ e)
    by false k h ih = rest (taken x) (list_all taken used) (ih h e)

ready_of : (graph : List (List ℕ)) (taken : ℕ → Bool) (k : ℕ) → taken k ≡ false → list_all taken (used_by graph k) ≡ true → is_ready_by graph taken k ≡ true
ready_of graph taken k e h = ap (λ b. not b && list_all taken (used_by graph k)) e ∙ h

module _ (graph : List (List ℕ)) (taken : ℕ → Bool) where
  -- one more that waits
  pub kept_waiting : (waiting : List (List ℕ)) (keys : List ℕ) (other number : ℕ) → other < length waiting → (k : ℕ) → IsListed graph taken waiting keys k
      → IsListed graph taken (set waiting other (used_by waiting other ++ number ∷ [])) keys k
  kept_waiting waiting keys other number lt k (inl h) = inl h
  kept_waiting waiting keys other number lt k (inr w) =
      inr (record { other = w.other; used = w.used; not_taken = w.not_taken; there = kept_there waiting other number lt w.other k w.there })

  pub new_waiting : (waiting : List (List ℕ)) (keys : List ℕ) (other number : ℕ) → other < length waiting → is_among (used_by graph number) other ≡ true → taken other ≡ false
      → IsListed graph taken (set waiting other (used_by waiting other ++ number ∷ [])) keys number
  new_waiting waiting keys other number lt u e = inr (record { other = other; used = u; not_taken = e; there = added_there waiting other number lt })

  -- one more that is ready
  abbrev IsAdded : List ℕ → List ℕ → ℕ → Type 0
  IsAdded keys more number = (q : ℕ) → is_in more q ≡ cond (is_eq (nat_cmp number q)) true (is_in keys q)

  grown : (b c : Bool) → c ≡ true → cond b true c ≡ true
  grown true c h = refl
  grown false c h = h

  pub kept_ready : (waiting : List (List ℕ)) (keys more : List ℕ) (number : ℕ) → IsAdded keys more number → (k : ℕ) → IsListed graph taken waiting keys k → IsListed graph taken waiting more k
  kept_ready waiting keys more number add k (inl h) = inl (add k ∙ grown (is_eq (nat_cmp number k)) (is_in keys k) h)
  kept_ready waiting keys more number add k (inr w) = inr w

  pub new_ready : (waiting : List (List ℕ)) (keys more : List ℕ) (number : ℕ) → IsAdded keys more number → IsListed graph taken waiting more number
  new_ready waiting keys more number add =
      let same : is_eq (nat_cmp number number) ≡ true = grind (arith, nat_tests) in
      inl (add number ∙ ap (λ b. cond b true (is_in keys number)) same)

  pub sound_ready : (keys more : List ℕ) (number : ℕ) → IsAdded keys more number → number < length graph → taken number ≡ false → list_all taken (used_by graph number) ≡ true
      → AreReady graph taken keys → AreReady graph taken more
  sound_ready keys more number add lt e all sound k h = by (nat_eq k number) refl (sym (add k ∙ ap (λ b. cond b true (is_in keys k)) (same_test k number)) ∙ h)
    where
      by : (b : Bool) → nat_eq k number ≡ b → cond b true (is_in keys k) ≡ true → (k < length graph) × (is_ready_by graph taken k ≡ true)
      by true t h =
          let same : number ≡ k = grind (arith, nat_tests) in
          subst (λ n. (n < length graph) × (is_ready_by graph taken n ≡ true)) same (lt, ready_of graph taken number e all)
      by false t h = sound k h

  -- ---- the first that is ready

  -- what isn't in the set isn't ready
  pub not_ready : (waiting : List (List ℕ)) (keys : List ℕ) → AreListed graph taken waiting keys [] → (k : ℕ) → k < length graph → is_in keys k ≡ false → is_ready_by graph taken k ≡ false
  not_ready waiting keys listed k lt out = by (taken k) refl
    where
      both : (b : Bool) → list_all taken (used_by graph k) ≡ false → (not b && list_all taken (used_by graph k)) ≡ false
      both true h = refl
      both false h = h

      of : IsListed graph taken waiting keys k ⊎ (false ≡ true) → is_ready_by graph taken k ≡ false
      of (inl (inl h)) = absurd cc
      of (inl (inr w)) = both (taken k) (not_all taken (used_by graph k) w.other w.used w.not_taken)
      of (inr h) = absurd cc

      by : (b : Bool) → taken k ≡ b → is_ready_by graph taken k ≡ false
      by true e = ap (λ b. not b && list_all taken (used_by graph k)) e
      by false e = of (listed k lt e)

find_first : (p : ℕ → Bool) (from n m : ℕ) → from ≤ m → m < from + n → p m ≡ true → ((k : ℕ) → from ≤ k → k < m → p k ≡ false) → find p (places_from from n) ≡ Some m
find_first p from zero m le lt h none = absurd (omega arith)
find_first p from (suc n) m le lt h none = by (nat_eq from m) refl (λ more. find_first p (from + 1) n m more (omega arith) h (λ k l k_lt. none k (omega arith) k_lt))
  where
    by : (b : Bool) → nat_eq from m ≡ b → (from + 1 ≤ m → find p (places_from (from + 1) n) ≡ Some m) → cond (p from) (Some from) (find p (places_from (from + 1) n)) ≡ Some m
    by true e ih = let same : from ≡ m = grind (arith, nat_tests) in ap (λ b. cond b (Some from) (find p (places_from (from + 1) n))) (ap p same ∙ h) ∙ ap (λ i. Some i) same
    by false e ih =
        let less : from + 1 ≤ m = grind (arith, nat_tests) in
        ap (λ b. cond b (Some from) (find p (places_from (from + 1) n))) (none from (omega arith) (omega (arith, less))) ∙ ih less

find_none : (p : ℕ → Bool) (from n : ℕ) → ((k : ℕ) → from ≤ k → k < from + n → p k ≡ false) → find p (places_from from n) ≡ None
find_none p from zero none = refl
find_none p from (suc n) none =
    ap (λ b. cond b (Some from) (find p (places_from (from + 1) n))) (none from (omega arith) (omega arith)) ∙ find_none p (from + 1) n (λ k l lt. none k (omega arith) (omega arith))

pub least_ready : (graph : List (List ℕ)) (taken : ℕ → Bool) (waiting : List (List ℕ)) (keys : List ℕ) (m : ℕ) → AreReady graph taken keys → AreListed graph taken waiting keys []
    → is_in keys m ≡ true → ((q : ℕ) → is_in keys q ≡ true → is_gt (nat_cmp m q) ≡ false) → find (is_ready_by graph taken) (places_from 0 (length graph)) ≡ Some m
least_ready graph taken waiting keys m sound listed there least =
    let at = sound m there in
    find_first (is_ready_by graph taken) 0 (length graph) m (omega arith) (omega (arith, at.0)) at.1
    (λ k l lt. by k (is_in keys k) refl lt (omega (arith, lt, at.0)))
  where
    by : (k : ℕ) (b : Bool) → is_in keys k ≡ b → k < m → k < length graph → is_ready_by graph taken k ≡ false
    by k true h lt in_graph = let low : is_gt (nat_cmp m k) ≡ false = least k h in absurd (grind (arith, nat_tests))
    by k false h lt in_graph = not_ready graph taken waiting keys listed k in_graph h

pub none_ready : (graph : List (List ℕ)) (taken : ℕ → Bool) (waiting : List (List ℕ)) (keys : List ℕ) → AreListed graph taken waiting keys [] → keys ≡ []
    → find (is_ready_by graph taken) (places_from 0 (length graph)) ≡ None
none_ready graph taken waiting keys listed e =
    find_none (is_ready_by graph taken) 0 (length graph) (λ k l lt. not_ready graph taken waiting keys listed k (omega (arith, lt)) (ap (λ ks. is_in ks k) e))

-- ---- one is taken

module _ (graph : List (List ℕ)) (flags : List Bool) (m : ℕ) (inside : m < length flags) where
  abbrev now : ℕ → Bool
  now = flag_at (set flags m true)

  pub now_here : now m ≡ true
  now_here = flag_is (set flags m true) m ∙ get_or-set_same flags m true false inside

  now_else : (k : ℕ) → nat_eq k m ≡ false → now k ≡ flag_at flags k
  now_else k e = flag_is (set flags m true) k ∙ get_or-set_other flags m k true false (λ at. absurd (grind (arith, nat_tests))) ∙ sym (flag_is flags k)

  now_more : (k : ℕ) → flag_at flags k ≡ true → now k ≡ true
  now_more k h = by (nat_eq k m) refl
    where
      by : (b : Bool) → nat_eq k m ≡ b → now k ≡ true
      by true e = let same : k ≡ m = grind (arith, nat_tests) in ap now same ∙ now_here
      by false e = now_else k e ∙ h

  all_more : (used : List ℕ) → list_all (flag_at flags) used ≡ true → list_all now used ≡ true
  all_more [] h = refl
  all_more (x ∷ used) h = by (all_more used) (flag_at flags x) refl h
    where
      by : (list_all (flag_at flags) used ≡ true → list_all now used ≡ true) → (b : Bool) → flag_at flags x ≡ b → (b && list_all (flag_at flags) used) ≡ true
          → (now x && list_all now used) ≡ true
      by ih true e k = ap (λ b. b && list_all now used) (now_more x e) ∙ ih k
      by ih false e k = absurd cc

  abbrev IsTakenOut : List ℕ → List ℕ → Type 0
  IsTakenOut keys fewer = (q : ℕ) → is_in fewer q ≡ cond (is_eq (nat_cmp m q)) false (is_in keys q)

  out_else : (keys fewer : List ℕ) → IsTakenOut keys fewer → (k : ℕ) → nat_eq k m ≡ false → is_in fewer k ≡ is_in keys k
  out_else keys fewer out k e = out k ∙ ap (λ b. cond b false (is_in keys k)) (same_test k m ∙ e)

  out_here : (keys fewer : List ℕ) → IsTakenOut keys fewer → (k : ℕ) → nat_eq k m ≡ true → is_in fewer k ≡ false
  out_here keys fewer out k e = out k ∙ ap (λ b. cond b false (is_in keys k)) (same_test k m ∙ e)

  pub sound_taken : (keys fewer : List ℕ) → IsTakenOut keys fewer → AreReady graph (flag_at flags) keys → AreReady graph now fewer
  sound_taken keys fewer out sound k h = by (nat_eq k m) refl
    where
      parts : (b c : Bool) → (not b && c) ≡ true → (b ≡ false) × (c ≡ true)
      parts true c e = absurd cc
      parts false c e = (refl, e)

      by : (b : Bool) → nat_eq k m ≡ b → (k < length graph) × (is_ready_by graph now k ≡ true)
      by true e = let gone = out_here keys fewer out k e in absurd cc
      by false e =
          let at = sound k (sym (out_else keys fewer out k e) ∙ h) in
          let two = parts (flag_at flags k) (list_all (flag_at flags) (used_by graph k)) at.1 in
          (at.0, ready_of graph now k (now_else k e ∙ two.0) (all_more (used_by graph k) two.1))

  pub listed_taken : (waiting : List (List ℕ)) (keys fewer : List ℕ) → IsTakenOut keys fewer → AreListed graph (flag_at flags) waiting keys []
      → AreListed graph now waiting fewer (used_by waiting m)
  listed_taken waiting keys fewer out listed k lt h = by (nat_eq k m) refl
    where
      waits : IsWaiting graph (flag_at flags) waiting k → (b : Bool) (o : ℕ) → nat_eq o m ≡ b → is_among (used_by graph k) o ≡ true → flag_at flags o ≡ false → is_among (used_by waiting o) k ≡ true
          → IsListed graph now waiting fewer k ⊎ (is_among (used_by waiting m) k ≡ true)
      waits w true o e u f t = let same : o ≡ m = grind (arith, nat_tests) in inr (subst (λ n. is_among (used_by waiting n) k ≡ true) same t)
      waits w false o e u f t = inl (inr (record { other = o; used = u; not_taken = now_else o e ∙ f; there = t }))

      of : nat_eq k m ≡ false → IsListed graph (flag_at flags) waiting keys k ⊎ (false ≡ true) → IsListed graph now waiting fewer k ⊎ (is_among (used_by waiting m) k ≡ true)
      of e (inl (inl there)) = inl (inl (out_else keys fewer out k e ∙ there))
      of e (inl (inr w)) = waits w (nat_eq w.other m) w.other refl w.used w.not_taken w.there
      of e (inr f) = absurd cc

      by : (b : Bool) → nat_eq k m ≡ b → IsListed graph now waiting fewer k ⊎ (is_among (used_by waiting m) k ≡ true)
      by true e = let same : m ≡ k = grind (arith, nat_tests) in let here : now k ≡ true = ap now (sym same) ∙ now_here in absurd cc
      by false e = of e (listed k lt (sym (now_else k e) ∙ h))

-- ---- lists

module _ (graph : List (List ℕ)) (taken : ℕ → Bool) where
  -- the list of one that is taken is taken out
  pub listed_out : (waiting : List (List ℕ)) (keys more : List ℕ) (m : ℕ) → taken m ≡ true → AreListed graph taken waiting keys more → AreListed graph taken (set waiting m []) keys more
  listed_out waiting keys more m t listed k lt h = by (listed k lt h)
    where
      waits : (o : ℕ) (b : Bool) → nat_eq o m ≡ b → is_among (used_by graph k) o ≡ true → taken o ≡ false → is_among (used_by waiting o) k ≡ true → IsListed graph taken (set waiting m []) keys k
      waits o true e u f there = let same : o ≡ m = grind (arith, nat_tests) in let here : taken o ≡ true = ap taken same ∙ t in absurd cc
      waits o false e u f there = inr (record { other = o; used = u; not_taken = f; there = ap (λ row. is_among row k) (set_else waiting m o [] e) ∙ there })

      by : IsListed graph taken waiting keys k ⊎ (is_among more k ≡ true) → IsListed graph taken (set waiting m []) keys k ⊎ (is_among more k ≡ true)
      by (inl (inl i)) = inl (inl i)
      by (inl (inr w)) = inl (waits w.other (nat_eq w.other m) refl w.used w.not_taken w.there)
      by (inr i) = inr i

  -- one of a list was listed
  pub listed_next : (old new : List (List ℕ)) (keys more : List ℕ) (x : ℕ) (rest : List ℕ) → AreListed graph taken old keys (x ∷ rest)
      → ((k : ℕ) → IsListed graph taken old keys k → IsListed graph taken new more k) → (x < length graph → taken x ≡ false → IsListed graph taken new more x)
      → AreListed graph taken new more rest
  listed_next old new keys more x rest listed kept placed k lt h = by (listed k lt h)
    where
      of : (b : Bool) → nat_eq k x ≡ b → (b || is_among rest k) ≡ true → IsListed graph taken new more k ⊎ (is_among rest k ≡ true)
      of true e i = let same : x ≡ k = grind (arith, nat_tests) in inl (subst (λ n. IsListed graph taken new more n) same (placed (rw same lt) (ap taken same ∙ h)))
      of false e i = inr i

      by : IsListed graph taken old keys k ⊎ (is_among (x ∷ rest) k ≡ true) → IsListed graph taken new more k ⊎ (is_among rest k ≡ true)
      by (inl l) = inl (kept k l)
      by (inr i) = of (nat_eq k x) refl i

  -- all below a number are listed
  abbrev pub AreListedBelow : ℕ → List (List ℕ) → List ℕ → Type 0
  AreListedBelow n waiting keys = (k : ℕ) → k < n → taken k ≡ false → IsListed graph taken waiting keys k

  pub below_more : (n : ℕ) (old new : List (List ℕ)) (keys more : List ℕ) → n < length graph → AreListedBelow n old keys → ((k : ℕ) → IsListed graph taken old keys k → IsListed graph taken new more k)
      → (n < length graph → taken n ≡ false → IsListed graph taken new more n) → AreListedBelow (n + 1) new more
  below_more n old new keys more inside below kept placed k lt h = by (nat_eq k n) refl
    where
      by : (b : Bool) → nat_eq k n ≡ b → IsListed graph taken new more k
      by true e = let same : n ≡ k = grind (arith, nat_tests) in subst (λ i. IsListed graph taken new more i) same (placed inside (ap taken same ∙ h))
      by false e = let less : k < n = grind (arith, nat_tests) in kept k (below k less h)

  pub below_all : (n : ℕ) (waiting : List (List ℕ)) (keys : List ℕ) → length graph ≤ n → AreListedBelow n waiting keys → AreListed graph taken waiting keys []
  below_all n waiting keys le below k lt h = inl (below k (omega arith) h)

-- nothing is in an empty set
pub none_in : (graph : List (List ℕ)) (taken : ℕ → Bool) → AreReady graph taken []
none_in graph taken k h = absurd cc

pub no_keys : (keys : List ℕ) (o : Option ℕ) → o ≡ None → (0 < length keys → is_some o ≡ true) → keys ≡ []
no_keys [] o e h = refl
no_keys (k ∷ keys) o e h = let some = h (omega arith) in let none : is_some o ≡ false = ap is_some e in absurd cc

pub first_in : (m : ℕ) (keys fewer : List ℕ) → keys ≡ m ∷ fewer → is_in keys m ≡ true
first_in m keys fewer e = let same : is_eq (nat_cmp m m) ≡ true = grind (arith, nat_tests) in ap (λ ks. is_in ks m) e ∙ ap (λ b. b || is_in fewer m) same

pub below_none : (graph : List (List ℕ)) (taken : ℕ → Bool) (waiting : List (List ℕ)) (keys : List ℕ) → AreListedBelow graph taken 0 waiting keys
below_none graph taken waiting keys k lt h = absurd (omega arith)
