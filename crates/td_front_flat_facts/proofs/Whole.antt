-- Where there is no cycle, each part is in the order.
use Rattle.std.proofs.Common.{◌≡◌, ◌⊎◌, inl, inr, ℕ, zero, suc, ◌+◌, ◌<◌, ◌≤◌, Bool, true, false, cond, not, ◌&&◌, ◌||◌, List, [], ◌∷◌, ◌++◌, Option, Some, None, length, get_or, map, replicate, nat_eq, refl, sym, ap, subst, ◌∙◌, arith}
use Rattle.std.specs.List.{list_all, find}
use Rattle.std.proofs.lemmas.Bool.Decides.{nat_tests}
use Rattle.std.proofs.lemmas.List.{length_push}
use Rattle.td_num.specs.Lists.{is_among}
use Rattle.td_num.specs.Numbers.{places_from}
use Rattle.td_num.proofs.Equals.{equal_itself}
use Rattle.td_num.proofs.Truths.{or_left, or_right}
use Rattle.td_front_flat_facts.specs.Imports.{Name, PartTree}
use Rattle.td_names.specs.Names.{is_seen, number_of}
use Rattle.td_front_flat.specs.Uses.{part_uses}
use Rattle.td_front_order.specs.Order.{used_by, IsWithin, is_ready, next, turned, taken_after, order, Reaches}
use Rattle.td_front_order.proofs.Ready.{found_below}
use Rattle.td_front_order.proofs.Reached.{reaches_more}
use Rattle.td_front_flat.specs.Order.{names_of, numbers_of, graph_of, NoneCyclicIn, uses_at}
use Rattle.td_front_flat.proofs.Linking.{is_within}
use Rattle.td_front_flat_facts.specs.Laws.{NoPartIsLost}
use Rattle.td_front_flat_facts.proofs.Picked.{AreDistinct, total, picked, picked_within, distinct_push, order_distinct}

-- one of a longer list is one of the list, or the last
of_push : (xs : List ℕ) (n k : ℕ) → is_among (xs ++ n ∷ []) k ≡ true → (is_among xs k ≡ true) ⊎ (k ≡ n)
of_push [] n k h = by (nat_eq k n) refl h
  where
    by : (b : Bool) → nat_eq k n ≡ b → (b || false) ≡ true → (false ≡ true) ⊎ (k ≡ n)
    by true e g = inr (grind (arith, nat_tests))
    by false e g = absurd cc
of_push (x ∷ xs) n k h = by (nat_eq k x) (of_push xs n k) h
  where
    more : (is_among xs k ≡ true) ⊎ (k ≡ n) → (b : Bool) → ((b || is_among xs k) ≡ true) ⊎ (k ≡ n)
    more (inl i) b = inl (or_right b (is_among xs k) i)
    more (inr e) b = inr e

    by : (b : Bool) → (is_among (xs ++ n ∷ []) k ≡ true → (is_among xs k ≡ true) ⊎ (k ≡ n)) → (b || is_among (xs ++ n ∷ []) k) ≡ true → ((b || is_among xs k) ≡ true) ⊎ (k ≡ n)
    by true ih g = inl refl
    by false ih g = more (ih g) false

pushed : (xs : List ℕ) (n : ℕ) → is_among (xs ++ n ∷ []) n ≡ true
pushed [] n = or_left (nat_eq n n) false (equal_itself n)
pushed (x ∷ xs) n = or_right (nat_eq n x) (is_among (xs ++ n ∷ []) n) (pushed xs n)

-- ---- distinct numbers below n are no more than n

abbrev ones : ℕ → List ℕ
ones n = replicate n 1

ones_total : (n : ℕ) → total (ones n) ≡ n
ones_total zero = refl
ones_total (suc n) = let ih = ones_total n in omega (arith, ih)

one_at : (n k : ℕ) → k < n → ◌≡◌ {A = ℕ} (get_or (ones n) k 0) 1
one_at zero k lt = absurd (omega arith)
one_at (suc n) zero lt = refl
one_at (suc n) (suc k) lt = one_at n k (omega arith)

abbrev AreBelow : ℕ → List ℕ → Type 0
AreBelow n xs = (k : ℕ) → is_among xs k ≡ true → k < n

ones_picked : (n : ℕ) (xs : List ℕ) → AreBelow n xs → picked (ones n) xs ≡ length xs
ones_picked n [] h = refl
ones_picked n (x ∷ xs) h =
    let one = one_at n x (h x (or_left (nat_eq x x) (is_among xs x) (equal_itself x))) in
    let ih = ones_picked n xs (λ k i. h k (or_right (nat_eq k x) (is_among xs k) i)) in
    omega (arith, one, ih)

few : (n : ℕ) (xs : List ℕ) → AreDistinct xs → AreBelow n xs → length xs ≤ n
few n xs d h = let sum = picked_within (ones n) xs d in let left = ones_picked n xs h in let right = ones_total n in omega (arith, sum, left, right)

-- so n of them are all
all_there : (n : ℕ) (xs : List ℕ) → AreDistinct xs → AreBelow n xs → length xs ≡ n → (i : ℕ) → i < n → is_among xs i ≡ true
all_there n xs d h e i lt = by (is_among xs i) refl
  where
    by : (b : Bool) → is_among xs i ≡ b → is_among xs i ≡ true
    by true k = k
    by false k =
        let below : AreBelow n (xs ++ i ∷ []) = λ j m. within j (of_push xs i j m) in
        let most = few n (xs ++ i ∷ []) (distinct_push xs i d k) below in
        let long = length_push xs i in
        absurd (omega (arith, most, long, e))
      where
        within : (j : ℕ) → (is_among xs j ≡ true) ⊎ (j ≡ i) → j < n
        within j (inl m) = h j m
        within j (inr s) = rw s lt

-- ---- what is taken

none_found : (p : ℕ → Bool) (from m k : ℕ) → find p (places_from from m) ≡ None → from ≤ k → k < from + m → p k ≡ false
none_found p from zero k e le lt = absurd (omega arith)
none_found p from (suc m) k e le lt = by (p from) refl (nat_eq k from) refl (λ g l. none_found p (from + 1) m k g l (omega arith)) e
  where
    by : (b : Bool) → p from ≡ b → (c : Bool) → nat_eq k from ≡ c → (find p (places_from (from + 1) m) ≡ None → from + 1 ≤ k → p k ≡ false)
        → cond b (Some from) (find p (places_from (from + 1) m)) ≡ None → p k ≡ false
    by true h c s ih g = absurd cc
    by false h true s ih g = let same : k ≡ from = grind (arith, nat_tests) in ap p same ∙ h
    by false h false s ih g = ih g (grind (arith, nat_tests))

module _ (graph : List (List ℕ)) where
  taken_below : (m : ℕ) (taken : List ℕ) → AreBelow (length graph) taken → AreBelow (length graph) (taken_after m graph taken)
  taken_below zero taken h = h
  taken_below (suc m) taken h = by (λ more. taken_below m more) (next graph taken) refl
    where
      by : ((more : List ℕ) → AreBelow (length graph) more → AreBelow (length graph) (taken_after m graph more)) → (o : Option ℕ) → next graph taken ≡ o
          → AreBelow (length graph) (turned (λ more. taken_after m graph more) taken o)
      by again None e = h
      by again (Some i) e = again (taken ++ i ∷ []) (λ k g. of k (of_push taken i k g))
        where
          lt : i < length graph
          lt = let found = found_below (is_ready graph taken) 0 (length graph) i e in omega (arith, found)

          of : (k : ℕ) → (is_among taken k ≡ true) ⊎ (k ≡ i) → k < length graph
          of k (inl g) = h k g
          of k (inr s) = rw s lt

  -- each turn took one, or at the end none is ready
  ended : (m : ℕ) (taken : List ℕ) → (length (taken_after m graph taken) ≡ length taken + m) ⊎ (next graph (taken_after m graph taken) ≡ None)
  ended zero taken = inl (omega arith)
  ended (suc m) taken = by (λ more. ended m more) (next graph taken) refl
    where
      by : ((more : List ℕ) → (length (taken_after m graph more) ≡ length more + m) ⊎ (next graph (taken_after m graph more) ≡ None)) → (o : Option ℕ) → next graph taken ≡ o
          → (length (turned (λ more. taken_after m graph more) taken o) ≡ length taken + suc m) ⊎ (next graph (turned (λ more. taken_after m graph more) taken o) ≡ None)
      by again None e = inr e
      by again (Some i) e = longer (again (taken ++ i ∷ []))
        where
          longer : (length (taken_after m graph (taken ++ i ∷ [])) ≡ length (taken ++ i ∷ []) + m) ⊎ (next graph (taken_after m graph (taken ++ i ∷ [])) ≡ None)
              → (length (taken_after m graph (taken ++ i ∷ [])) ≡ length taken + suc m) ⊎ (next graph (taken_after m graph (taken ++ i ∷ [])) ≡ None)
          longer (inl h) = let one = length_push taken i in inl (omega (arith, h, one))
          longer (inr h) = inr h

-- ---- from one that isn't taken to one that it uses

some_not : (p : ℕ → Bool) (xs : List ℕ) → list_all p xs ≡ false → (j : ℕ) × (is_among xs j ≡ true) × (p j ≡ false)
some_not p [] h = absurd cc
some_not p (x ∷ xs) h = by (p x) refl (some_not p xs) h
  where
    by : (b : Bool) → p x ≡ b → (list_all p xs ≡ false → (j : ℕ) × (is_among xs j ≡ true) × (p j ≡ false)) → (b && list_all p xs) ≡ false → (j : ℕ) × (is_among (x ∷ xs) j ≡ true) × (p j ≡ false)
    by true e ih g = let found = ih g in (found.0, or_right (nat_eq found.0 x) (is_among xs found.0) found.1, found.2)
    by false e ih g = (x, or_left (nat_eq x x) (is_among xs x) (equal_itself x), e)

not_taken : (taken : List ℕ) (used : List ℕ) (b : Bool) → b ≡ false → (not b && list_all (is_among taken) used) ≡ false → list_all (is_among taken) used ≡ false
not_taken taken used true e h = absurd cc
not_taken taken used false e h = h

module _ (graph : List (List ℕ)) (taken : List ℕ) (within : IsWithin graph) (acyclic : (i j : ℕ) → is_among (used_by graph i) j ≡ true → Reaches graph j i → ⊥)
    (stuck : (k : ℕ) → k < length graph → is_among taken k ≡ false → (j : ℕ) × (is_among (used_by graph k) j ≡ true) × (is_among taken j ≡ false)) where
  -- those passed, up to v
  record IsPath (passed : List ℕ) (v : ℕ) : Type 0 where
    distinct : AreDistinct passed
    below : AreBelow (length graph) passed
    there : is_among passed v ≡ true
    out : is_among taken v ≡ false
    reach : (w : ℕ) → is_among passed w ≡ true → Reaches graph w v

  path_more : (passed : List ℕ) (v j : ℕ) → IsPath passed v → is_among (used_by graph v) j ≡ true → is_among taken j ≡ false → is_among passed j ≡ false → IsPath (passed ++ j ∷ []) j
  path_more passed v j p u o new = record {
    distinct = distinct_push passed j p.distinct new;
    below = λ k h. under k (of_push passed j k h);
    there = pushed passed j;
    out = o;
    reach = λ w h. on w (of_push passed j w h);
  }
    where
      under : (k : ℕ) → (is_among passed k ≡ true) ⊎ (k ≡ j) → k < length graph
      under k (inl h) = p.below k h
      under k (inr s) = rw s (within v j u)

      on : (w : ℕ) → (is_among passed w ≡ true) ⊎ (w ≡ j) → Reaches graph w j
      on w (inl h) = let r = p.reach w h in (suc r.0, reaches_more graph r.0 w v j r.1 u)
      on w (inr s) = (0, s)

  walk : (fuel : ℕ) (passed : List ℕ) (v : ℕ) → IsPath passed v → length passed + fuel ≡ length graph + 1 → ⊥
  walk zero passed v p e = let most = few (length graph) passed p.distinct p.below in absurd (omega (arith, most, e))
  walk (suc fuel) passed v p e = on (stuck v (p.below v p.there) p.out)
      (λ j path. walk fuel (passed ++ j ∷ []) j path (let one = length_push passed j in omega (arith, one, e)))
    where
      on : (j : ℕ) × (is_among (used_by graph v) j ≡ true) × (is_among taken j ≡ false) → ((j : ℕ) → IsPath (passed ++ j ∷ []) j → ⊥) → ⊥
      on next_one again = by (is_among passed next_one.0) refl
        where
          by : (b : Bool) → is_among passed next_one.0 ≡ b → ⊥
          by true h = acyclic v next_one.0 next_one.1 (p.reach next_one.0 h)
          by false h = again next_one.0 (path_more passed v next_one.0 p next_one.1 next_one.2 h)

  pub none_left : (i : ℕ) → i < length graph → is_among taken i ≡ true
  none_left i lt = by (is_among taken i) refl
    where
      start : is_among taken i ≡ false → IsPath (i ∷ []) i
      start o = record {
        distinct = (refl, tt);
        below = λ k h. under k (of_push [] i k h);
        there = or_left (nat_eq i i) false (equal_itself i);
        out = o;
        reach = λ w h. on w (of_push [] i w h);
      }
        where
          under : (k : ℕ) → (false ≡ true) ⊎ (k ≡ i) → k < length graph
          under k (inl h) = absurd cc
          under k (inr s) = rw s lt

          on : (w : ℕ) → (false ≡ true) ⊎ (w ≡ i) → Reaches graph w i
          on w (inl h) = absurd cc
          on w (inr s) = (0, s)

      by : (b : Bool) → is_among taken i ≡ b → is_among taken i ≡ true
      by true h = h
      by false h = absurd (walk (length graph) (i ∷ []) i (start h) (omega arith))

pub all_ordered : (graph : List (List ℕ)) → IsWithin graph → ((i j : ℕ) → is_among (used_by graph i) j ≡ true → Reaches graph j i → ⊥) → (i : ℕ) → i < length graph → is_among (order graph) i ≡ true
all_ordered graph within acyclic i lt = by (ended graph (length graph) [])
  where
    stuck : next graph (order graph) ≡ None → (k : ℕ) → k < length graph → is_among (order graph) k ≡ false
        → (j : ℕ) × (is_among (used_by graph k) j ≡ true) × (is_among (order graph) j ≡ false)
    stuck none k k_lt out =
        let no = none_found (is_ready graph (order graph)) 0 (length graph) k none (omega arith) (omega (arith, k_lt)) in
        some_not (is_among (order graph)) (used_by graph k) (not_taken (order graph) (used_by graph k) (is_among (order graph) k) out no)

    by : (length (order graph) ≡ length {A = ℕ} [] + length graph) ⊎ (next graph (order graph) ≡ None) → is_among (order graph) i ≡ true
    by (inl e) =
        all_there (length graph) (order graph) (order_distinct graph) (taken_below graph (length graph) [] (λ k h. absurd cc)) (omega (arith, e)) i lt
    by (inr none) = none_left graph (order graph) within acyclic (stuck none) i lt

-- ---- the parts of a text

module _ (names graph : List (List ℕ)) (i : ℕ) where
  no_use : (us : List Name) → NoneCyclicIn names graph i us → (j : ℕ) → is_among (numbers_of names us) j ≡ true → Reaches graph j i → ⊥
  no_use [] none j e r = absurd cc
  no_use (u ∷ us) none j e r = by_seen (no_use us none.1 j) (is_seen names u.text) refl e
    where
      by_same : (is_among (numbers_of names us) j ≡ true → Reaches graph j i → ⊥) → is_seen names u.text ≡ true → (b : Bool) → nat_eq j (number_of names u.text) ≡ b
          → (b || is_among (numbers_of names us) j) ≡ true → ⊥
      by_same ih seen true s h = let same : j ≡ number_of names u.text = grind (arith, nat_tests) in none.0 (seen, subst (λ k. Reaches graph k i) same r)
      by_same ih seen false s h = ih h r

      by_seen : (is_among (numbers_of names us) j ≡ true → Reaches graph j i → ⊥) → (b : Bool) → is_seen names u.text ≡ b
          → is_among (cond b (number_of names u.text ∷ numbers_of names us) (numbers_of names us)) j ≡ true → ⊥
      by_seen ih true seen h = by_same ih seen (nat_eq j (number_of names u.text)) refl h
      by_seen ih false seen h = ih h r

used_there : (names : List (List ℕ)) (parts : List PartTree) (i : ℕ) → used_by (map (λ p. numbers_of names (part_uses p)) parts) i ≡ numbers_of names (uses_at parts i)
used_there names [] i = refl
used_there names (p ∷ ps) zero = refl
used_there names (p ∷ ps) (suc i) = used_there names ps i

length_graph : (names : List (List ℕ)) (parts : List PartTree) → length (map (λ p. numbers_of names (part_uses p)) parts) ≡ length parts
length_graph names [] = refl
length_graph names (p ∷ ps) = let ih = length_graph names ps in omega (arith, ih)

pub no_part_is_lost : NoPartIsLost
no_part_is_lost parts none i lt =
    let long = length_graph (names_of parts) parts in
    all_ordered (graph_of parts) (is_within parts)
    (λ k j u r. no_use (names_of parts) (graph_of parts) k (uses_at parts k) (none k) j (ap (λ us. is_among us j) (sym (used_there (names_of parts) parts k)) ∙ u) r) i
    (omega (arith, long, lt))
