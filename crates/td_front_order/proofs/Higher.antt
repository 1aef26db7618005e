-- Heights, one by one, and that those that reach are no lower. Cited by other crates.
use Rattle.std.proofs.Common.{◌≡◌, ℕ, zero, suc, ◌+◌, ◌<◌, ◌≤◌, Bool, true, false, ◌||◌, List, [], ◌∷◌, length, nat_eq, nat_le, nat_lt, refl, sym, ap, subst, ◌∙◌, arith}
use Rattle.std.specs.List.{list_all}
use Rattle.std.proofs.lemmas.Bool.Decides.{nat_tests}
use Rattle.td_num.specs.Lists.{is_among}
use Rattle.td_num.proofs.Truths.{both_true}
use Rattle.td_front_order.specs.Order.{used_by, ReachesBy, Reaches}
use Rattle.td_front_order.specs.Heights.{height, AreHeights}

-- those below a number are no lower than what they use
abbrev pub AreHeightsBelow : ℕ → List (List ℕ) → List ℕ → Type 0
AreHeightsBelow n graph heights = (i j : ℕ) → i < n → is_among (used_by graph i) j ≡ true → height heights j ≤ height heights i

pub none_below : (graph : List (List ℕ)) (heights : List ℕ) → AreHeightsBelow 0 graph heights
none_below graph heights i j lt u = absurd (omega arith)

all_pass : (p : ℕ → Bool) (xs : List ℕ) → list_all p xs ≡ true → (j : ℕ) → is_among xs j ≡ true → p j ≡ true
all_pass p [] all j h = absurd cc
all_pass p (x ∷ xs) all j h = by (λ rest. all_pass p xs rest j) (nat_eq j x) refl (both_true (p x) (list_all p xs) all).1 h
  where
    by : (list_all p xs ≡ true → is_among xs j ≡ true → p j ≡ true) → (b : Bool) → nat_eq j x ≡ b → list_all p xs ≡ true → (b || is_among xs j) ≡ true → p j ≡ true
    by ih true e rest h = let same : x ≡ j = grind (arith, nat_tests) in subst (λ n. p n ≡ true) same (both_true (p x) (list_all p xs) all).0
    by ih false e rest h = ih rest h

pub one_more : (graph : List (List ℕ)) (heights : List ℕ) (n : ℕ) → AreHeightsBelow n graph heights
    → list_all (λ j. nat_le (height heights j) (height heights n)) (used_by graph n) ≡ true → AreHeightsBelow (n + 1) graph heights
one_more graph heights n below all i j lt u = by (nat_eq i n) refl
  where
    here : is_among (used_by graph n) j ≡ true → height heights j ≤ height heights n
    here h = let passed = all_pass (λ k. nat_le (height heights k) (height heights n)) (used_by graph n) all j h in grind (arith, nat_tests)

    by : (b : Bool) → nat_eq i n ≡ b → height heights j ≤ height heights i
    by true e =
        let same : n ≡ i = grind (arith, nat_tests) in
        subst (λ k. height heights j ≤ height heights k) same (here (subst (λ k. is_among (used_by graph k) j ≡ true) (sym same) u))
    by false e = let less : i < n = grind (arith, nat_tests) in below i j less u

past : (graph : List (List ℕ)) (i : ℕ) → length graph ≤ i → used_by graph i ≡ []
past [] i le = refl
past (us ∷ graph) zero le = absurd (omega arith)
past (us ∷ graph) (suc i) le = past graph i (omega arith)

pub all_of_them : (graph : List (List ℕ)) (heights : List ℕ) (n : ℕ) → length graph ≤ n → AreHeightsBelow n graph heights → AreHeights graph heights
all_of_them graph heights n le below i j u = by (nat_lt i n) refl
  where
    by : (b : Bool) → nat_lt i n ≡ b → height heights j ≤ height heights i
    by true e = below i j (grind (arith, nat_tests)) u
    by false e =
        let far : n ≤ i = grind (arith, nat_tests) in
        let none : is_among (used_by graph i) j ≡ false = ap (λ us. is_among us j) (past graph i (omega (arith, far, le))) in
        absurd cc

-- who reaches another is no lower
by_uses : (graph : List (List ℕ)) (heights : List ℕ) → AreHeights graph heights → (n a b : ℕ) → ReachesBy graph n a b → height heights b ≤ height heights a
by_uses graph heights H zero a b e = let same : height heights a ≡ height heights b = ap (height heights) e in omega arith
by_uses graph heights H (suc n) a b (c, u, rest) = let one = H a c u in let more = by_uses graph heights H n c b rest in omega (arith, one, more)

pub reaches_down : (graph : List (List ℕ)) (heights : List ℕ) → AreHeights graph heights → (a b : ℕ) → Reaches graph a b → height heights b ≤ height heights a
reaches_down graph heights H a b (n, r) = by_uses graph heights H n a b r
