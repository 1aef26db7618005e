-- Each input is linked, or a part has the name of an earlier one, or parts use each other in a cycle: whether a part reaches
-- another is found out by looking at each part that is reached, once.
use Rattle.std.proofs.Common.{◌≡◌, ℕ, zero, suc, ◌+◌, ◌<◌, ◌≤◌, ◌⊎◌, inl, inr, Bool, true, false, cond, List, [], ◌∷◌, ◌++◌, length, set, replicate, Option, Some, None, nat_eq, nat_lt, refl, sym, ap, subst, ◌∙◌, arith}
use Rattle.std.proofs.lemmas.Bool.Decides.{nat_tests}
use Rattle.td_num.specs.Lists.{is_among}
use Rattle.td_num.proofs.Lists.{got}
use Rattle.td_ast.specs.declared.token.Span.{Span}
use Rattle.td_ast.specs.declared.names.Name.{Name}
use Rattle.td_ast.specs.declared.parts.PartTree.{PartTree}
use Rattle.td_ast.specs.declared.parts.InputTree.{InputTree}
use Rattle.td_ast.specs.declared.parts.InputTree.TheVariants.{Module, Parts}
use Rattle.td_names.specs.Names.{is_seen, number_of}
use Rattle.td_names.proofs.Naming.{number_below}
use Rattle.td_front_order.specs.Order.{used_by, IsWithin, Reaches}
use Rattle.td_front_flat.specs.Order.{names_of, graph_of, IsCyclicIn, NoneCyclicIn, NoneCyclic, NoCycle, IsFirstCyclic, uses_at, first_twice}
use Rattle.td_front_order.specs.Flags.{AreFlags, AreBelow, add_new}
use Rattle.td_front_flat.specs.Laws.{HasAnswer}
use Rattle.td_front_flat.proofs.Linking.{as_many, is_within}
use Rattle.td_front_order.proofs.Reached.{no_flags, counted_within, flags_more, used_are_below, IsUpTo, up_to_more, up_to_none, whole_reached}

-- ---- flags beside what is reached, which bound it

length_set : (flags : List Bool) (n : ℕ) (b : Bool) → length (set flags n b) ≡ length flags
length_set [] n b = refl
length_set (x ∷ flags) zero b = refl
length_set (x ∷ flags) (suc n) b = ap suc (length_set flags n b)

length_same : (n : ℕ) (b : Bool) → length (replicate n b) ≡ n
length_same zero b = refl
length_same (suc n) b = ap suc (length_same n b)

record Flagged (size : ℕ) (reached : List ℕ) : Type 0 where
  pub flags : List Bool
  pub are : AreFlags flags reached
  pub sized : length flags ≡ size

one_flag : (size : ℕ) (reached : List ℕ) (j : ℕ) → j < size → is_among reached j ≡ false → Flagged size reached → Flagged size (reached ++ j ∷ [])
one_flag size reached j lt e F = record {
  flags = set F.flags j true;
  are = flags_more F.flags reached j (let s = F.sized in omega (arith, lt, s)) (F.are.each j ∙ e) F.are;
  sized = length_set F.flags j true ∙ F.sized;
}

add_flags : (size : ℕ) (reached js : List ℕ) → AreBelow size js → Flagged size reached → Flagged size (add_new reached js)
add_flags size reached [] below F = F
add_flags size reached (j ∷ js) below F = by (is_among reached j) refl (add_flags size reached js below.1) (add_flags size (reached ++ j ∷ []) js below.1)
  where
    by : (b : Bool) → is_among reached j ≡ b → (Flagged size reached → Flagged size (add_new reached js)) → (Flagged size (reached ++ j ∷ []) → Flagged size (add_new (reached ++ j ∷ []) js))
        → Flagged size (add_new (cond b reached (reached ++ j ∷ [])) js)
    by true e old new = old F
    by false e old new = new (one_flag size reached j below.0 e F)

few_reached : (size : ℕ) (reached : List ℕ) → Flagged size reached → length reached ≤ size
few_reached size reached F = let s = F.sized in let c = F.are.count in let w = counted_within F.flags in omega (arith, s, c, w)

-- ---- all that a part reaches

record Explored (graph : List (List ℕ)) (from : ℕ) : Type 0 where
  pub cursor : ℕ
  pub reached : List ℕ
  pub whole : length reached ≤ cursor
  pub up_to : IsUpTo graph from cursor reached

explore : (graph : List (List ℕ)) → IsWithin graph → (fuel from cursor : ℕ) (reached : List ℕ) → length graph ≤ cursor + fuel → Flagged (length graph) reached → IsUpTo graph from cursor reached → Explored graph from
explore graph within zero from cursor reached far F U =
    let few = few_reached (length graph) reached F in
    record { cursor = cursor; reached = reached; whole = omega (arith, few, far); up_to = U }
explore graph within (suc fuel) from cursor reached far F U = by (nat_lt cursor (length reached)) refl (explore graph within fuel from (cursor + 1))
  where
    by : (b : Bool) → nat_lt cursor (length reached) ≡ b
        → ((reached : List ℕ) → length graph ≤ cursor + 1 + fuel → Flagged (length graph) reached → IsUpTo graph from (cursor + 1) reached → Explored graph from) → Explored graph from
    by true e more =
        let lt : cursor < length reached = grind (arith, nat_tests) in
        let here = got reached cursor lt in
        more (add_new reached (used_by graph here.0)) (omega (arith, far)) (add_flags (length graph) reached (used_by graph here.0) (used_are_below graph here.0 within) F)
        (up_to_more graph from cursor here.0 reached lt here.1 U)
    by false e more = record { cursor = cursor; reached = reached; whole = grind (arith, nat_tests); up_to = U }

from_one : (graph : List (List ℕ)) → IsWithin graph → (from : ℕ) → from < length graph → Explored graph from
from_one graph within from lt =
    let none : Flagged (length graph) [] = record { flags = replicate (length graph) false; are = no_flags (length graph); sized = length_same (length graph) false } in
    explore graph within (length graph) from 0 (from ∷ []) (omega arith) (one_flag (length graph) [] from lt refl none) (up_to_none graph from)

reaches_or_not : (graph : List (List ℕ)) → IsWithin graph → (a b : ℕ) → a < length graph → Reaches graph a b ⊎ (Reaches graph a b → ⊥)
reaches_or_not graph within a b lt = by (from_one graph within a lt)
  where
    by : Explored graph a → Reaches graph a b ⊎ (Reaches graph a b → ⊥)
    by x = by_test (is_among x.reached b) refl
      where
        by_test : (t : Bool) → is_among x.reached b ≡ t → Reaches graph a b ⊎ (Reaches graph a b → ⊥)
        by_test true e = inl (x.up_to.sound b e)
        by_test false e = inr (λ r. let there = whole_reached graph a x.cursor x.reached x.whole x.up_to b r in absurd cc)

-- ---- uses

module _ (names graph : List (List ℕ)) (within : IsWithin graph) (many : length graph ≡ length names) where
  cyclic_or_not : (i : ℕ) (u : Name) → IsCyclicIn names graph i u ⊎ (IsCyclicIn names graph i u → ⊥)
  cyclic_or_not i u = by (is_seen names u.text) refl
    where
      by : (b : Bool) → is_seen names u.text ≡ b → IsCyclicIn names graph i u ⊎ (IsCyclicIn names graph i u → ⊥)
      by true e =
          let lt = number_below names u.text e in
          elim (reaches_or_not graph within (number_of names u.text) i (omega (arith, lt, many))) [ inl r ↦ inl (e, r) | inr never ↦ inr (λ h. never h.1) ]
      by false e = inr (λ h. let seen = h.0 in absurd cc)

  record FirstUse (i : ℕ) (uses : List Name) : Type 0 where
    pub sooner : List Name
    pub use_there : Name
    pub later : List Name
    pub split : uses ≡ sooner ++ use_there ∷ later
    pub cyclic : IsCyclicIn names graph i use_there
    pub before : NoneCyclicIn names graph i sooner

  first_use : (i : ℕ) (uses : List Name) → NoneCyclicIn names graph i uses ⊎ FirstUse i uses
  first_use i [] = inl tt
  first_use i (u ∷ us) = by (cyclic_or_not i u) (first_use i us)
    where
      by : IsCyclicIn names graph i u ⊎ (IsCyclicIn names graph i u → ⊥) → NoneCyclicIn names graph i us ⊎ FirstUse i us → NoneCyclicIn names graph i (u ∷ us) ⊎ FirstUse i (u ∷ us)
      by (inl h) rest = inr (record { sooner = []; use_there = u; later = us; split = refl; cyclic = h; before = tt })
      by (inr never) (inl none) = inl (never, none)
      by (inr never) (inr f) =
          inr (record { sooner = u ∷ f.sooner; use_there = f.use_there; later = f.later; split = ap (λ l. u ∷ l) f.split; cyclic = f.cyclic; before = (never, f.before) })

-- ---- parts

abbrev FirstCycle : List PartTree → Type 0
FirstCycle parts = (at : Span) × IsFirstCyclic parts at

abbrev NoneBefore : List PartTree → ℕ → Type 0
NoneBefore parts n = (i : ℕ) → i < n → NoneCyclic parts i (uses_at parts i)

up_to_part : (parts : List PartTree) (n : ℕ) → NoneBefore parts n ⊎ FirstCycle parts
up_to_part parts zero = inl (λ i lt. absurd (omega (arith, lt)))
up_to_part parts (suc n) = by (up_to_part parts n) (first_use (names_of parts) (graph_of parts) (is_within parts) (as_many parts) n (uses_at parts n))
  where
    more : NoneBefore parts n → NoneCyclic parts n (uses_at parts n) → NoneBefore parts (suc n)
    more before here i lt = by_test (nat_eq i n) refl
      where
        by_test : (b : Bool) → nat_eq i n ≡ b → NoneCyclic parts i (uses_at parts i)
        by_test true e = let same : n ≡ i = grind (arith, nat_tests) in subst (λ k. NoneCyclic parts k (uses_at parts k)) same here
        by_test false e = before i (grind (arith, nat_tests))

    by : NoneBefore parts n ⊎ FirstCycle parts → NoneCyclic parts n (uses_at parts n) ⊎ FirstUse (names_of parts) (graph_of parts) (is_within parts) (as_many parts) n (uses_at parts n) → NoneBefore parts (suc n) ⊎ FirstCycle parts
    by (inr found) rest = inr found
    by (inl before) (inl here) = inl (more before here)
    by (inl before) (inr f) =
        inr (f.use_there.span, record { part = n; sooner = f.sooner; use_there = f.use_there; later = f.later; uses = f.split; place = refl; cyclic = f.cyclic; before = f.before; parts_before = before })

past : (parts : List PartTree) (i : ℕ) → length parts ≤ i → uses_at parts i ≡ []
past [] i le = refl
past (p ∷ parts) zero le = absurd (omega (arith, le))
past (p ∷ parts) (suc i) le = past parts i (omega (arith, le))

none_at_all : (parts : List PartTree) → NoneBefore parts (length parts) → NoCycle parts
none_at_all parts before i = by (nat_lt i (length parts)) refl
  where
    by : (b : Bool) → nat_lt i (length parts) ≡ b → NoneCyclic parts i (uses_at parts i)
    by true e = before i (grind (arith, nat_tests))
    by false e = let far : length parts ≤ i = grind (arith, nat_tests) in subst (λ us. NoneCyclic parts i us) (sym (past parts i far)) tt

pub has_answer : (input : InputTree) → HasAnswer input
has_answer (Module tree) = inl tt
has_answer (Parts parts) = by_twice (first_twice [] parts) refl
  where
    by_cycle : first_twice [] parts ≡ None → NoneBefore parts (length parts) ⊎ FirstCycle parts → HasAnswer (Parts parts)
    by_cycle e (inl before) = inl (e, none_at_all parts before)
    by_cycle e (inr found) = inr (inr (found.0, (e, found.1)))

    by_twice : (o : Option Span) → first_twice [] parts ≡ o → HasAnswer (Parts parts)
    by_twice None e = by_cycle e (up_to_part parts (length parts))
    by_twice (Some at) e = inr (inl (at, e))
