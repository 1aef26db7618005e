-- No use is cyclic, use by use and part by part.
use Rattle.std.proofs.Common.{◌≡◌, ℕ, zero, suc, ◌+◌, ◌<◌, ◌≤◌, Bool, true, false, List, [], ◌∷◌, length, take, Some, nat_eq, nat_lt, refl, sym, subst, arith}
use Rattle.std.specs.Prelude.{slice_get}
use Rattle.std.proofs.lemmas.Bool.Decides.{nat_tests}
use Rattle.td_num.specs.Lists.{Each}
use Rattle.td_ast.specs.declared.names.Name.{Name}
use Rattle.td_front_flat.specs.Order.{NoneCyclicIn}
use Rattle.td_front_flat.specs.Firsts.{listed_at}

module _ {A : Type 0} (P : A → Type 0) where
  each_suc : (xs : List A) (k : ℕ) (x : A) → slice_get xs k ≡ Some x → Each P (take k xs) → P x → Each P (take (suc k) xs)
  each_suc [] k x e h p = absurd cc
  each_suc (y ∷ xs) zero x e h p = let same : x ≡ y = cc in (subst P same p, tt)
  each_suc (y ∷ xs) (suc k) x e h p = (h.0, each_suc xs k x e h.1 p)

  pub each_more : (xs : List A) (k : ℕ) (x : A) → slice_get xs k ≡ Some x → Each P (take k xs) → P x → Each P (take (k + 1) xs)
  each_more xs k x e h p = let next : suc k ≡ k + 1 = omega arith in subst (λ n. Each P (take n xs)) next (each_suc xs k x e h p)

  pub each_all : (xs : List A) (k : ℕ) → length xs ≤ k → Each P (take k xs) → Each P xs
  each_all [] k le h = tt
  each_all (y ∷ xs) zero le h = absurd (omega arith)
  each_all (y ∷ xs) (suc k) le h = (h.0, each_all xs k (omega arith) h.1)

-- one part more
pub parts_more : (names graph : List (List ℕ)) (all : List (List Name)) (n : ℕ) → ((i : ℕ) → i < n → NoneCyclicIn names graph i (listed_at all i)) → NoneCyclicIn names graph n (listed_at all n) → (i : ℕ) → i < n + 1 → NoneCyclicIn names graph i (listed_at all i)
parts_more names graph all n before here i lt = by_test (nat_eq i n) refl
  where
    by_test : (b : Bool) → nat_eq i n ≡ b → NoneCyclicIn names graph i (listed_at all i)
    by_test true e = let same : n ≡ i = grind (arith, nat_tests) in subst (λ k. NoneCyclicIn names graph k (listed_at all k)) same here
    by_test false e = before i (grind (arith, nat_tests))

-- all parts
past : (all : List (List Name)) (i : ℕ) → length all ≤ i → listed_at all i ≡ []
past [] i le = refl
past (us ∷ all) zero le = absurd (omega arith)
past (us ∷ all) (suc i) le = past all i (omega arith)

pub parts_all : (names graph : List (List ℕ)) (all : List (List Name)) (n : ℕ) → length all ≤ n → ((i : ℕ) → i < n → NoneCyclicIn names graph i (listed_at all i)) → (i : ℕ) → NoneCyclicIn names graph i (listed_at all i)
parts_all names graph all n le before i = by_test (nat_lt i n) refl
  where
    by_test : (b : Bool) → nat_lt i n ≡ b → NoneCyclicIn names graph i (listed_at all i)
    by_test true e = before i (grind (arith, nat_tests))
    by_test false e = let far : n ≤ i = grind (arith, nat_tests) in subst (λ us. NoneCyclicIn names graph i us) (sym (past all i (omega (arith, far, le)))) tt
