-- What the lists of names, uses and numbers say of the parts. Cited by other crates.
use Rattle.std.proofs.Common.{◌≡◌, ℕ, zero, suc, ◌<◌, inl, inr, Bool, true, false, cond, ◌||◌, List, [], ◌∷◌, ◌++◌, length, take, drop, map, Option, Some, None, nat_eq, refl, sym, ap, subst, ◌∙◌, arith}
use Rattle.std.specs.Prelude.{slice_get}
use Rattle.std.proofs.lemmas.Bool.Decides.{nat_tests}
use Rattle.std.proofs.lemmas.List.{length-map}
use Rattle.td_num.specs.Lists.{is_among}
use Rattle.td_ast.specs.declared.token.Span.{Span}
use Rattle.td_ast.specs.declared.names.Name.{Name}
use Rattle.td_ast.specs.declared.parts.PartTree.{PartTree}
use Rattle.td_names.specs.Names.{is_seen, number_of}
use Rattle.td_names.proofs.Naming.{number_below}
use Rattle.td_front_flat.specs.Uses.{part_uses}
use Rattle.td_front_order.specs.Order.{used_by, IsWithin}
use Rattle.td_front_flat.specs.Order.{names_of, numbers_of, graph_of, NoneCyclicIn, NoCycle, IsFirstCyclic, uses_at, first_twice}
use Rattle.td_front_flat.specs.Firsts.{IsFirstPlace, IsCycleFault, listed_at}
use Rattle.td_front_flat.specs.declared.error.FlatError.{FlatError}
use Rattle.td_ast.specs.declared.parts.InputTree.TheVariants.{Parts}
use Rattle.td_front_flat.specs.Flat.{IsFault}

graph_by : (names : List (List ℕ)) (parts : List PartTree) → map (numbers_of names) (map part_uses parts) ≡ map (λ p. numbers_of names (part_uses p)) parts
graph_by names [] = refl
graph_by names (p ∷ ps) = ap (λ g. numbers_of names (part_uses p) ∷ g) (graph_by names ps)

pub graph_is : (parts : List PartTree) → map (numbers_of (names_of parts)) (map part_uses parts) ≡ graph_of parts
graph_is parts = graph_by (names_of parts) parts

listed_is : (parts : List PartTree) (i : ℕ) → listed_at (map part_uses parts) i ≡ uses_at parts i
listed_is [] i = refl
listed_is (p ∷ ps) zero = refl
listed_is (p ∷ ps) (suc i) = listed_is ps i

split_at : (xs : List Name) (k : ℕ) (x : Name) → slice_get xs k ≡ Some x → xs ≡ take k xs ++ x ∷ drop (suc k) xs
split_at [] k x e = absurd cc
split_at (y ∷ xs) zero x e = let same : y ≡ x = cc in ap (λ z. z ∷ xs) same
split_at (y ∷ xs) (suc k) x e = ap (λ l. y ∷ l) (split_at xs k x e)

pub none_cyclic : (parts : List PartTree) → IsFirstPlace (names_of parts) (graph_of parts) (map part_uses parts) None → NoCycle parts
none_cyclic parts h i = subst (λ l. NoneCyclicIn (names_of parts) (graph_of parts) i l) (listed_is parts i) (h i)

pub first_cyclic : (parts : List PartTree) (at : Span) → IsFirstPlace (names_of parts) (graph_of parts) (map part_uses parts) (Some at) → IsFirstCyclic parts at
first_cyclic parts at h =
    let listed = listed_at (map part_uses parts) h.part in
    let is = listed_is parts h.part in
    record {
      part = h.part;
      sooner = take h.number listed;
      use_there = h.use_there;
      later = drop (suc h.number) listed;
      uses = sym is ∙ split_at listed h.number h.use_there h.there;
      place = h.place;
      cyclic = h.cyclic;
      before = h.before;
      parts_before = λ i lt. subst (λ l. NoneCyclicIn (names_of parts) (graph_of parts) i l) (listed_is parts i) (h.parts_before i lt);
    }

pub moved : (n m g h : List (List ℕ)) (a b : List (List Name)) (o p : Option Span) → n ≡ m → g ≡ h → a ≡ b → o ≡ p → IsFirstPlace n g a o → IsFirstPlace m h b p
moved n m g h a b o p e f k l place =
    subst (λ x. IsFirstPlace m h b x) l (subst (λ x. IsFirstPlace m h x o) k (subst (λ x. IsFirstPlace m x a o) f (subst (λ x. IsFirstPlace x g a o) e place)))

-- an error that comes of the lists is one of the parts, where no name is twice
pub cycle_fault : (parts : List PartTree) (e : FlatError) → first_twice [] parts ≡ None → IsCycleFault (names_of parts) (graph_of parts) (map part_uses parts) e → IsFault (Parts parts) e
cycle_fault parts e none (inl h) = subst (λ x. IsFault (Parts parts) x) (sym h) tt
cycle_fault parts e none (inr (at, is, place)) = subst (λ x. IsFault (Parts parts) x) (sym is) (none, first_cyclic parts at place)

pub moved_fault : (n m g h : List (List ℕ)) (a b : List (List Name)) (e : FlatError) → n ≡ m → g ≡ h → a ≡ b → IsCycleFault n g a e → IsCycleFault m h b e
moved_fault n m g h a b e x y z (inl none) = inl none
moved_fault n m g h a b e x y z (inr (at, is, place)) = inr (at, is, moved n m g h a b (Some at) (Some at) x y z refl place)

-- ---- numbers

pub as_many : (parts : List PartTree) → length (graph_of parts) ≡ length (names_of parts)
as_many parts = length-map parts (λ p. numbers_of (names_of parts) (part_uses p)) ∙ sym (length-map parts (λ p. p.name.text))

numbers_below : (names : List (List ℕ)) (us : List Name) (j : ℕ) → is_among (numbers_of names us) j ≡ true → j < length names
numbers_below names [] j e = absurd cc
numbers_below names (u ∷ us) j e = by_seen (is_seen names u.text) refl (numbers_below names us j) e
  where
    by_same : (b : Bool) → nat_eq j (number_of names u.text) ≡ b → is_seen names u.text ≡ true → (is_among (numbers_of names us) j ≡ true → j < length names) → (b || is_among (numbers_of names us) j) ≡ true → j < length names
    by_same true e s ih h = let same : j ≡ number_of names u.text = grind (arith, nat_tests) in rw same (number_below names u.text s)
    by_same false e s ih h = ih h

    by_seen : (b : Bool) → is_seen names u.text ≡ b → (is_among (numbers_of names us) j ≡ true → j < length names) → is_among (cond b (number_of names u.text ∷ numbers_of names us) (numbers_of names us)) j ≡ true → j < length names
    by_seen true s ih h = by_same (nat_eq j (number_of names u.text)) refl s ih h
    by_seen false s ih h = ih h

used_below : (names : List (List ℕ)) (parts : List PartTree) (i j : ℕ) → is_among (used_by (map (λ p. numbers_of names (part_uses p)) parts) i) j ≡ true → j < length names
used_below names [] i j e = absurd cc
used_below names (p ∷ ps) zero j e = numbers_below names (part_uses p) j e
used_below names (p ∷ ps) (suc i) j e = used_below names ps i j e

pub is_within : (parts : List PartTree) → IsWithin (graph_of parts)
is_within parts i j e = let lt = used_below (names_of parts) parts i j e in rw (as_many parts) lt
