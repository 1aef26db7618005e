-- Buffers, and a byte that is put into one. Cited by other crates.
use Rattle.std.proofs.Common.{◌≡◌, ℕ, zero, suc, ◌+◌, ◌%◌, ◌<◌, true, cond, List, [], ◌∷◌, ◌++◌, length, map, Some, None, refl, sym, ap, ◌∙◌, arith, slice_index, slice_set, length-set, take}
use Rattle.std.specs.Prelude.{nat_lt, slice_index_or}
use Rattle.std.proofs.lemmas.Bool.{lt-ltb}
use Rattle.std.proofs.lemmas.List.{map-append}
use Rattle.std.proofs.Math.Seq.{take-suc-set}
use Rattle.td_num.specs.Numbers.{places_from}
use Rattle.td_prog.specs.Values.{and_then, with_byte}
use Rattle.td_prog_trees.proofs.Leading.{places_split}

-- Lengths of buffers
length_at : (bs : List (List ℕ)) (x : ℕ) → length (slice_index_or bs x []) ≡ slice_index (map length bs) x
length_at [] x = refl
length_at (b ∷ bs) zero = refl
length_at (b ∷ bs) (suc x) = length_at bs x

lengths_set : (bs : List (List ℕ)) (x : ℕ) (b : List ℕ) → length b ≡ length (slice_index_or bs x []) → map length (slice_set bs x b) ≡ map length bs
lengths_set [] x b h = refl
lengths_set (a ∷ bs) zero b h = ap (λ n. n ∷ map length bs) h
lengths_set (a ∷ bs) (suc x) b h = ap (λ ns. length a ∷ ns) (lengths_set bs x b h)

set_here : (bs : List (List ℕ)) (x : ℕ) (b : List ℕ) → x < length bs → slice_index_or (slice_set bs x b) x [] ≡ b
set_here [] x b h = absurd (omega (arith, h))
set_here (a ∷ bs) zero b h = refl
set_here (a ∷ bs) (suc x) b h = set_here bs x b (omega (arith, h))

set_other : (bs : List (List ℕ)) (x y : ℕ) (b : List ℕ) → (y ≡ x → ⊥) → slice_index_or (slice_set bs x b) y [] ≡ slice_index_or bs y []
set_other [] x y b h = refl
set_other (a ∷ bs) zero zero b h = absurd (h refl)
set_other (a ∷ bs) zero (suc y) b h = refl
set_other (a ∷ bs) (suc x) zero b h = refl
set_other (a ∷ bs) (suc x) (suc y) b h = set_other bs x y b (λ e. h (ap suc e))

some_there : (bs : List (List ℕ)) (x k : ℕ) → k < slice_index (map length bs) x → x < length bs
some_there [] x k h = absurd (omega (arith, h))
some_there (a ∷ bs) zero k h = omega arith
some_there (a ∷ bs) (suc x) k h = let r = some_there bs x k h in omega (arith, r)

pub record Puts (bs : List (List ℕ)) (x k v : ℕ) : Type 0 where
  pub now : List (List ℕ)
  pub is : with_byte bs x k v ≡ Some now
  pub kept : map length now ≡ map length bs
  pub here : slice_index_or now x [] ≡ slice_set (slice_index_or bs x []) k (v % 256)
  pub others : (b : ℕ) → (b ≡ x → ⊥) → slice_index_or now b [] ≡ slice_index_or bs b []
  pub room : k < length (slice_index_or bs x [])

pub puts : (bs : List (List ℕ)) (x k v : ℕ) → k < slice_index (map length bs) x → Puts bs x k v
puts bs x k v h =
    let old = slice_index_or bs x [] in
    let size = length_at bs x in
    let new = slice_set old k (v % 256) in
    let there : nat_lt k (length old) ≡ true = lt-ltb k (length old) (omega (arith, h, size)) in
    record {
      now = slice_set bs x new;
      is = ap (λ b. and_then (cond b (Some new) None) (λ bytes. Some (slice_set bs x bytes))) there;
      kept = lengths_set bs x new (length-set old k (v % 256));
      here = set_here bs x new (some_there bs x k h);
      others = λ b e. set_other bs x b new e;
      room = omega (arith, h, size);
    }

module _ (message : List ℕ) (x base : ℕ) (old : List (List ℕ)) where
  -- so many bytes of buffer x are the message's from a place on, and the other buffers are as they were
  abbrev pub IsDone : List (List ℕ) → ℕ → Type 0
  IsDone bs n = take n (slice_index_or bs x []) ≡ map (slice_index message) (places_from base n)

  abbrev pub AreOld : List (List ℕ) → Type 0
  AreOld bs = (b : ℕ) → (b ≡ x → ⊥) → slice_index_or bs b [] ≡ slice_index_or old b []

  pub byte_more : (bs : List (List ℕ)) (k v : ℕ) → (p : Puts bs x k v) → IsDone bs k → v % 256 ≡ slice_index message (base + k) → IsDone p.now (k + 1)
  byte_more bs k v p d e =
      let one : k + 1 ≡ suc k = omega arith in
      ap (λ n. take n (slice_index_or p.now x [])) one ∙ ap (take (suc k)) p.here ∙ take-suc-set (slice_index_or bs x []) k (v % 256) p.room
      ∙ ap (λ xs. xs ++ (v % 256) ∷ []) d ∙ ap (λ y. map (slice_index message) (places_from base k) ++ y ∷ []) e
      ∙ sym (map-append (slice_index message) (places_from base k) ((base + k) ∷ [])) ∙ ap (map (slice_index message)) (sym (places_split base k 1))

  pub old_more : (bs : List (List ℕ)) (k v : ℕ) → (p : Puts bs x k v) → AreOld bs → AreOld p.now
  old_more bs k v p o b e = p.others b e ∙ o b e
