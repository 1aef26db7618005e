-- Reading one after the other, as a loop does.
use Rattle.std.proofs.Common.{◌≡◌, ℕ, suc, ◌-◌, ◌+◌, ◌≤◌, ◌<◌, List, [], ◌∷◌, ◌++◌, Result, Ok, Err, refl, sym, ap, ◌∙◌, append_assoc, arith}
use Rattle.std.proofs.lemmas.List.{append-nil}
use Rattle.td_image.specs.declared.fault.Fault.{Fault}
use Rattle.td_image.specs.declared.fault.ReadError.{ReadError}
use Rattle.td_image.specs.declared.fault.ReadError.TheVariants as errors
use Rattle.td_image.specs.Format.{◌>>=◌, Format, read_all}
use Rattle.td_image.specs.Reading.{Ends}

-- what was read before, and what is still read
abbrev pub with_front : {A : Type 0} → List A → Result (List A × List ℕ) Fault → Result (List A × List ℕ) Fault
with_front front read = read >>= λ x. Ok (front ++ x.0, x.1)

regroup : {A : Type 0} (front : List A) (n : A) (read : Result (List A × List ℕ) Fault) → with_front front (read >>= λ x. Ok (n ∷ x.0, x.1)) ≡ with_front (front ++ n ∷ []) read
regroup {A} front n (Ok x) = ap (λ (ns : List A). Ok (ns, x.1)) (simp append_assoc)
regroup front n (Err f) = refl

module _ {S A : Type 0} (f : S → Format A) (next : S → A → S) where
  pub goes_on : (front : List A) (count i : ℕ) (s : S) (bytes : List ℕ) (x : A) (after : List ℕ) (total : Result (List A × List ℕ) Fault) → i < count → (f s).read bytes ≡ Ok (x, after)
      → with_front front (read_all f next (count - i) s bytes) ≡ total → with_front (front ++ x ∷ []) (read_all f next (count - (i + 1)) (next s x) after) ≡ total
  unfolding read_all
  goes_on front count i s bytes x after total lt h so_far =
      let k : count - i ≡ suc (count - (i + 1)) = omega arith in
      let one : with_front front (read_all f next (count - i) s bytes) ≡ with_front (front ++ x ∷ []) (read_all f next (count - (i + 1)) (next s x) after) = rw (k, h) (regroup front x (read_all f next (count - (i + 1)) (next s x) after)) in
      sym one ∙ so_far

  pub ends : (e : ReadError) (front : List A) (count i : ℕ) (s : S) (bytes : List ℕ) (total : Result (List A × List ℕ) Fault) → i < count → Ends e ((f s).read bytes)
      → with_front front (read_all f next (count - i) s bytes) ≡ total → Ends e total
  unfolding read_all
  ends errors.NoMemory front count i s bytes total lt h so_far = tt
  ends (errors.Fault fault) front count i s bytes total lt h so_far =
      let k : count - i ≡ suc (count - (i + 1)) = omega arith in
      let one : with_front front (read_all f next (count - i) s bytes) ≡ Err fault = rw (k, h) refl in
      sym so_far ∙ one

  pub is_done : (front : List A) (count i : ℕ) (s : S) (bytes : List ℕ) (total : Result (List A × List ℕ) Fault) → count ≤ i → with_front front (read_all f next (count - i) s bytes) ≡ total → total ≡ Ok (front, bytes)
  unfolding read_all
  is_done front count i s bytes total le so_far =
      let k : count - i ≡ 0 = omega arith in
      let one : with_front front (read_all f next (count - i) s bytes) ≡ Ok (front, bytes) = rw k (ap (λ (ns : List A). Ok (ns, bytes)) (append-nil front)) in
      sym so_far ∙ one
