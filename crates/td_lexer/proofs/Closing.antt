-- Where a comment ends.
use Rattle.std.proofs.Common.{◌≡◌, ℕ, suc, ◌+◌, ◌≤◌, Bool, true, false, cond, eqb, List, [], ◌∷◌, ◌++◌, length, Option, Some, None, refl, sym, ap, ◌∙◌, arith}
use Rattle.std.specs.Prelude.{◌&&◌, codes}
use Rattle.std.proofs.lemmas.Bool.{eqb-true}
use Rattle.std.proofs.Math.Bool.{and-false}
use Rattle.td_num.specs.Lists.{one_more}
use Rattle.td_lexer.specs.Bytes.{first_is}
use Rattle.td_lexer.specs.Scanner.{close_of, closes}
use Rattle.td_lexer.proofs.Within.{and_left, and_right}

-- the first end of a comment, and what is before it
abbrev pub Closes : List ℕ → Option ℕ → Type 0
Closes bytes None = (before behind : List ℕ) → bytes ≡ before ++ codes "*/" ++ behind → ⊥
Closes bytes (Some n) =
    (body rest : List ℕ) × (bytes ≡ body ++ codes "*/" ++ rest) × (n ≡ length body + 2)
    × ((before behind : List ℕ) → body ++ codes "*/" ++ rest ≡ before ++ codes "*/" ++ behind → length body ≤ length before)

abbrev tail_of : List ℕ → List ℕ
tail_of [] = []
tail_of (b ∷ bytes) = bytes

closes_first : (bytes behind : List ℕ) → bytes ≡ codes "*/" ++ behind → closes bytes ≡ true
closes_first bytes behind e = rw e refl

pub close_found : (bytes : List ℕ) → Closes bytes (close_of bytes)
close_found [] = none
  where
    none : (before behind : List ℕ) → [] ≡ before ++ codes "*/" ++ behind → ⊥
    none [] behind e = cc
    none (b ∷ before) behind e = cc
close_found (a ∷ bytes) = by_test (closes (a ∷ bytes)) refl (close_of bytes) (close_found bytes)
  where
    here : (bs : List ℕ) → (eqb a 42 && first_is (λ b. eqb b 47) bs) ≡ true → Closes (a ∷ bs) (Some 2)
    here [] e = absurd (cc (e, and-false (eqb a 42)))
    here (b ∷ bs) e =
        let ea = eqb-true a 42 (and_left (eqb a 42) (eqb b 47) e) in
        let eb = eqb-true b 47 (and_right (eqb a 42) (eqb b 47) e) in
        ([], bs, rw (ea, eb) refl, omega arith, λ before behind same. omega arith)

    later : (n : ℕ) → closes (a ∷ bytes) ≡ false → Closes bytes (Some n) → Closes (a ∷ bytes) (Some (suc n))
    later n e (body, rest, same, count, first) = (a ∷ body, rest, ap (λ (l : List ℕ). a ∷ l) same, omega arith, least)
      where
        least : (before behind : List ℕ) → a ∷ (body ++ codes "*/" ++ rest) ≡ before ++ codes "*/" ++ behind → suc (length body) ≤ length before
        least [] behind h = absurd (cc (e, closes_first (a ∷ bytes) behind (ap (λ (l : List ℕ). a ∷ l) same ∙ h)))
        least (b ∷ before) behind h = let le = first before behind (ap tail_of h) in omega arith

    never : closes (a ∷ bytes) ≡ false → Closes bytes None → Closes (a ∷ bytes) None
    never e none [] behind h = cc (e, closes_first (a ∷ bytes) behind h)
    never e none (b ∷ before) behind h = none before behind (ap tail_of h)

    by_test : (c : Bool) → closes (a ∷ bytes) ≡ c → (o : Option ℕ) → Closes bytes o → Closes (a ∷ bytes) (cond c (Some 2) (one_more o))
    by_test true e o h = here bytes e
    by_test false e (Some n) h = later n e h
    by_test false e None h = never e h

-- the end that is the first is found
pub close_is : (body rest : List ℕ) → ((before behind : List ℕ) → body ++ codes "*/" ++ rest ≡ before ++ codes "*/" ++ behind → length body ≤ length before) → close_of (body ++ codes "*/" ++ rest) ≡ Some (length body + 2)
close_is body rest first = by_case (close_of (body ++ codes "*/" ++ rest)) (close_found (body ++ codes "*/" ++ rest))
  where
    by_case : (o : Option ℕ) → Closes (body ++ codes "*/" ++ rest) o → o ≡ Some (length body + 2)
    by_case None h = absurd (h body rest refl)
    by_case (Some n) (found, after, same, count, least) =
        let up = first found after same in
        let down = least body rest (sym same) in
        ap (λ (m : ℕ). Some m) (omega arith)

-- where there is none, none is found
pub close_none : (body : List ℕ) → ((before behind : List ℕ) → body ≡ before ++ codes "*/" ++ behind → ⊥) → close_of body ≡ None
close_none body none = by_case (close_of body) (close_found body)
  where
    by_case : (o : Option ℕ) → Closes body o → o ≡ None
    by_case None h = refl
    by_case (Some n) (found, after, same, count, least) = absurd (none found after same)
