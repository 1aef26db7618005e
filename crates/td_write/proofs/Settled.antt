-- What was said of an end, looked at where it is known.
use Rattle.std.proofs.Common.{◌≡◌, ◌&&◌, ℕ, zero, suc, ◌+◌, ◌-◌, ◌≤◌, Bool, true, false, List, [], ◌∷◌, ◌++◌, length, map, take, drop, length-drop, refl, sym, ap, ◌∙◌, subst}
use Rattle.std.specs.Prelude.{Result, Ok, Err, IfOk, IfErr}
use Rattle.std.proofs.Math.Seq.{take-append_seam, take-length}
use Rattle.std.proofs.lemmas.List.{length-map}
use Rattle.td_write_values.specs.declared.limits.TheConstants.{MOST_WRITTEN}
use Rattle.td_write_values.specs.Writing.{Claim, Written, Done, of_size, agreed, settled, of_enum}
use Rattle.td_write.specs.declared.walk.Claim.{Claim as Noted}
use Rattle.td_write.specs.declared.halt.Halt.{Halt}
use Rattle.td_write.specs.declared.halt.Halt.TheVariants as halt
use Rattle.td_write.specs.Writes.{Wrote, Halts, claims_of}
use Rattle.td_write.proofs.Totals.{done_parts, sized_total, settled_total, settled_stops}

-- Results, and tests

pub all_ok : {T E A B C D : Type 0} (r : Result T E) → IfOk r (λ x. A) → IfOk r (λ x. B) → IfOk r (λ x. C) → (A → B → C → D) → IfOk r (λ x. D)
all_ok (Ok x) a b c f = f a b c
all_ok (Err e) a b c f = tt

pub err_map : {T E : Type 0} (r : Result T E) (P Q : E → Type 0) → IfErr r P → ((e : E) → P e → Q e) → IfErr r Q
err_map (Ok x) P Q h f = tt
err_map (Err e) P Q h f = f e h

pub both_true : (a b : Bool) → a ≡ true → b ≡ true → a && b ≡ true
both_true a b e f = λ k. e k && f k

-- Claims

-- as many as were noted
pub count_of : (noted : List Noted) → length (claims_of noted) ≡ length noted
count_of noted = length-map noted (λ c. record { end = c.place + c.left; path = c.path.items })

-- the size was right
pub sized_wrote : (w : Written) (old new path at after cells : List ℕ) (before claims : List Claim) (test : ℕ → Bool) → Wrote w old new path after cells before claims → test (length new - length old) ≡ true
    → Wrote (of_size test at w) old new path after cells before claims
sized_wrote w old new path at after cells before claims test h t = record { total = sized_total old new cells at before claims test w h.total t; room = h.room; back = h.back }

-- all of it holds, and is forgotten
pub settled_wrote : (w : Written) (old new last path after back cells : List ℕ) (before claims rest : List Claim) (first : ℕ) → Wrote w old new path after cells before claims → first ≡ length before
    → ((next : Written) → agreed (length new) (drop first claims) next ≡ next) → last ≡ new → rest ≡ take first claims → back ≡ after
    → Wrote (settled (length old) w) old last path back cells before rest
settled_wrote w old new last path after back cells before claims rest first h at holds same left way =
    let d = done_parts old new cells before claims w h.total in
    let kept : rest ≡ before = left ∙ (λ i. take (at i) (d.4 i)) ∙ take-append_seam before d.1 in
    let said : (next : Written) → agreed (length new) (drop (length before) claims) next ≡ next = subst (λ n. (next : Written) → agreed (length new) (drop n claims) next ≡ next) at holds in
    record {
      total = settled_total old new cells before claims w h.total said ∙ (λ i. Done (sym same i) cells (sym kept i));
      room = subst (λ (x : List ℕ). length x ≤ MOST_WRITTEN) (sym same) h.room;
      back = way ∙ h.back;
    }

-- one doesn't hold
pub settled_wrong : (h : Halt) (at : List ℕ) (w : Written) (old new path after cells : List ℕ) (before claims : List Claim) (first : ℕ) → Wrote w old new path after cells before claims → first ≡ length before
    → ((next : Written) → Halts h at (agreed (length new) (drop first claims) next)) → Halts h at (settled (length old) w)
settled_wrong h at w old new path after cells before claims first wrote is stops =
    settled_stops h at old new cells before claims w wrote.total (subst (λ n. (next : Written) → Halts h at (agreed (length new) (drop n claims) next)) is stops)

pub listed_halts : (h : Halt) (at path : List ℕ) (listed : Bool) (w : Written) → Halts h at w → Halts h at (of_enum listed path w)
listed_halts (halt.Broken rule) at path true w e = e
listed_halts (halt.Broken rule) at path false w e = ap (of_enum false path) e
listed_halts halt.NoMemory at path listed w e = tt

-- of those that are left, and of those that are kept
pub claims_left : (n : ℕ) (noted : List Noted) → claims_of (drop n noted) ≡ drop n (claims_of noted)
claims_left zero [] = refl
claims_left zero (c ∷ cs) = refl
claims_left (suc n) [] = refl
claims_left (suc n) (c ∷ cs) = claims_left n cs

pub left_of : (first : ℕ) (xs noted : List Noted) → xs ≡ noted → take (length xs - first) (drop first xs) ≡ drop first noted
left_of first xs noted e = ap (λ n. take n (drop first xs)) (sym (length-drop first xs)) ∙ take-length (drop first xs) ∙ ap (drop first) e

pub claims_kept : (n : ℕ) (noted : List Noted) → claims_of (take n noted) ≡ take n (claims_of noted)
claims_kept zero [] = refl
claims_kept zero (c ∷ cs) = refl
claims_kept (suc n) [] = refl
claims_kept (suc n) (c ∷ cs) = ap (λ rest. record { end = c.place + c.left; path = c.path.items } ∷ rest) (claims_kept n cs)
