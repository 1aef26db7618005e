-- Bytes that are copied, and what buffers hold.
use Rattle.std.proofs.Common.{◌≡◌, ℕ, zero, suc, Bool, true, false, min, ◌+◌, ◌*◌, ◌/◌, ◌-◌, ◌<◌, ◌≤◌, List, [], ◌∷◌, ◌++◌, length, take, drop, map, refl, sym, ap, ◌∙◌, arith, slice_index, replicate, append_assoc}
use Rattle.std.specs.Prelude.{Result, Ok, Err, IfOk, nat_le}
use Rattle.std.proofs.lemmas.Bool.{leb-true, leb-false}
use Rattle.std.proofs.lemmas.List.{drop_more, drop_all, take_all, map-append, length-drop}
use Rattle.td_num.specs.Numbers.{places_from}
use Rattle.td_core.specs.Outcome.{bytes_at, copies_by}
use Rattle.td_core.specs.declared.outcome.Verdict.{Verdict}
use Rattle.td_core.specs.declared.outcome.Verdict.TheVariants.{Accept, Reject}
use Rattle.td_core.specs.declared.outcome.TraceFrame.{TraceFrame}
use Rattle.td_core.specs.declared.outcome.Outcome.{Outcome}
use Rattle.td_core.specs.Outcome.{outcome_of}
use Rattle.td_meaning.specs.Verdicts.{ending_of}
use Rattle.td_meaning.proofs.Steps.{places_more}

pub bytes_more : (b : List ℕ) (p k v : ℕ) (bytes : List ℕ) → bytes ≡ bytes_at b (places_from p k) → v ≡ slice_index b (p + k) → bytes ++ v ∷ [] ≡ bytes_at b (places_from p (k + 1))
bytes_more b p k v bytes h e =
    (λ i. h i ++ e i ∷ []) ∙ sym (ap (map (slice_index b)) (places_more p k) ∙ map-append (slice_index b) (places_from p k) ((p + k) ∷ []))

-- two cells further
pub copies_next : (b cells : List ℕ) (k : ℕ) → k < length cells / 2 → copies_by b (drop (2 * k) cells) ≡ bytes_at b (places_from (slice_index cells (2 * k)) (slice_index cells (2 * k + 1))) ∷ copies_by b (drop (2 * (k + 1)) cells)
copies_next b cells k lt =
    let one : 2 * k < length cells = omega (arith, lt) in
    let two : 2 * k + 1 < length cells = omega (arith, lt) in
    let next : 2 * k + 1 + 1 ≡ 2 * (k + 1) = omega arith in
    ap (copies_by b) (drop_more cells (2 * k) 0 one ∙ ap (λ xs. slice_index cells (2 * k) ∷ xs) (drop_more cells (2 * k + 1) 0 two))
    ∙ ap (λ n. bytes_at b (places_from (slice_index cells (2 * k)) (slice_index cells (2 * k + 1))) ∷ copies_by b (drop n cells)) next

-- one cell more is none
copies_few : (b xs : List ℕ) → length xs ≤ 1 → copies_by b xs ≡ []
copies_few b [] h = refl
copies_few b (x ∷ []) h = refl
copies_few b (x ∷ y ∷ xs) h = absurd (omega (arith, h))

pub copies_end : (b cells : List ℕ) (k : ℕ) → length cells / 2 ≤ k → copies_by b (drop (2 * k) cells) ≡ []
copies_end b cells k le = copies_few b (drop (2 * k) cells) (let e : length (drop (2 * k) cells) ≡ length cells - 2 * k = length-drop (2 * k) cells in omega (arith, e, le))

-- the outcome of a verdict, with the cells and the copies told apart
pub outcome_by : (n : ℕ) (b : List ℕ) (v : Verdict) (trace : List TraceFrame) (all : List ℕ) → ((q : ℕ) → v ≡ Accept q → trace ≡ [])
    → ◌≡◌ {A = Outcome} (record { verdict = v; trace = trace; cells = take n all; copies = copies_by b (drop n all) }) (outcome_of n b (ending_of v trace all))
outcome_by n b (Accept q) trace all h = ap (λ tr. record { verdict = Accept q; trace = tr; cells = take n all; copies = copies_by b (drop n all) }) (h q refl)
outcome_by n b (Reject reason q) trace all h = refl

abbrev zeros : ℕ → List ℕ
zeros n = replicate n 0

zeros_more : (n : ℕ) → zeros (n + 1) ≡ zeros n ++ 0 ∷ []
zeros_more zero = refl
zeros_more (suc n) = let e : suc n + 1 ≡ suc (n + 1) = omega arith in ap zeros e ∙ ap (λ xs. 0 ∷ xs) (zeros_more n)

-- the two cells of one buffer more
pub two_more : (cells all : List ℕ) (k : ℕ) → all ≡ cells ++ replicate (2 * k) 0 → (all ++ 0 ∷ []) ++ 0 ∷ [] ≡ cells ++ replicate (2 * (k + 1)) 0
two_more cells all k h =
    let n : 2 * (k + 1) ≡ 2 * k + 1 + 1 = omega arith in
    ap (λ xs. (xs ++ 0 ∷ []) ++ 0 ∷ []) h
    ∙ append_assoc (cells ++ zeros (2 * k)) (0 ∷ []) (0 ∷ [])
    ∙ append_assoc cells (zeros (2 * k)) (0 ∷ 0 ∷ [])
    ∙ ap (λ xs. cells ++ xs) (sym (append_assoc (zeros (2 * k)) (0 ∷ []) (0 ∷ [])) ∙ sym (ap zeros n ∙ zeros_more (2 * k + 1) ∙ ap (λ xs. xs ++ 0 ∷ []) (zeros_more (2 * k))))

-- no more of a list than there is
pub take_least : (n k : ℕ) (xs : List ℕ) → k ≡ min n (length xs) → take k xs ≡ take n xs
take_least n k xs e = by (nat_le n (length xs)) refl
  where
    by : (v : Bool) → nat_le n (length xs) ≡ v → take k xs ≡ take n xs
    by true h = let few = leb-true n (length xs) h in let same : k ≡ n = omega (arith, e, few) in ap (λ m. take m xs) same
    by false h = let many = leb-false n (length xs) h in take_all k xs (omega (arith, e, many)) ∙ sym (take_all n xs (omega (arith, many)))

pub drop_least : (n k : ℕ) (xs : List ℕ) → k ≡ min n (length xs) → drop k xs ≡ drop n xs
drop_least n k xs e = by (nat_le n (length xs)) refl
  where
    by : (v : Bool) → nat_le n (length xs) ≡ v → drop k xs ≡ drop n xs
    by true h = let few = leb-true n (length xs) h in let same : k ≡ n = omega (arith, e, few) in ap (λ m. drop m xs) same
    by false h = let many = leb-false n (length xs) h in drop_all k xs (omega (arith, e, many)) ∙ sym (drop_all n xs (omega (arith, many)))

pub if_ok_map : {A E : Type 0} (r : Result A E) (P Q : A → Type 0) → IfOk r P → ((x : A) → P x → Q x) → IfOk r Q
if_ok_map (Ok x) P Q h k = k x h
if_ok_map (Err e) P Q h k = tt
