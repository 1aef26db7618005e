-- The room of chains of calls, by a table of the routines.
use Rattle.std.proofs.Common.{◌≡◌, ℕ, zero, suc, ◌+◌, ◌-◌, ◌*◌, ◌<◌, ◌≤◌, max, Bool, true, false, cond, List, [], ◌∷◌, ◌++◌, length, map, slice_index, ⊎_elim, sym, refl, ap, ◌∙◌, subst, arith, take}
use Rattle.std.specs.Prelude.{nat_eq}
use Rattle.std.proofs.lemmas.Bool.{cases_lt, eqb-true}
use Rattle.td_num.proofs.Equals.{below_other}
use Rattle.std.proofs.Math.ListN.{get_or-append}
use Rattle.std.proofs.Math.Seq.{get_or-append_seam}
use Rattle.td_ir.specs.declared.tables.Parts.{Parts}
use Rattle.td_ir.specs.Tables.{routine_of, entry_of, lengths_of, begin, first_of, end_of as end_at}
use Rattle.td_ir.proofs.Begins.{begin_up, begin_next}
use Rattle.td_verify.specs.declared.shape.Shape.{Shape}
use Rattle.td_verify.specs.declared.shape.Shape.TheVariants.{Straight, Jump, Branch, Call, Return, Fail, While, Again, Open, Close}
use Rattle.td_verify.specs.Shape.{shapes_of}
use Rattle.td_verify.specs.Brackets.{shape_at}
use Rattle.td_verify.specs.Rules.{CallsWell}
use Rattle.td_verify.specs.Verify.{IsIn, depths}
use Rattle.td_vm.specs.Need.{called, greatest, need, room_below, most}
use Rattle.td_verify_runs.specs.Stretches.{IsRunnable}

-- the need of a routine among others
pub own_need : (f : ℕ → ℕ) (c : Parts) (n m : ℕ) → m < n → need f (shapes_of c) (lengths_of c) n m ≡ f m + room_below f c m
own_need f c zero m h = absurd (omega arith)
own_need f c (suc n) m h = test (λ l. own_need f c n m l) (nat_eq m n) refl
  where
    test : (m < n → need f (shapes_of c) (lengths_of c) n m ≡ f m + room_below f c m) → (v : Bool) → nat_eq m n ≡ v → cond v (f n + greatest (shapes_of c) (need f (shapes_of c) (lengths_of c) n) (begin (lengths_of c) n) (slice_index (lengths_of c) n)) (need f (shapes_of c) (lengths_of c) n m) ≡ f m + room_below f c m
    test rest true e = ap (λ k. f k + room_below f c k) (sym (eqb-true m n e))
    test rest false e = rest (below_other m n h e)

-- where a routine ends
pub end_is : (c : Parts) (m : ℕ) → end_at c m ≡ first_of c m + (routine_of c m).length
end_is c m = begin_next c m

pub end_in : (c : Parts) (m : ℕ) → IsRunnable c → m < length c.routines → end_at c m ≤ length c.instructions
end_in c m r l = let a = begin_up (lengths_of c) (suc m) (length c.routines) (omega (arith, l)) in let w = r.code.whole in omega (arith, a, w)

greatest_same : (s : List Shape) (f g : ℕ → ℕ) (from n : ℕ) → ((k : ℕ) → k < n → called f (shape_at s (from + k)) ≡ called g (shape_at s (from + k))) → greatest s f from n ≡ greatest s g from n
greatest_same s f g from zero h = refl
greatest_same s f g from (suc n) h =
    ap (λ x. max x (called f (shape_at s (from + n)))) (greatest_same s f g from n (λ k l. h k (omega (arith, l)))) ∙ ap (max (greatest s g from n)) (h n (omega arith))

called_same : (f g : ℕ → ℕ) (n : ℕ) (ds : List ℕ) (j : Shape) → ((m : ℕ) → m < n → f m ≡ g m) → CallsWell ds n j → called f j ≡ called g j
called_same f g n ds (Call m) h w = h m w.0
called_same f g n ds (Straight b w') h w = refl
called_same f g n ds (Jump t) h w = refl
called_same f g n ds (Branch t) h w = refl
called_same f g n ds Return h w = refl
called_same f g n ds Fail h w = refl
called_same f g n ds (While t) h w = refl
called_same f g n ds (Again t) h w = refl
called_same f g n ds (Open k) h w = refl
called_same f g n ds Close h w = refl

-- by a table of the routines so far
pub room_told : (f : ℕ → ℕ) (c : Parts) (n from to : ℕ) (needs : List ℕ) → IsRunnable c → n < length c.routines → ((m : ℕ) → m < n → slice_index needs m ≡ f m + room_below f c m) → from ≡ first_of c n → to ≡ end_at c n → greatest (shapes_of c) (λ m. slice_index needs m) from (to - from) ≡ room_below f c n
room_told f c n from to needs r l h e d =
    let S = shapes_of c in
    let F = need f S (lengths_of c) n in
    let count : to - from ≡ slice_index (lengths_of c) n = omega (arith, e, d) in
    ap (λ x. greatest S (λ m. slice_index needs m) x (to - from)) e
    ∙ ap (greatest S (λ m. slice_index needs m) (begin (lengths_of c) n)) count
    ∙ greatest_same S (λ m. slice_index needs m) F (begin (lengths_of c) n) (slice_index (lengths_of c) n) (λ k q.
    let i : IsIn c n (begin (lengths_of c) n + k) = record { routine = l; from = omega arith; to = omega (arith, q) } in
    called_same (λ m. slice_index needs m) F n (depths S (lengths_of c) n) (shape_at S (begin (lengths_of c) n + k)) (λ m z. h m z ∙ sym (own_need f c n m z)) (r.safe.each n (begin (lengths_of c) n + k) i).calls)

-- a table with one more entry
pub told_more : (F : ℕ → ℕ) (xs : List ℕ) (n x : ℕ) → length xs ≡ n → ((m : ℕ) → m < n → slice_index xs m ≡ F m) → x ≡ F n → (m : ℕ) → m < n + 1 → slice_index (xs ++ x ∷ []) m ≡ F m
told_more F xs n x e h k m l = ⊎_elim
    (λ (q : m < n). get_or-append xs (x ∷ []) 0 m (omega (arith, q, e)) ∙ h m q)
    (λ q. let z : m ≡ n = omega (arith, l, q) in ap (slice_index (xs ++ x ∷ [])) (z ∙ sym e) ∙ get_or-append_seam xs x [] 0 ∙ k ∙ ap F (sym z))
    (cases_lt m n)

nothing_past : (xs : List ℕ) (m : ℕ) → length xs ≤ m → slice_index xs m ≡ 0
nothing_past [] m h = refl
nothing_past (x ∷ xs) zero h = absurd (omega arith)
nothing_past (x ∷ xs) (suc m) h = nothing_past xs m (omega (arith, h))

-- entries of a table of needs are small, those that it hasn't too
pub told_small : (xs : List ℕ) (n bound : ℕ) → length xs ≡ n → ((m : ℕ) → m < n → slice_index xs m ≤ 196605 * (m + 1)) → (m : ℕ) → (m < n → 196605 * (m + 1) ≤ bound) → slice_index xs m ≤ bound
told_small xs n bound e h m l = ⊎_elim
    (λ (q : m < n). let a = h m q in let b = l q in omega (arith, a, b))
    (λ q. let a = nothing_past xs m (omega (arith, q, e)) in omega (arith, a))
    (cases_lt m n)

pub small_more : (xs : List ℕ) (n x : ℕ) → length xs ≡ n → ((m : ℕ) → m < n → slice_index xs m ≤ 196605 * (m + 1)) → x ≤ 196605 * (n + 1) → (m : ℕ) → m < n + 1 → slice_index (xs ++ x ∷ []) m ≤ 196605 * (m + 1)
small_more xs n x e h k m l = ⊎_elim
    (λ (q : m < n). let a = get_or-append xs (x ∷ []) 0 m (omega (arith, q, e)) in let b = h m q in omega (arith, a, b))
    (λ q.
    let z : m ≡ n = omega (arith, l, q) in
    let a : slice_index (xs ++ x ∷ []) m ≡ x = ap (slice_index (xs ++ x ∷ [])) (z ∙ sym e) ∙ get_or-append_seam xs x [] 0 in
    omega (arith, a, k, z))
    (cases_lt m n)
