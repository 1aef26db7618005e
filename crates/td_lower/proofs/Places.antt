-- Where the routines of a module begin, and what stands there. Cited by other crates.
use Rattle.std.proofs.Common.{◌≡◌, ℕ, zero, suc, ◌+◌, ◌-◌, ◌<◌, ◌≤◌, List, [], ◌∷◌, ◌++◌, length, slice_index_or, slice_get, Option, Some, None, refl, sym, ap, subst, ◌∙◌, arith, length-append, append_assoc, append-nil}
use Rattle.td_lower.specs.Imports.{TypeDef, Instr, Parts, Routine}
use Rattle.td_ir.specs.Tables.{no_routine, routine_of, lengths_of, begin, first_of}
use Rattle.td_ir.proofs.Begins.{length_there}
use Rattle.td_lower_blocks.specs.Block.{size, code, Stands, LayingOut}
use Rattle.td_lower_blocks.specs.Lowered.{definition_body, definition_block, block_of, first_site}
use Rattle.td_lower_blocks.specs.Constructs.{body}
use Rattle.td_lower_blocks.specs.Tops.{definition_levels}
use Rattle.td_lower_emit.specs.Emission.{Finishes}
use Rattle.td_lower_emit.proofs.Writing.{written}
use Rattle.td_lower.specs.Code.{unit_in, code_to, routine_for, routines_to}
use Rattle.td_lower_blocks.proofs.Laying.{code_size}

pub routines_count : (units : ℕ → ℕ) (ds : List TypeDef) (n : ℕ) → length (routines_to units ds n) ≡ n
routines_count units ds zero = refl
routines_count units ds (suc n) =
    let h = routines_count units ds n in
    let a = length-append (routines_to units ds n) (routine_for (size (block_of units ds n)) (slice_get ds n) ∷ []) in
    omega (arith, h, a)

at_end : (xs : List Routine) (x : Routine) (n : ℕ) → length xs ≡ n → slice_index_or (xs ++ x ∷ []) n no_routine ≡ x
at_end [] x n h = (let e : 0 ≡ n = h in subst (λ m. slice_index_or (x ∷ []) m no_routine ≡ x) e refl)
at_end (y ∷ ys) x zero h = absurd (omega (arith, h))
at_end (y ∷ ys) x (suc n) h = at_end ys x n (omega (arith, h))

before_end : (xs : List Routine) (x : Routine) (k : ℕ) → k < length xs → slice_index_or (xs ++ x ∷ []) k no_routine ≡ slice_index_or xs k no_routine
before_end [] x k h = absurd (omega (arith, h))
before_end (y ∷ ys) x zero h = refl
before_end (y ∷ ys) x (suc k) h = before_end ys x k (omega (arith, h))

up_to : (units : ℕ → ℕ) (ds : List TypeDef) (k d : ℕ) → slice_index_or (routines_to units ds (suc k + d)) k no_routine ≡ routine_for (size (block_of units ds k)) (slice_get ds k)
up_to units ds k zero =
    let e : suc k + 0 ≡ suc k = omega arith in
    ap (λ n. slice_index_or (routines_to units ds n) k no_routine) e
    ∙ at_end (routines_to units ds k) (routine_for (size (block_of units ds k)) (slice_get ds k)) k (routines_count units ds k)
up_to units ds k (suc d) =
    let e : suc k + suc d ≡ suc (suc k + d) = omega arith in
    let l = routines_count units ds (suc k + d) in
    ap (λ n. slice_index_or (routines_to units ds n) k no_routine) e
    ∙ (before_end (routines_to units ds (suc k + d)) (routine_for (size (block_of units ds (suc k + d))) (slice_get ds (suc k + d))) k (omega (arith, l)) ∙ up_to units ds k d)

pub routine_at : (units : ℕ → ℕ) (ds : List TypeDef) (n k : ℕ) → k < n → slice_index_or (routines_to units ds n) k no_routine ≡ routine_for (size (block_of units ds k)) (slice_get ds k)
routine_at units ds n k h =
    let e : n ≡ suc k + (n - suc k) = omega arith in
    ap (λ m. slice_index_or (routines_to units ds m) k no_routine) e ∙ up_to units ds k (n - suc k)

length_for : (count : ℕ) (o : Option TypeDef) → (routine_for count o).length ≡ count
length_for count None = refl
length_for count (Some d) = refl

code_to_next : (units : ℕ → ℕ) (ds : List TypeDef) (n : ℕ) → length (code_to units ds (suc n)) ≡ length (code_to units ds n) + size (block_of units ds n)
code_to_next units ds n =
    let a = length-append (code_to units ds n) (code (length (code_to units ds n)) 0 (block_of units ds n)) in
    let b = code_size (length (code_to units ds n)) 0 (block_of units ds n) in
    omega (arith, a, b)

module _ (c : Parts) (units : ℕ → ℕ) (ds : List TypeDef) (routines : c.routines ≡ routines_to units ds (length ds)) (instructions : c.instructions ≡ code_to units ds (length ds)) where
  pub routine_is : (n : ℕ) → n < length ds → routine_of c n ≡ routine_for (size (block_of units ds n)) (slice_get ds n)
  routine_is n h = ap (λ x. slice_index_or x n no_routine) routines ∙ routine_at units ds (length ds) n h

  pub length_is : (n : ℕ) → n < length ds → (routine_of c n).length ≡ size (block_of units ds n)
  length_is n h = ap (λ r. r.length) (routine_is n h) ∙ length_for (size (block_of units ds n)) (slice_get ds n)

  pub begins : (n : ℕ) → n ≤ length ds → begin (lengths_of c) n ≡ length (code_to units ds n)
  begins zero h = refl
  begins (suc n) h =
      let x = begins n (omega arith) in
      let y = length_there c n in
      let z = length_is n (omega arith) in
      let w = code_to_next units ds n in
      omega (arith, x, y, z, w)

  -- what follows the first n definitions
  rest : (n d : ℕ) → (after : List Instr) × (code_to units ds (n + d) ≡ code_to units ds n ++ after)
  rest n zero = (let e : n + 0 ≡ n = omega arith in ([], ap (code_to units ds) e ∙ sym (append-nil (code_to units ds n))))
  rest n (suc d) =
      let e : n + suc d ≡ suc (n + d) = omega arith in
      let r = rest n d in
      let last = code (length (code_to units ds (n + d))) 0 (block_of units ds (n + d)) in
      (r.0 ++ last, ap (code_to units ds) e ∙ (ap (λ x. x ++ last) r.1 ∙ append_assoc (code_to units ds n) r.0 last))

  pub stands_at : LayingOut → (n : ℕ) → n < length ds → Stands c (first_of c n) 0 (block_of units ds n)
  stands_at law n h =
      let e : suc n + (length ds - suc n) ≡ length ds = omega arith in
      let r = rest (suc n) (length ds - suc n) in
      let before = code_to units ds n in
      let own = code (length before) 0 (block_of units ds n) in
      let all : c.instructions ≡ before ++ (own ++ r.0) = instructions ∙ (ap (code_to units ds) (sym e) ∙ (r.1 ∙ append_assoc before own r.0)) in
      subst (λ p. Stands c p 0 (block_of units ds n)) (sym (begins n (omega arith))) (law c (block_of units ds n) 0 before r.0 all)

-- one definition more, as it is written
pub next_code : (ds : List TypeDef) (n : ℕ) (d : TypeDef) (old new : List Instr) (first : ℕ) → slice_get ds n ≡ Some d → first ≡ first_site ds n → old ≡ code_to (λ k. unit_in (slice_get ds k)) ds n
    → Finishes 0 old new (body (definition_body first (definition_levels d) d)) → new ≡ code_to (λ k. unit_in (slice_get ds k)) ds (n + 1)
next_code ds n d old new first e f o w =
    let U = λ (k : ℕ). unit_in (slice_get ds k) in
    let m = body (definition_body first (definition_levels d) d) in
    let block : m ≡ block_of U ds n = ap (λ k. body (definition_body k (definition_levels d) d)) f ∙ sym (ap (λ q. definition_block (first_site ds n) (unit_in q) q) e) in
    let next : suc n ≡ n + 1 = omega arith in
    written old new 0 m w
    ∙ (ap (λ x. x ++ code (length x) 0 m) o
    ∙ (ap (λ b. code_to U ds n ++ code (length (code_to U ds n)) 0 b) block ∙ ap (code_to U ds) next))

pub next_routine : (ds : List TypeDef) (n : ℕ) (d : TypeDef) (old new : List Routine) (first : ℕ) → slice_get ds n ≡ Some d → first ≡ first_site ds n → old ≡ routines_to (λ k. unit_in (slice_get ds k)) ds n
    → new ≡ old ++ routine_for (size (body (definition_body first (definition_levels d) d))) (Some d) ∷ [] → new ≡ routines_to (λ k. unit_in (slice_get ds k)) ds (n + 1)
next_routine ds n d old new first e f o w =
    let U = λ (k : ℕ). unit_in (slice_get ds k) in
    let m = body (definition_body first (definition_levels d) d) in
    let block : m ≡ block_of U ds n = ap (λ k. body (definition_body k (definition_levels d) d)) f ∙ sym (ap (λ q. definition_block (first_site ds n) (unit_in q) q) e) in
    let next : suc n ≡ n + 1 = omega arith in
    w
    ∙ (ap (λ x. x ++ routine_for (size m) (Some d) ∷ []) o
    ∙ (ap (λ b. routines_to U ds n ++ routine_for (size b) (Some d) ∷ []) block
    ∙ (ap (λ q. routines_to U ds n ++ routine_for (size (block_of U ds n)) q ∷ []) (sym e) ∙ ap (routines_to U ds) next)))

pub found : {A : Type 0} (xs : List A) (n : ℕ) (x : A) → n < length xs → x ≡ slice_index_or xs n x → slice_get xs n ≡ Some x
found [] n x h e = absurd (omega (arith, h))
found (y ∷ ys) zero x h e = ap Some (sym e)
found (y ∷ ys) (suc n) x h e = found ys n x (omega (arith, h)) e
