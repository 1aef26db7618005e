-- The room of calls, and an instruction as the machine asks for it.
use Rattle.std.proofs.Common.{◌≡◌, ℕ, zero, suc, ◌+◌, ◌-◌, ◌<◌, ◌≤◌, Bool, true, false, cond, List, ⊎_elim, sym, refl, ap, ◌∙◌, subst, arith}
use Rattle.std.specs.Prelude.{slice_index, nat_eq}
use Rattle.std.proofs.lemmas.Bool.{cases_lt, eqb-true}
use Rattle.td_num.proofs.Equals.{below_other}
use Rattle.td_vm.specs.Imports.{Parts, Instr, Shape, Call}
use Rattle.td_ir.specs.Tables.{instruction_of, lengths_of, begin}
use Rattle.td_ir.proofs.Begins.{begin_next}
use Rattle.td_verify.specs.Shape.{shapes_of}
use Rattle.td_verify.specs.Brackets.{shape_at}
use Rattle.td_verify.specs.Verify.{IsIn}
use Rattle.td_verify.specs.Safe.{IsSafe}
use Rattle.td_vm_step.specs.Stepping.{IsFine}
use Rattle.td_vm.specs.Need.{called, greatest, need, room_below, registers}

pub own_need : (f : ℕ → ℕ) (c : Parts) (n m : ℕ) → m < n → need f (shapes_of c) (lengths_of c) n m ≡ f m + room_below f c m
own_need f c zero m h = absurd (omega arith)
own_need f c (suc n) m h = test (λ l. own_need f c n m l) (nat_eq m n) refl
  where
    test : (m < n → need f (shapes_of c) (lengths_of c) n m ≡ f m + room_below f c m) → (v : Bool) → nat_eq m n ≡ v → cond v (f n + greatest (shapes_of c) (need f (shapes_of c) (lengths_of c) n) (begin (lengths_of c) n) (slice_index (lengths_of c) n)) (need f (shapes_of c) (lengths_of c) n m) ≡ f m + room_below f c m
    test rest true e = ap (λ k. f k + room_below f c k) (sym (eqb-true m n e))
    test rest false e = rest (below_other m n h e)

greatest_in : (s : List Shape) (f : ℕ → ℕ) (from n k : ℕ) → k < n → called f (shape_at s (from + k)) ≤ greatest s f from n
greatest_in s f from zero k h = absurd (omega arith)
greatest_in s f from (suc n) k h = ⊎_elim
    (λ l. let a = greatest_in s f from n k l in omega (arith, a))
    (λ l. let e : k ≡ n = omega (arith, h, l) in let a = ap (λ x. called f (shape_at s (from + x))) e in omega (arith, a))
    (cases_lt k n)

-- the room of a callee
pub callee_need : (f : ℕ → ℕ) (c : Parts) (n p m : ℕ) → IsIn c n p → shape_at (shapes_of c) p ≡ Call m → m < n → f m + room_below f c m ≤ room_below f c n
callee_need f c n p m i e l =
    let from = begin (lengths_of c) n in
    let F = need f (shapes_of c) (lengths_of c) n in
    let b = begin_next c n in
    let at : from + (p - from) ≡ p = omega (arith, i.from) in
    let a = greatest_in (shapes_of c) F from (slice_index (lengths_of c) n) (p - from) (omega (arith, i.from, i.to)) in
    let is : called F (shape_at (shapes_of c) (from + (p - from))) ≡ f m + room_below f c m = ap (λ x. called F (shape_at (shapes_of c) x)) at ∙ ap (called F) e ∙ own_need f c n m l in
    omega (arith, a, is)

-- an instruction as the machine asks for it
pub fine_at : (c : Parts) (n p R : ℕ) (i : Instr) → IsSafe c → IsIn c n p → i ≡ instruction_of c p → R ≡ registers c n → IsFine c n R i
fine_at c n p R i s h e r =
    let a = s.each n p h in
    let base : IsFine c n (registers c n) (instruction_of c p) = record { registers_in = a.registers; tables_in = a.tables; operands_in = a.operands } in
    subst (λ x. IsFine c n x i) (sym r) (subst (IsFine c n (registers c n)) (sym e) base)
