-- The verifier accepts code in blocks.
use Rattle.std.proofs.Common.{◌≡◌, ℕ, zero, suc, ◌+◌, ◌-◌, ◌^◌, ◌<◌, ◌≤◌, inr, List, [], Some, false, length, slice_index, refl, sym, ap, subst, arith}
use Rattle.td_verify_lowered.specs.Imports.{Parts, Shape}
use Rattle.td_verify.specs.declared.shape.Shape.TheVariants as s
use Rattle.td_verify.specs.Shape.{shape}
use Rattle.td_ir.specs.Tables.{instruction_of, lengths_of}
use Rattle.td_verify.specs.Shape.{shapes_of}
use Rattle.td_verify.specs.declared.rule.Rule.{Rule}
use Rattle.td_verify.specs.declared.rule.Rule.TheVariants as r
use Rattle.td_verify.specs.Brackets.{shape_at, opened}
use Rattle.td_verify.specs.Ways.{MayBeEmpty}
use Rattle.td_ir.specs.Tables.{begin}
use Rattle.td_verify.specs.Rules.{CallsWell, weigh, deepest}
use Rattle.td_verify.specs.Verify.{IsIn, Keeps, depths, weights}
use Rattle.td_ir.proofs.Begins.{begin_next}
use Rattle.td_lower_blocks.specs.Block.{Block, size}
use Rattle.td_verify_lowered.specs.Nesting.{Outside, CallsBelow}
use Rattle.td_verify_lowered.proofs.Blocked.{IsFine, IsBlocked}
use Rattle.td_verify_lowered.proofs.Through.{through}
use Rattle.td_verify_lowered.proofs.Fine.{fine}
use Rattle.td_verify_lowered.proofs.Weighing.{weighs, w_at, deepest_less, pushed_depth}
use Rattle.td_verify.proofs.Sums.{shape_there}
use Rattle.td_verify.proofs.Safety.{weigh_up}
use Rattle.td_verify.proofs.Same.{length_depths}

ends_at : (c : Parts) (blocks : ℕ → Block) (depth : ℕ → ℕ) → IsBlocked c blocks depth → (n : ℕ) → n < length c.routines → begin (lengths_of c) n + size (blocks n) ≡ begin (lengths_of c) (suc n)
ends_at c blocks depth b n h = let e = begin_next c n in let z = b.sizes n h in omega (arith, e, z)

pub begins_open : (c : Parts) (blocks : ℕ → Block) (depth : ℕ → ℕ) → IsBlocked c blocks depth → (n : ℕ) → n ≤ length c.routines → opened (shapes_of c) (begin (lengths_of c) n) ≡ Some []
begins_open c blocks depth b zero h = refl
begins_open c blocks depth b (suc n) h =
    subst (λ x. opened (shapes_of c) x ≡ Some []) (ends_at c blocks depth b n (omega arith))
    (through c (λ m. MayBeEmpty (shapes_of c) (lengths_of c) n m) (blocks n) Outside false (begin (lengths_of c) n) 0 [] (b.stands n (omega arith)) (b.nests n (omega arith)) tt (begins_open c blocks depth b n (omega arith)))

pub all_fine : (c : Parts) (blocks : ℕ → Block) (depth : ℕ → ℕ) → IsBlocked c blocks depth → (n : ℕ) → n < length c.routines → (q : ℕ) → begin (lengths_of c) n ≤ q → q < begin (lengths_of c) (suc n) → IsFine c (λ m. MayBeEmpty (shapes_of c) (lengths_of c) n m) depth n (begin (lengths_of c) (suc n)) q
all_fine c blocks depth b n h q a z =
    let e = ends_at c blocks depth b n h in
    fine c (λ m. MayBeEmpty (shapes_of c) (lengths_of c) n m) depth n (begin (lengths_of c) (suc n)) (blocks n) Outside false (begin (lengths_of c) n) 0 []
    (b.stands n h) (b.nests n h) (b.fits n h) tt (begins_open c blocks depth b n (omega arith)) (inr (e, b.ends n h, refl)) (λ f. absurd (cc)) q a (omega (arith, z, e))

calls_there : (c : Parts) (depth : ℕ → ℕ) (n q : ℕ) → CallsBelow depth n (shape (instruction_of c q)) → CallsBelow depth n (shape_at (shapes_of c) q)
calls_there c depth n q h = subst (CallsBelow depth n) (sym (shape_there c q)) h

pub depths_less : (c : Parts) (blocks : ℕ → Block) (depth : ℕ → ℕ) → IsBlocked c blocks depth → (n : ℕ) → n ≤ length c.routines → (m : ℕ) → m < n → slice_index (depths (shapes_of c) (lengths_of c) n) m ≤ depth m
depths_less c blocks depth b zero h m l = absurd (omega arith)
depths_less c blocks depth b (suc n) h m l =
    let S = shapes_of c in
    let ls = lengths_of c in
    let before = depths_less c blocks depth b n (omega arith) in
    let len : begin ls n + slice_index ls n ≡ begin ls (suc n) = refl in
    let d = deepest_less S depth (depths S ls n) n (begin ls n) (b.some_depth n) before (slice_index ls n)
    (λ q x y. calls_there c depth n q ((all_fine c blocks depth b n (omega arith) q x y).fit.calls)) in
    pushed_depth (depths S ls n) (deepest S (depths S ls n) (begin ls n) (slice_index ls n) + 1) m n depth (length_depths S ls n) before d (omega arith)

calls_well : (depth : ℕ → ℕ) (ds : List ℕ) (n : ℕ) (j : Shape) → depth n ≤ 32 → ((m : ℕ) → m < n → slice_index ds m ≤ depth m) → CallsBelow depth n j → CallsWell ds n j
calls_well depth ds n (s.Call m) top h k = (k.0, (let a = h m k.0 in let e = k.1 in omega (arith, a, e, top)))
calls_well depth ds n (s.Straight b w) top h k = tt
calls_well depth ds n (s.Jump t) top h k = tt
calls_well depth ds n (s.Branch t) top h k = tt
calls_well depth ds n s.Return top h k = tt
calls_well depth ds n s.Fail top h k = tt
calls_well depth ds n (s.While t) top h k = tt
calls_well depth ds n (s.Again t) top h k = tt
calls_well depth ds n (s.Open x) top h k = tt
calls_well depth ds n s.Close top h k = tt

light_at : (c : Parts) (blocks : ℕ → Block) (depth : ℕ → ℕ) → IsBlocked c blocks depth → (n p : ℕ) → IsIn c n p → weigh (shapes_of c) (weights (shapes_of c) (lengths_of c) n) (begin (lengths_of c) n) (p + 1 - begin (lengths_of c) n) ≤ 2 ^ 40
light_at c blocks depth b n p i =
    let S = shapes_of c in
    let from = begin (lengths_of c) n in
    let ws = weights S (lengths_of c) n in
    let h = i.routine in
    let a = i.from in
    let z = i.to in
    let e = ends_at c blocks depth b n h in
    let whole = weighs c ws (λ m. MayBeEmpty S (lengths_of c) n m) from (blocks n) Outside false from 0 [] (omega arith) (b.stands n h) (b.nests n h) tt (begins_open c blocks depth b n (omega (arith, h))) in
    let start : w_at c ws from from ≡ 0 = (let y : from - from ≡ 0 = omega arith in ap (weigh S ws from) y) in
    let light = b.light n h in
    let up = weigh_up S ws from (p + 1 - from) (from + size (blocks n) - (p + 1)) in
    let k : (p + 1 - from) + (from + size (blocks n) - (p + 1)) ≡ from + size (blocks n) - from = omega (arith, a, z, e) in
    let up' : weigh S ws from (p + 1 - from) ≤ weigh S ws from (from + size (blocks n) - from) = subst (λ x. weigh S ws from (p + 1 - from) ≤ weigh S ws from x) k up in
    omega (arith, whole, start, light, up')

pub blocks_sound : (c : Parts) (blocks : ℕ → Block) (depth : ℕ → ℕ) → IsBlocked c blocks depth → (n p : ℕ) → IsIn c n p → (k : Rule) → Keeps c n p k
blocks_sound c blocks depth b n p i r.Target = (all_fine c blocks depth b n i.routine p i.from i.to).target
blocks_sound c blocks depth b n p i r.Register = (all_fine c blocks depth b n i.routine p i.from i.to).fit.registers
blocks_sound c blocks depth b n p i r.Depth =
    calls_well depth (depths (shapes_of c) (lengths_of c) n) n (shape_at (shapes_of c) p) (b.shallow n i.routine) (depths_less c blocks depth b n (let h = i.routine in omega (arith, h)))
    (calls_there c depth n p (all_fine c blocks depth b n i.routine p i.from i.to).fit.calls)
blocks_sound c blocks depth b n p i r.Loop = (all_fine c blocks depth b n i.routine p i.from i.to).nesting
blocks_sound c blocks depth b n p i r.Table = (all_fine c blocks depth b n i.routine p i.from i.to).fit.tables
blocks_sound c blocks depth b n p i r.Weight = light_at c blocks depth b n p i
blocks_sound c blocks depth b n p i r.Operand = (all_fine c blocks depth b n i.routine p i.from i.to).fit.operands
