-- The verifier accepts lowered code.
use Rattle.std.proofs.Common.{◌≡◌, ℕ, zero, suc, ◌+◌, ◌-◌, ◌<◌, ◌≤◌, [], ◌∷◌, Some, Bool, false, length, slice_index, length-append, refl, sym, ap, subst, arith}
use Rattle.td_verify_lowered.specs.Imports.{Parts}
use Rattle.td_ir.specs.Tables.{lengths_of, end_of}
use Rattle.td_verify.specs.Shape.{shapes_of}
use Rattle.td_verify.specs.Brackets.{opened}
use Rattle.td_ir.specs.Tables.{begin}
use Rattle.td_verify.specs.Rules.{weigh}
use Rattle.td_verify.specs.Safe.{before}
use Rattle.td_verify.specs.Verify.{IsSound, weights}
use Rattle.td_ir.proofs.Begins.{begin_next, length_there}
use Rattle.td_verify_lowered.specs.Nesting.{Outside}
use Rattle.td_lower_blocks.specs.Block.{size}
use Rattle.td_lower_blocks.specs.Constructs.{Body, body}
use Rattle.td_lower_blocks.proofs.Ending.{ends_body}
use Rattle.td_verify_lowered.specs.Laws.{AreBlocks, IsLowered, NotBusy}
use Rattle.td_verify_lowered.proofs.Through.{through}
use Rattle.td_verify_lowered.proofs.Weighing.{weighs, w_at, pushed_depth}
use Rattle.td_verify_lowered.proofs.Empties.{laid_sound}
use Rattle.td_verify_lowered.proofs.Stepping.{nests_body, fits_body, busy_body, weight_body}

opens : (c : Parts) (bodies : ℕ → Body) (depth W least : ℕ → ℕ) (busy : ℕ → Bool) → IsLowered c bodies depth W least busy → (n : ℕ) → n ≤ length c.routines → opened (shapes_of c) (begin (lengths_of c) n) ≡ Some []
opens c bodies depth W least busy b zero h = refl
opens c bodies depth W least busy b (suc n) h =
    let e = begin_next c n in
    let z = b.sizes n (omega arith) in
    let end : begin (lengths_of c) n + size (body (bodies n)) ≡ begin (lengths_of c) (suc n) = omega (arith, e, z) in
    subst (λ x. opened (shapes_of c) x ≡ Some []) end
    (through c (NotBusy busy n) (body (bodies n)) Outside false (begin (lengths_of c) n) 0 [] (b.stands n (omega arith)) (nests_body c depth busy n (bodies n) (b.good n (omega arith))) tt (opens c bodies depth W least busy b n (omega arith)))

length_weights : (c : Parts) (n : ℕ) → length (weights (shapes_of c) (lengths_of c) n) ≡ n
length_weights c zero = refl
length_weights c (suc n) = let h = length_weights c n in let a = length-append (weights (shapes_of c) (lengths_of c) n) (weigh (shapes_of c) (weights (shapes_of c) (lengths_of c) n) (begin (lengths_of c) n) (slice_index (lengths_of c) n) ∷ []) in omega (arith, h, a)

-- a routine weighs no more than its definition
weights_less : (c : Parts) (bodies : ℕ → Body) (depth W least : ℕ → ℕ) (busy : ℕ → Bool) → IsLowered c bodies depth W least busy → (n : ℕ) → n ≤ length c.routines → (m : ℕ) → m < n → slice_index (weights (shapes_of c) (lengths_of c) n) m ≤ W m
weights_less c bodies depth W least busy b zero h m l = absurd (omega arith)
weights_less c bodies depth W least busy b (suc n) h m l =
    let ws = weights (shapes_of c) (lengths_of c) n in
    let from = begin (lengths_of c) n in
    let before = weights_less c bodies depth W least busy b n (omega arith) in
    let g = b.good n (omega arith) in
    let whole = weighs c ws (NotBusy busy n) from (body (bodies n)) Outside false from 0 [] (omega arith) (b.stands n (omega arith)) (nests_body c depth busy n (bodies n) g) tt (opens c bodies depth W least busy b n (omega arith)) in
    let start : w_at c ws from from ≡ 0 = (let y : from - from ≡ 0 = omega arith in ap (weigh (shapes_of c) ws from) y) in
    let top = weight_body c depth busy W ws n (bodies n) before g in
    let own = b.weights n (omega arith) in
    let z = b.sizes n (omega arith) in
    let k : from + size (body (bodies n)) - from ≡ slice_index (lengths_of c) n = (let t = length_there c n in omega (arith, z, t)) in
    let same : weigh (shapes_of c) ws from (slice_index (lengths_of c) n) ≡ w_at c ws from (from + size (body (bodies n))) = ap (weigh (shapes_of c) ws from) (sym k) in
    pushed_depth ws (weigh (shapes_of c) ws from (slice_index (lengths_of c) n)) m n W (length_weights c n) before (omega (arith, whole, start, top, own, same)) (omega arith)

laid : (c : Parts) (bodies : ℕ → Body) (depth W least : ℕ → ℕ) (busy : ℕ → Bool) → IsLowered c bodies depth W least busy → AreBlocks c (λ n. body (bodies n)) depth busy
laid c bodies depth W least busy b = record {
  stands = b.stands;
  sizes = b.sizes;
  nests = λ n h. nests_body c depth busy n (bodies n) (b.good n h);
  takes = λ n h is. busy_body c depth busy least n (bodies n) b.tells (b.good n h) (b.bytes n h is);
  ends = λ n h. ends_body (bodies n);
  fits = λ n h. fits_body c depth busy n (bodies n) (b.good n h);
  shallow = b.shallow;
  some_depth = b.some_depth;
  light = λ n h. (let x = weight_body c depth busy W (weights (shapes_of c) (lengths_of c) n) n (bodies n) (weights_less c bodies depth W least busy b n (omega arith)) (b.good n h) in let y = b.weights n h in let z = b.light n h in omega (arith, x, y, z));
}

pub lowered_sound : (c : Parts) (bodies : ℕ → Body) (depth W least : ℕ → ℕ) (busy : ℕ → Bool) → IsLowered c bodies depth W least busy → IsSound c
lowered_sound c bodies depth W least busy b = laid_sound c (λ n. body (bodies n)) depth busy (laid c bodies depth W least busy b)

pub routine_light : (c : Parts) (bodies : ℕ → Body) (depth W least : ℕ → ℕ) (busy : ℕ → Bool) → IsLowered c bodies depth W least busy → (n : ℕ) → n < length c.routines → before c n (end_of c n) ≤ W n
routine_light c bodies depth W least busy b n h =
    let ws = weights (shapes_of c) (lengths_of c) n in
    let from = begin (lengths_of c) n in
    let lower = weights_less c bodies depth W least busy b n (omega arith) in
    let g = b.good n h in
    let whole = weighs c ws (NotBusy busy n) from (body (bodies n)) Outside false from 0 [] (omega arith) (b.stands n h) (nests_body c depth busy n (bodies n) g) tt (opens c bodies depth W least busy b n (omega arith)) in
    let start : w_at c ws from from ≡ 0 = (let y : from - from ≡ 0 = omega arith in ap (weigh (shapes_of c) ws from) y) in
    let top = weight_body c depth busy W ws n (bodies n) lower g in
    let own = b.weights n h in
    let z = b.sizes n h in
    let e = begin_next c n in
    let k : from + size (body (bodies n)) - from ≡ end_of c n - from = omega (arith, z, e) in
    let same : before c n (end_of c n) ≡ w_at c ws from (from + size (body (bodies n))) = ap (weigh (shapes_of c) ws from) (sym k) in
    omega (arith, whole, start, top, own, same)
