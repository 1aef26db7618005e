-- Routines that are busy take a byte.
use Rattle.std.proofs.Common.{◌≡◌, ℕ, zero, suc, ◌+◌, ◌<◌, ◌≤◌, ⊎_elim, inl, inr, [], Some, Bool, true, false, length, refl, sym, subst, arith}
use Rattle.td_verify_lowered.specs.Imports.{Parts, Shape}
use Rattle.td_verify.specs.declared.shape.Shape.TheVariants as s
use Rattle.td_verify.specs.Shape.{shape}
use Rattle.td_ir.specs.Tables.{lengths_of}
use Rattle.td_verify.specs.Shape.{shapes_of}
use Rattle.td_verify.specs.Brackets.{opened}
use Rattle.td_verify.specs.Ways.{MayBeEmpty}
use Rattle.td_ir.specs.Tables.{begin}
use Rattle.td_verify.specs.Verify.{IsSound}
use Rattle.td_ir.proofs.Begins.{begin_next}
use Rattle.td_lower_blocks.specs.Block.{Block, Done, Then, Stop, Leave, Guard, Scope, Window, Loop, size}
use Rattle.td_verify_lowered.specs.Nesting.{Takes, BeginsBusy, Nests, Busy, Level, Outside, InWindow, InLoop}
use Rattle.td_verify_lowered.specs.Laws.{AreBlocks, NotBusy}
use Rattle.td_verify_lowered.proofs.Blocked.{IsBlocked}
use Rattle.td_verify_lowered.proofs.Through.{through}
use Rattle.td_verify_lowered.proofs.Busy.{busy_routine}
use Rattle.td_verify_lowered.proofs.Sound.{blocks_sound}
use Rattle.td_num.proofs.Truths.{false_by as decided}

takes_more : (E F : ℕ → Type 0) (j : Shape) → ((m : ℕ) → F m → E m) → Takes E j → Takes F j
takes_more E F (s.Straight b w) h t = t
takes_more E F (s.Call m) h t = λ f. t (h m f)
takes_more E F (s.Jump x) h t = t
takes_more E F (s.Branch x) h t = t
takes_more E F s.Return h t = t
takes_more E F s.Fail h t = t
takes_more E F (s.While x) h t = t
takes_more E F (s.Again x) h t = t
takes_more E F (s.Open k) h t = t
takes_more E F s.Close h t = t

begins_more : (E F : ℕ → Type 0) (b : Block) → ((m : ℕ) → F m → E m) → BeginsBusy E b → BeginsBusy F b
begins_more E F (Then j b) h t = takes_more E F (shape j) h t
begins_more E F Done h t = t
begins_more E F (Stop j) h t = t
begins_more E F Leave h t = t
begins_more E F (Guard g r one rest) h t = t
begins_more E F (Scope body rest) h t = t
begins_more E F (Window j site body rest) h t = t
begins_more E F (Loop body rest) h t = t

nests_more : (E F : ℕ → Type 0) (l : Level) (v : Bool) (b : Block) → ((m : ℕ) → F m → E m) → Nests E l v b → Nests F l v b
nests_more E F l v Done h n = n
nests_more E F l v (Then j b) h n = (n.0, nests_more E F l v b h n.1)
nests_more E F l v (Stop j) h n = n
nests_more E F l v Leave h n = n
nests_more E F l v (Guard g r one rest) h n = (nests_more E F l v one h n.0, nests_more E F l v rest h n.1)
nests_more E F l v (Scope body rest) h n = (nests_more E F l true body h n.0, nests_more E F l v rest h n.1)
nests_more E F l v (Window j site body rest) h n = (n.0, n.1, nests_more E F InWindow false body h n.2, nests_more E F l v rest h n.3)
nests_more E F l v (Loop body rest) h n = (n.0, begins_more E F body h n.1, nests_more E F InLoop false body h n.2, nests_more E F l v rest h n.3)

busy_more : (E F : ℕ → Type 0) (b : Block) → ((m : ℕ) → F m → E m) → Busy E b → Busy F b
busy_more E F Done h b = b
busy_more E F (Then j k) h (inl b) = inl (takes_more E F (shape j) h b)
busy_more E F (Then j k) h (inr b) = inr (busy_more E F k h b)
busy_more E F (Stop j) h b = b
busy_more E F Leave h b = b
busy_more E F (Guard g r one rest) h b = (⊎_elim inl (λ (x : Busy E one). inr (busy_more E F one h x)) b.0, busy_more E F rest h b.1)
busy_more E F (Scope body rest) h b = (b.0, busy_more E F rest h b.1)
busy_more E F (Window j site body rest) h b = (b.0, ⊎_elim inl (λ (x : Busy E rest). inr (busy_more E F rest h x)) b.1)
busy_more E F (Loop body rest) h b = (b.0, busy_more E F rest h b.1)

ends_at : (c : Parts) (blocks : ℕ → Block) (depth : ℕ → ℕ) (busy : ℕ → Bool) → AreBlocks c blocks depth busy → (n : ℕ) → n < length c.routines → begin (lengths_of c) n + size (blocks n) ≡ begin (lengths_of c) (suc n)
ends_at c blocks depth busy b n h = let e = begin_next c n in let z = b.sizes n h in omega (arith, e, z)

begins_open : (c : Parts) (blocks : ℕ → Block) (depth : ℕ → ℕ) (busy : ℕ → Bool) → AreBlocks c blocks depth busy → (n : ℕ) → n ≤ length c.routines → opened (shapes_of c) (begin (lengths_of c) n) ≡ Some []
begins_open c blocks depth busy b zero h = refl
begins_open c blocks depth busy b (suc n) h =
    subst (λ x. opened (shapes_of c) x ≡ Some []) (ends_at c blocks depth busy b n (omega arith))
    (through c (NotBusy busy n) (blocks n) Outside false (begin (lengths_of c) n) 0 [] (b.stands n (omega arith)) (b.nests n (omega arith)) tt (begins_open c blocks depth busy b n (omega arith)))

no_empty : (c : Parts) (blocks : ℕ → Block) (depth : ℕ → ℕ) (busy : ℕ → Bool) → AreBlocks c blocks depth busy → (n : ℕ) → n ≤ length c.routines → (m : ℕ) → MayBeEmpty (shapes_of c) (lengths_of c) n m → NotBusy busy n m
no_empty c blocks depth busy b zero h m w = λ lt. absurd (omega arith)
no_empty c blocks depth busy b (suc n) h m (inl w) = λ lt.
    let E = NotBusy busy n in
    let F = λ (k : ℕ). MayBeEmpty (shapes_of c) (lengths_of c) n k in
    let before = no_empty c blocks depth busy b n (omega arith) in
    subst (λ x. busy x ≡ false) (sym w.0) (decided (busy n) (λ is.
    busy_routine c n (blocks n) (b.stands n (omega arith)) (ends_at c blocks depth busy b n (omega arith)) (begins_open c blocks depth busy b n (omega arith))
    (nests_more E F Outside false (blocks n) before (b.nests n (omega arith)))
    (busy_more E F (blocks n) before (b.takes n (omega arith) is)) (inl (refl, w.1))))
no_empty c blocks depth busy b (suc n) h m (inr w) = λ lt. no_empty c blocks depth busy b n (omega arith) m w.1 (let x = w.0 in omega (arith, x, lt))

blocked : (c : Parts) (blocks : ℕ → Block) (depth : ℕ → ℕ) (busy : ℕ → Bool) → AreBlocks c blocks depth busy → IsBlocked c blocks depth
blocked c blocks depth busy b = record {
  stands = b.stands;
  sizes = b.sizes;
  nests = λ n h. nests_more (NotBusy busy n) (λ m. MayBeEmpty (shapes_of c) (lengths_of c) n m) Outside false (blocks n) (no_empty c blocks depth busy b n (omega arith)) (b.nests n h);
  ends = b.ends;
  fits = b.fits;
  shallow = b.shallow;
  some_depth = b.some_depth;
  light = b.light;
}

pub laid_sound : (c : Parts) (blocks : ℕ → Block) (depth : ℕ → ℕ) (busy : ℕ → Bool) → AreBlocks c blocks depth busy → IsSound c
laid_sound c blocks depth busy b = blocks_sound c blocks depth (blocked c blocks depth busy b)
