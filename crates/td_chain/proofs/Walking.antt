-- How far a walk has come, step by step.
use Rattle.std.proofs.Common.{◌≡◌, ℕ, suc, ◌+◌, ◌-◌, ◌*◌, ◌<◌, ◌≤◌, cond, inl, subst, List, [], ◌∷◌, ◌++◌, append_assoc, append-nil, Some, Ok, Err, ap, sym, ◌∙◌, arith}
use Rattle.std.specs.List.{All}
use Rattle.std.proofs.lemmas.Bool.{lt-ltb}
use Rattle.td_stream.specs.declared.load.Load.{Load}
use Rattle.td_chain.specs.declared.region.Region.{Region}
use Rattle.td_chain.specs.declared.queue.Queue.{Queue}
use Rattle.td_chain.specs.declared.piece.Piece.{Piece}
use Rattle.td_chain.specs.declared.refusal.ChainError.{ChainError}
use Rattle.td_chain.specs.declared.refusal.ChainError.TheVariants.{Beyond, TooLong}
use Rattle.td_chain.specs.declared.refusal.Refusal.{Refusal}
use Rattle.td_chain.specs.declared.step.Walk.{Walk}
use Rattle.td_chain.specs.declared.step.Move.{Move}
use Rattle.td_chain.specs.declared.step.Move.TheVariants.{Table, Next, Last, Refused}
use Rattle.td_chain.specs.Loaded.{Holds, AreApart, Grown}
use Rattle.td_chain.specs.Places.{IsAt, IsOpen}
use Rattle.td_chain.specs.Walks.{IsWalk, come_to}
use Rattle.td_chain.specs.Chain.{Chain, after, stopped, went, chained, begun, moved, descriptor_at}
use Rattle.td_chain.proofs.Growing.{holds_before}

-- after k descriptors: what comes of the whole walk is these pieces, and what comes of it from here on
pub record Walked (q : Queue) (regions : List Region) (head : ℕ) (loads : List Load) (k : ℕ) (items : List Piece) (at : Walk) : Type 0 where
  pub same : (n : ℕ) → n + k ≡ suc q.size → (m : ℕ → ℕ) → Holds m loads → chained q regions m (suc q.size) (begun q head) ≡ after items (chained q regions m n at)

-- what the descriptor at a place comes to, in every memory that holds the loads
abbrev pub Comes : Queue → List Region → List Load → Walk → Move → Type 0
Comes q regions loads at move = (m : ℕ → ℕ) → Holds m loads → move ≡ moved q regions at (descriptor_at m (at.table + 16 * at.index))

after_after : (xs ys : List Piece) (c : Chain) → after xs (after ys c) ≡ after (xs ++ ys) c
after_after xs ys c = ap (λ zs. let d : Chain = record { pieces = zs; refusal = c.refusal } in d) (sym (append_assoc xs ys c.pieces))

-- pieces before a refusal
with_none : (items : List Piece) (r : Refusal) → come_to items (Err r) ≡ after items (record { pieces = []; refusal = Some r })
with_none items r = ap (λ ps. come_to ps (Err r)) (sym (append-nil items))

module _ (P : ℕ → Type 0) (q : Queue) (regions : List Region) (head k : ℕ) (items : List Piece) (at : Walk) (xs ys : List Load) where
  stepped : (move : Move) → Walked q regions head xs k items at → Grown P xs ys → Comes q regions ys at move
      → (n : ℕ) → suc n + k ≡ suc q.size → (m : ℕ → ℕ) → Holds m ys
      → chained q regions m (suc q.size) (begun q head) ≡ after items (went (chained q regions m n) at move)
  stepped move w g c n e m h =
      w.same (suc n) e m (holds_before P m xs ys g h) ∙ ap (λ x. after items (went (chained q regions m n) at x)) (sym (c m h))

  pub to_table : (v : Walk) → Walked q regions head xs k items at → Grown P xs ys → Comes q regions ys at (Table v) → Walked q regions head ys (k + 1) items v
  to_table v w g c = record { same = λ n e m h. stepped (Table v) w g c n (omega (arith, e)) m h }

  pub to_next : (p : Piece) (v : Walk) → Walked q regions head xs k items at → Grown P xs ys → Comes q regions ys at (Next p v)
      → Walked q regions head ys (k + 1) (items ++ p ∷ []) v
  to_next p v w g c = record {
    same = λ n e m h. stepped (Next p v) w g c n (omega (arith, e)) m h ∙ after_after items (p ∷ []) (chained q regions m n v);
  }

  pub to_last : (p : Piece) → Walked q regions head xs k items at → Grown P xs ys → Comes q regions ys at (Last p) → k < q.size + 1
      → (m : ℕ → ℕ) → Holds m ys → come_to (items ++ p ∷ []) (Ok tt) ≡ chained q regions m (suc q.size) (begun q head)
  to_last p w g c lt m h = let e : suc (q.size - k) + k ≡ suc q.size = omega (arith, lt) in sym (stepped (Last p) w g c (q.size - k) e m h)

  pub to_refused : (error : ChainError) → Walked q regions head xs k items at → Grown P xs ys → Comes q regions ys at (Refused error) → k < q.size + 1
      → (m : ℕ → ℕ) → Holds m ys
      → come_to items (Err (record { error = error; descriptor = at.index; is_indirect = at.is_indirect })) ≡ chained q regions m (suc q.size) (begun q head)
  to_refused error w g c lt m h =
      let e : suc (q.size - k) + k ≡ suc q.size = omega (arith, lt) in
      with_none items (record { error = error; descriptor = at.index; is_indirect = at.is_indirect }) ∙ sym (stepped (Refused error) w g c (q.size - k) e m h)

  pub to_end : Walked q regions head xs k items at → q.size + 1 ≤ k → k ≤ q.size + 1 → (m : ℕ → ℕ) → Holds m xs
      → come_to items (Err (record { error = TooLong; descriptor = at.index; is_indirect = at.is_indirect })) ≡ chained q regions m (suc q.size) (begun q head)
  to_end w least most m h =
      let e : 0 + k ≡ suc q.size = omega (arith, least, most) in
      with_none items (record { error = TooLong; descriptor = at.index; is_indirect = at.is_indirect }) ∙ sym (w.same 0 e m h)

-- at a head that is an entry
pub begins : (q : Queue) (regions : List Region) (bytes head : ℕ) → q.table + 16 * q.size ≤ bytes → head < q.size → IsAt q regions bytes (begun q head)
begins q regions bytes head fits lt = record { inside = fits; entry = lt; few = omega arith; table = λ i t. inl t }

pub walked_begin : (q : Queue) (regions : List Region) (head : ℕ) (xs : List Load) → Walked q regions head xs 0 [] (begun q head)
walked_begin q regions head xs = record {
  same = λ n e m h. let same : suc q.size ≡ n = omega (arith, e) in ap (λ k. chained q regions m k (begun q head)) same;
}

-- what a whole walk comes to
pub is_walk : (q : Queue) (regions : List Region) (head : ℕ) (xs ys : List Load) (c : Chain) → xs ≡ [] → Grown (IsOpen q regions) xs ys → head < q.size
    → ((m : ℕ → ℕ) → Holds m ys → c ≡ chained q regions m (suc q.size) (begun q head)) → IsWalk q regions head ys c
is_walk q regions head xs ys c none g lt e = record {
  apart = g.apart (subst AreApart (sym none) tt);
  inside = subst (All (λ (l : Load). IsOpen q regions l.word)) (sym (g.are ∙ ap (λ zs. zs ++ g.more) none)) g.only;
  means = λ m h. e m h ∙ sym (ap (λ b. cond b (chained q regions m (suc q.size) (begun q head)) (stopped Beyond (begun q head))) (lt-ltb head q.size lt));
}
