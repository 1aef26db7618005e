use Rattle.std.proofs.Common.{rules, ◌≡◌, ℕ, ◌+◌, ◌*◌, ◌<◌, ◌≤◌, inl, inr, refl, get_or, subst, sym, ◌∙◌, arith}
use Rattle.std.proofs.lemmas.List.{get_or_default}
use Rattle.td_stream.proofs.Layouts.{below_or}
use Rattle.td_foreign.specs.declared.pieces.TdPiece.{TdPiece}
use Rattle.td_c.proofs.pieces.are_whole.Goals as goal

-- what holds of all below i, and of i, holds of all below i + 1
more : (P : ℕ → Type 0) (i : ℕ) → ((k : ℕ) → k < i → P k) → P i → (k : ℕ) → k < i + 1 → P k
more P i all h k below = elim (below_or k i) [ inl lt ↦ all k lt | inr ge ↦ subst P (let e : i ≡ k = omega (arith, ge, below) in e) h ]

pub loop-piece-preserved : goal.loop-piece-preserved
loop-piece-preserved c =
    let l = c.args.pieces.now in
    let i = c.loop-piece.piece-index in
    let p : TdPiece = c.piece-item.result in
    let lt = c.loop-piece-test.true in
    let counted : p.count ≡ p.words.count = subst (λ (q : TdPiece). q.count ≡ q.words.count) (sym c.piece-item.is) (c.requires i p lt) in
    let told : p.place + p.size ≤ 8 * p.count = search rules in
    let fits : p.place + p.size ≤ 8 * p.words.count = omega (arith, counted, told) in
    more (λ k. (d : TdPiece) → (get_or l k d).place + (get_or l k d).size ≤ 8 * (get_or l k d).words.count) i c.loop-piece.invariant
    (λ d. subst (λ (q : TdPiece). q.place + q.size ≤ 8 * q.words.count) (c.piece-item.is ∙ sym (get_or_default l i d p lt)) fits)

pub returns : goal.returns
returns c = (
  λ t k d below. c.loop-piece.invariant k (omega (arith, below, c.loop-piece-test.false)) d,
  λ h. refl,
)
