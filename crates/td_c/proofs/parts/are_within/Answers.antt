use Rattle.std.proofs.Common.{rules, ◌≡◌, ℕ, ◌+◌, ◌*◌, ◌<◌, ◌≤◌, inl, inr, refl, get_or, subst, sym, arith}
use Rattle.std.proofs.lemmas.List.{get_or_default}
use Rattle.td_stream.specs.declared.stretch.Stretch.{Stretch}
use Rattle.td_stream.proofs.Layouts.{below_or}
use Rattle.td_c.proofs.parts.are_within.Goals as goal

-- what holds of all below i, and of i, holds of all below i + 1
more : (P : ℕ → Type 0) (i : ℕ) → ((k : ℕ) → k < i → P k) → P i → (k : ℕ) → k < i + 1 → P k
more P i all h k below = elim (below_or k i) [ inl lt ↦ all k lt | inr ge ↦ subst P (let e : i ≡ k = omega (arith, ge, below) in e) h ]

abbrev zero_stretch : Stretch
zero_stretch = record { place = 0; size = 0 }

pub loop-stretch-preserved : goal.loop-stretch-preserved
loop-stretch-preserved c =
    let l = c.args.stretches.now in
    more (λ k. (get_or l k zero_stretch).place + (get_or l k zero_stretch).size ≤ 8 * c.args.count) c.loop-stretch.stretch-index c.loop-stretch.invariant
    (search rules)

pub returns : goal.returns
returns c =
    let l = c.args.stretches.now in (
      λ t k d below. subst (λ (s : Stretch). s.place + s.size ≤ 8 * c.args.count) (sym (get_or_default l k d zero_stretch below))
          (c.loop-stretch.invariant k (omega (arith, below, c.loop-stretch-test.false))),
      λ h. refl,
    )
