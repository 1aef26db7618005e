use Rattle.std.proofs.Common.{rules, ◌≡◌, ℕ, ◌+◌, ◌-◌, ◌<◌, ◌≤◌, inl, inr, refl, get_or, subst, sym, arith}
use Rattle.std.proofs.lemmas.List.{get_or_default}
use Rattle.td_stream.proofs.Layouts.{below_or}
use Rattle.td_chain.specs.declared.region.Region.{Region}
use Rattle.td_c_chain.proofs.inside.are_within.Goals as goal

-- what holds of all below i, and of i, holds of all below i + 1
more : (P : ℕ → Type 0) (i : ℕ) → ((k : ℕ) → k < i → P k) → P i → (k : ℕ) → k < i + 1 → P k
more P i all h k below = elim (below_or k i) [ inl lt ↦ all k lt | inr ge ↦ subst P (let e : i ≡ k = omega (arith, ge, below) in e) h ]

abbrev no_region : Region
no_region = record { from = 0; until = 0; place = 0 }

pub loop-r-preserved : goal.loop-r-preserved
loop-r-preserved c =
    let l = c.args.regions.now in
    more (λ k. (get_or l k no_region).place + ((get_or l k no_region).until - (get_or l k no_region).from) ≤ c.args.bytes) c.loop-r.r-index c.loop-r.invariant
    (search rules)

pub returns : goal.returns
returns c =
    let l = c.args.regions.now in (
      λ t k d below. subst (λ (r : Region). r.place + (r.until - r.from) ≤ c.args.bytes) (sym (get_or_default l k d no_region below))
          (c.loop-r.invariant k (omega (arith, below, c.loop-r-test.false))),
      λ h. refl,
    )
