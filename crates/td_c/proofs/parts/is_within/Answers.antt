use Rattle.std.proofs.Common.{ℕ, zero, suc, ◌+◌, ◌*◌, ◌≤◌, [], ◌∷◌, arith}
use Rattle.std.proofs.lemmas.List.Elements.{All-head}
use Rattle.td_stream.specs.declared.stretch.Stretch.{Stretch}
use Rattle.td_stream.specs.Layouts.{AreWithin}
use Rattle.td_c.proofs.parts.is_within.Goals as goal

one_within : (count : ℕ) (s : Stretch) → s.place + s.size ≤ 8 * count → AreWithin count (s ∷ [])
one_within count s h zero d below = h
one_within count s h (suc k) d below = absurd (omega (arith, below))

pub returns : goal.returns
returns c =
    let s : Stretch = record { place = c.args.place; size = c.args.size } in
    (λ t. one_within c.args.count s (c.ends_within.ensures.0 t), λ h. c.ends_within.ensures.1 (All-head (λ (x : Stretch). x.place + x.size ≤ 8 * c.args.count) s [] h))
