use Rattle.std.proofs.Common.{rules, ◌≡◌, ℕ, zero, suc, ◌+◌, ◌<◌, List, [], ◌∷◌, length, take, get_or, ap, ◌∙◌, arith}
use Rattle.td_stream.specs.Layouts.{length_in}
use Rattle.td_c.specs.declared.parts.TdStretch.{TdStretch}
use Rattle.td_c.specs.Parts.{stretches_told}
use Rattle.td_c.proofs.parts.length_of.Goals as goal

-- the first k + 1 stretches have the bytes of the first k and those of stretch k
length_more : (l : List TdStretch) (k : ℕ) (d : TdStretch) → k < length l
    → length_in (stretches_told (take (k + 1) l)) ≡ length_in (stretches_told (take k l)) + (get_or l k d).size
length_more [] k d h = absurd (omega (arith, h))
length_more (s ∷ l) zero d h = omega arith
length_more (s ∷ l) (suc k) d h =
    let r = length_more l k d (omega (arith, h)) in
    let e : suc k + 1 ≡ suc (k + 1) = omega arith in
    ap (λ (n : ℕ). length_in (stretches_told (take n (s ∷ l)))) e ∙ omega (arith, r)

pub loop-part-preserved : goal.loop-part-preserved
loop-part-preserved c =
    let l = c.args.parts.now in
    let i = c.loop-part.part-index in
    record {
      sum = omega (arith, c.loop-part.invariant.sum, length_more l i (record { place = 0; size = 0 }) c.loop-part-test.true);
      bound = search rules;
    }
