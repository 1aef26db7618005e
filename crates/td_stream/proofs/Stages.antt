-- Streams one after the other, each later than the one before. Cited by other crates.
use Rattle.std.proofs.Common.{◌≡◌, ℕ, List, sym, refl, ◌∙◌, subst, arith}
use Rattle.td_stream.specs.declared.load.Load.{Load}
use Rattle.td_stream.specs.Loads.{Carries}
use Rattle.td_stream.specs.StreamInvariant.{Later, layout_of}
use Rattle.td_stream.specs.declared.stream.Stream.{Stream}

pub later_trans : {W : Type 0} {loads : W → List Load} {reaches : W → W → Type 0} → ((u v w : W) → reaches u v → reaches v w → reaches u w) → (r s t : Stream W) → Later loads reaches r s → Later loads reaches s t → Later loads reaches r t
later_trans {W} {loads} on r s t h k = record {
  same_words = k.same_words ∙ h.same_words;
  reached = on r.words.now s.words.now t.words.now h.reached k.reached;
  layout = k.layout ∙ h.layout;
  pos = omega (arith, h.pos, k.pos);
  earlier = λ b c. h.earlier b (subst (λ n. Carries n b (loads s.words.now)) h.layout (k.earlier b (subst (λ n. Carries n b (loads t.words.now)) (sym h.layout) c)));
}

pub later_self : {W : Type 0} {loads : W → List Load} {reaches : W → W → Type 0} → ((w : W) → reaches w w) → (s : Stream W) → Later loads reaches s s
later_self itself s = record { same_words = refl; reached = itself s.words.now; layout = refl; pos = omega arith; earlier = λ b c. c }

-- what carries the later loads carries the earlier ones
pub carried : {W : Type 0} {loads : W → List Load} {reaches : W → W → Type 0} (r s t : Stream W) (b : List ℕ) → Later loads reaches r s → Later loads reaches s t → Carries (layout_of r) b (loads t.words.now) → Carries (layout_of r) b (loads s.words.now) × Carries (layout_of s) b (loads t.words.now)
carried {W} {loads} r s t b h k c =
    let d : Carries (layout_of s) b (loads t.words.now) = subst (λ n. Carries n b (loads t.words.now)) (sym h.layout) c in
    (subst (λ n. Carries n b (loads s.words.now)) h.layout (k.earlier b d), d)
