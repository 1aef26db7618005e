-- Trees, and their plays. Cited by other crates.
use Rattle.std.proofs.Common.{◌≡◌, ℕ, List, [], ◌∷◌, map, refl, sym, ap, ◌∙◌}
use Rattle.td_stream.specs.declared.load.Load.{Load}
use Rattle.td_prog.specs.Tree.{Tree, Done, Loads, Plays, answer, loaded, Holds, PlaysAreCarried}

pub carried : {X : Type 0} (memory : ℕ → ℕ) (t : Tree X) (loads : List Load) (y : X) → Plays t loads y → Holds memory loads →
    (answer memory t ≡ y) × (loaded memory t ≡ map (λ (l : Load). l.word) loads)
carried memory (Done x) [] y p h = (p, refl)
carried memory (Done x) (l ∷ loads) y p h = absurd p
carried memory (Loads word k) [] y p h = absurd p
carried memory (Loads word k) (l ∷ loads) y p h =
    let v : memory word ≡ l.value = ap memory (sym p.0) ∙ h.0 in
    let r = carried memory (k l.value) loads y p.1 h.1 in (
      ap (λ x. answer memory (k x)) v ∙ r.0,
      ap (λ x. word ∷ loaded memory (k x)) v ∙ ap (λ ws. word ∷ ws) r.1 ∙ ap
          (λ w. w ∷ map (λ (l : Load). l.word) loads) (sym p.0),
    )

pub plays_are_carried : PlaysAreCarried
plays_are_carried memory t loads y = carried memory t loads y
