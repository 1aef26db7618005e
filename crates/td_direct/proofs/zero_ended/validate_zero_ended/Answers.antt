use Rattle.std.proofs.Common.{◌≡◌, ℕ, List, [], refl, sym, ◌∙◌}
use Rattle.td_direct.specs.Imports.{NumberType, Element, Number, Listed, Named, Unit, Rest, Zeros, ListSize}
use Rattle.td_core.specs.Outcome.{plain, rejected}
use Rattle.td_meaning.specs.Meaning.{element_up_to_zero}
use Rattle.td_meaning.specs.Verdicts.{ending_of}
use Rattle.td_stream.proofs.Places.{look_nowhere}
use Rattle.td_direct.proofs.zero_ended.validate_zero_ended.Goals as goal

-- nothing but numbers
only_numbers : (x : Element) (size : ℕ) (b : List ℕ) (end p : ℕ) (cells : List ℕ) → ((t : NumberType) → x ≡ Number t → ⊥) → element_up_to_zero x size b end p cells ≡ rejected ListSize p cells
only_numbers (Number t) size b end p cells other = absurd (other t refl)
only_numbers (Listed base values) size b end p cells other = refl
only_numbers (Named definition args own) size b end p cells other = refl
only_numbers Unit size b end p cells other = refl
only_numbers Rest size b end p cells other = refl
only_numbers Zeros size b end p cells other = refl

pub returns-in_default-clause-step : goal.returns-in_default-clause-step
returns-in_default-clause-step g c = λ b cells h.
    let s = c.args.stream.now in
    record { seen = []; looked = look_nowhere s s refl refl; is = only_numbers c.args.element.now c.args.size b s.end s.pos cells c.in_default.not-Number ∙ (λ k. rejected ListSize (sym c.pos.ensures k) cells) ∙ (λ k. plain (ending_of (sym c.unfit.ensures k) [] cells)) }
