use Rattle.std.proofs.Common.{rules, ◌≡◌, ◌+◌, ◌<◌, ◌≤◌, [], ◌++◌, true, false, refl, sym, ap, ◌∙◌, arith, length}
use Rattle.td_num.specs.Numbers.{bytes_in, places_from}
use Rattle.td_direct.specs.Imports.{Field, NotEnough}
use Rattle.td_core.specs.declared.outcome.Spot.TheVariants.{Field as FieldSpot}
use Rattle.td_core.specs.Outcome.{Rejected, ending_within}
use Rattle.td_meaning.specs.Naming.{is_needed}
use Rattle.td_meaning.specs.Meaning.{first_name}
use Rattle.td_meaning.specs.Verdicts.{frame_place}
use Rattle.td_direct.specs.Validates.{rest_meaning}
use Rattle.td_stream.proofs.Places.{look_nowhere}
use Rattle.td_direct.proofs.FieldLemmas.{number_short, number_passed, number_read}
use Rattle.td_direct.proofs.numbers.validate_number.Goals as goal

pub returns-then-not-need-clause-step : goal.returns-then-not-need-clause-step
returns-then-not-need-clause-step g c = λ sets senses later env places b cells need h.
    let s = c.args.stream.now in
    let a = c.args in
    let f : Field = a.field.now in
    let short : s.end < s.pos + bytes_in a.number_type.width = grind (arith, c.if-not-need.true, c.if-not-need.ensures, c.need.ensures, c.byte_count-width.ensures, c.requires.whole.within) in
    let name : c.first_name.result ≡ first_name f.parts = c.first_name.ensures ∙ ap first_name c.as_slice-parts.ensures in
    let failed = c.in_ok-framed.ensures.ending cells ∙ (λ i. ending_within (frame_place a.ty (FieldSpot (name i)) (c.pos-start.ensures i)) (Rejected NotEnough (c.pos-start.ensures i) (c.requires.empty_trace i) cells)) in
    record { seen = []; looked = look_nowhere s s refl refl; is = number_short sets senses a.ty f later env places b s.end s.pos cells a.number_type _ _ c.requires.number c.requires.once short failed }

pub returns-then-not-read-clause-step : goal.returns-then-not-read-clause-step
returns-then-not-read-clause-step g c = λ sets senses later env places b cells need h.
    let s = c.args.stream.now in
    let a = c.args in
    let f : Field = a.field.now in
    let long : s.pos + bytes_in a.number_type.width ≤ s.end = grind (arith, c.if-not-need.false, c.if-not-need.ensures, c.need.ensures, c.byte_count-width.ensures, c.requires.whole.within) in
    let unread : a.read ≡ false = search rules in
    let none : is_needed (length env) f.parts later ≡ false = sym need ∙ unread in
    let at : s.pos + bytes_in a.number_type.width ≡ c.pos.result = omega (arith, c.pos.ensures, c.skip.ensures.moves.at, c.byte_count-width.ensures) in
    record { seen = []; looked = c.skip.ensures.moves.looked; is = number_passed sets senses a.ty f later env places b s.end s.pos cells a.number_type 0 c.requires.number c.requires.once long none ∙ (λ i. rest_meaning sets senses a.ty f.parts later env 0 places b s.end s.pos (at i) cells) }

pub returns-clause-step : goal.returns-clause-step
returns-clause-step g c = λ sets senses later env places b cells need h.
    let s = c.args.stream.now in
    let a = c.args in
    let f : Field = a.field.now in
    let w = bytes_in a.number_type.width in
    let long : s.pos + w ≤ s.end = grind (arith, c.if-not-need.false, c.if-not-need.ensures, c.need.ensures, c.byte_count-width.ensures, c.requires.whole.within) in
    let asked : a.read ≡ true = search rules in
    let some : is_needed (length env) f.parts later ≡ true = sym need ∙ asked in
    let value = c.take-value.ensures.value b h in
    let at : s.pos + w ≡ c.pos-2.result = sym (c.pos-2.ensures ∙ c.take-value.ensures.moves.at) in
    record { seen = places_from s.pos w; looked = c.take-value.ensures.moves.looked; is = number_read sets senses a.ty f later env places b s.end s.pos cells a.number_type c.take-value.result c.requires.number c.requires.once long some value ∙ (λ i. record { ending = (rest_meaning sets senses a.ty f.parts later env c.take-value.result places b s.end s.pos (at i) cells).ending; reads = places_from s.pos w ++ (rest_meaning sets senses a.ty f.parts later env c.take-value.result places b s.end s.pos (at i) cells).reads }) }
