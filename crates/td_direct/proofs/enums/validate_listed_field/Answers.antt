use Rattle.std.proofs.Common.{◌≡◌, ℕ, ◌-◌, ◌<◌, List, [], false, sym, ap, ◌∙◌, subst}
use Rattle.std.specs.Prelude.{◌⊎◌}
use Rattle.std.proofs.lemmas.Result.{err_from_is_err_and}
use Rattle.td_num.specs.Numbers.{bytes_in, number_at}
use Rattle.td_num.specs.Lists.{is_among}
use Rattle.td_direct.specs.Imports.{Field}
use Rattle.td_core.specs.declared.outcome.Spot.TheVariants.{Field as FieldSpot}
use Rattle.td_core.specs.Outcome.{Ending, ending_within, plain, and_then, within}
use Rattle.td_meaning.specs.Meaning.{field_place, first_name, values_of}
use Rattle.td_meaning.specs.Words64.{listed_meaning}
use Rattle.td_meaning.specs.Verdicts.{ending_of, frame_place}
use Rattle.td_direct.specs.Validates.{Reads, rest_meaning}
use Rattle.td_direct.proofs.Stepping.{step_from, step_to, step_then, step_within, step_only, only_from, only_then, then_verdict}
use Rattle.td_direct.proofs.FieldLemmas.{listed_by, listed_failed}
use Rattle.td_direct.proofs.enums.validate_listed_field.Goals as goal

pub returns-clause-step : goal.returns-clause-step
returns-clause-step g c = λ senses later env places b cells h.
    let a = c.args in
    let s = a.stream.now in
    let f : Field = a.field.now in
    let k = c.validate_listed-content in
    let t = k.new.stream in
    let place = field_place a.ty (first_name f.parts) s.pos in
    let sets : List (List ℕ) = a.listed.now in
    let x = listed_meaning a.base (values_of sets a.values) b s.pos s.end s.pos cells in
    let rest = λ (n : ℕ). rest_meaning sets senses a.ty f.parts later env n places b s.end s.pos in
    let e = ending_of k.result.verdict [] cells in
    let name : c.first_name-name.result ≡ first_name f.parts = c.first_name-name.ensures ∙ ap first_name c.as_slice.ensures in
    let framed = c.in_ok-framed.ensures.ending cells ∙ (λ i. ending_within (frame_place a.ty (FieldSpot (name i)) (c.pos-start.ensures i)) (ending_of k.result.verdict (c.requires.empty_trace i) cells)) in
    let took : Reads g.W.Words.loads s t x (plain e) = step_from s t _ _ _ (λ i. listed_meaning a.base (sym c.values_at.ensures i) b (sym c.pos-start.ensures i) s.end s.pos cells) (k.ensures.step b cells h) in
    step_from s t _ _ _ (listed_by sets senses a.ty f later env places b s.end s.pos cells a.base a.values c.requires.number c.requires.once)
    (step_to s t _ _ _ (step_then s t (within place x) (ending_within place e) (rest (number_at a.base b s.pos)) (step_within s t place x e took))
    (then_verdict k.result.verdict place cells (rest (number_at a.base b s.pos)) (rest k.result.value) (λ q v r more. ap (λ n. rest n r more) (sym (k.ensures.value q v b h)))
    ∙ ap (λ (e : Ending). and_then (plain e) (rest k.result.value)) (sym framed)))

pub returns-in_err-framed-clause-only : goal.returns-in_err-framed-clause-only
returns-in_err-framed-clause-only g c = let p = err_from_is_err_and c.from_residual.result c.from_residual.ensures.1 in rw p.1 (λ senses later env places b cells h.
    let a = c.args in
    let s = a.stream.now in
    let f : Field = a.field.now in
    let k = c.validate_listed-content in
    let t = k.new.stream in
    let place = field_place a.ty (first_name f.parts) s.pos in
    let sets : List (List ℕ) = a.listed.now in
    let x = listed_meaning a.base (values_of sets a.values) b s.pos s.end s.pos cells in
    let e = ending_of k.result.verdict [] cells in
    let took : Reads g.W.Words.loads s t x (plain e) = step_from s t _ _ _ (λ i. listed_meaning a.base (sym c.values_at.ensures i) b (sym c.pos-start.ensures i) s.end s.pos cells) (k.ensures.step b cells h) in
    only_from g.W.Words.loads s t _ _ (listed_by sets senses a.ty f later env places b s.end s.pos cells a.base a.values c.requires.number c.requires.once)
    (only_then g.W.Words.loads s t (within place x) (rest_meaning sets senses a.ty f.parts later env (number_at a.base b s.pos) places b s.end s.pos) (step_only s t x (plain e) took)))

pub returns-in_err-framed-clause-memory : goal.returns-in_err-framed-clause-memory
returns-in_err-framed-clause-memory g c = let p = err_from_is_err_and c.from_residual.result c.from_residual.ensures.1 in rw p.1 (λ b h.
    let a = c.args in
    let s = a.stream.now in
    let k = c.validate_listed-content in
    let took = k.ensures.step b [] h in
    subst (λ (vs : List ℕ). (s.end - s.pos < bytes_in a.base.width) ⊎ (is_among vs (number_at a.base b s.pos) ≡ false)) c.values_at.ensures
    (listed_failed a.base c.values_at.result.now b c.pos-start.result s.end s.pos [] took.seen k.result.verdict c.requires.whole.within c.in_err-framed.ensures.memory took.is))
