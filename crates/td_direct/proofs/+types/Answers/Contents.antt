-- The answers of what stands in a field.
use Rattle.std.proofs.Common.{◌≡◌, ℕ, ◌-◌, ◌<◌, List, ◌∷◌, false, refl, sym, ap, ◌∙◌, subst}
use Rattle.std.specs.Prelude.{◌⊎◌}
use Rattle.std.proofs.lemmas.Result.{err_from_is_err_and}
use Rattle.td_num.specs.Numbers.{bytes_in, number_at}
use Rattle.td_direct.specs.Imports.{NumberType, Field as FieldDef, Verdict}
use Rattle.td_num.specs.Lists.{is_among}
use Rattle.td_core.specs.declared.module.Element.TheVariants as element
use Rattle.td_core.specs.declared.outcome.Spot.TheVariants.{Field}
use Rattle.td_core.specs.Outcome.{plain, and_then, ending_within}
use Rattle.td_meaning.specs.Meaning.{values_of as values_in, field_place, first_name}
use Rattle.td_meaning.specs.Words64.{fields_meaning, content_meaning, copied_meaning}
use Rattle.td_meaning.specs.Verdicts.{ending_of, frame_place, IsAt}
use Rattle.td_stream.specs.StreamInvariant.{position}
use Rattle.td_direct.specs.declared.counting.Content.{Content}
use Rattle.td_direct.specs.declared.counting.Counted.{Counted}
use Rattle.td_direct.specs.Counting.{IsCounted, IsPlain, plain_number}
use Rattle.td_direct.specs.Copying.{IsKept}
use Rattle.td_direct.specs.Validates.{senses, Reads, OnlyRead, rest_meaning}
use Rattle.td_direct.proofs.Stepping.{step_from, step_to, only_still}
use Rattle.td_direct.proofs.FieldLemmas.{plain_by}
use Rattle.td_direct.proofs.TypeLemmas.{number_is, number_not_listed, listed_is, plain_not_number, plain_not_listed}
use Rattle.td_direct.proofs.Validations.{from, followed, framed, out_from, out_left, out_then, out_within}
use Rattle.td_direct.proofs.Results.{with_one, with_both, or_err, always_err}
use Rattle.td_direct.proofs.+types.Goals as goal

pub fields::validate_plain-returns-clause-validates : goal.fields::validate_plain-returns-clause-validates
fields::validate_plain-returns-clause-validates g t c =
    let a = c.args in
    let s = a.stream.now in
    let u = c.validate_bytes.new.stream in
    let m = a.walk.now.types.now.module.now in
    let f : FieldDef = a.field.now in
    let y = c.validate_bytes.new.slate in
    let cells = y.cells.now in
    let v : Verdict = c.in_ok-verdict.verdict in
    let name : c.first_name-name.result ≡ first_name f.parts = c.first_name-name.ensures ∙ ap first_name c.as_slice.ensures in
    let place = field_place a.walk.now.ty (first_name f.parts) s.pos in
    let ends = c.in_ok-framed.ensures.ending cells ∙ (λ k. ending_within (frame_place a.walk.now.ty (Field (name k)) (c.pos-start.ensures k)) (ending_of v y.trace.now cells)) in
    let bytes = c.in_ok-verdict.ensures.decides in
    let n : ℕ = c.given_number-value.result in
    let is : n ≡ plain_number f.element f.extent a.env.now a.walk.now.places.now s.end s.pos a.slate.now.cells.now =
    c.given_number-value.ensures ∙ (λ k. plain_number f.element f.extent a.env.now a.walk.now.places.now (c.end.ensures k) (c.pos-start.ensures k) a.slate.now.cells.now) in
    from _ (λ b. plain_by m.listed (senses m a.walk.now.bound) a.walk.now.ty f a.later.now a.env.now a.walk.now.places.now b s.end s.pos a.slate.now.cells.now n is c.requires.none)
    (followed (λ b. rest_meaning m.listed (senses m a.walk.now.bound) a.walk.now.ty f.parts a.later.now a.env.now n a.walk.now.places.now b s.end s.pos)
    (framed c.in_ok-framed.field-0 place bytes (record { same_cells = refl; same_copies = refl; same_trace = refl; cells = refl; rooms = refl }) refl refl (c.in_ok-framed.ensures.at u.pos bytes.at) ends))

pub fields::validate_plain-returns-in_err-framed-clause-runs_out : goal.fields::validate_plain-returns-in_err-framed-clause-runs_out
fields::validate_plain-returns-in_err-framed-clause-runs_out g t c = let p = err_from_is_err_and c.from_residual-in_err-framed.result c.from_residual-in_err-framed.ensures.1 in rw p.1 (
    let a = c.args in
    let s = a.stream.now in
    let m = a.walk.now.types.now.module.now in
    let f : FieldDef = a.field.now in
    let n = plain_number f.element f.extent a.env.now a.walk.now.places.now s.end s.pos a.slate.now.cells.now in
    out_from _ (λ b. plain_by m.listed (senses m a.walk.now.bound) a.walk.now.ty f a.later.now a.env.now a.walk.now.places.now b s.end s.pos a.slate.now.cells.now n refl c.requires.none)
    (out_then (λ b. rest_meaning m.listed (senses m a.walk.now.bound) a.walk.now.ty f.parts a.later.now a.env.now n a.walk.now.places.now b s.end s.pos)
    (out_within (λ b. field_place a.walk.now.ty (first_name f.parts) s.pos)
    (out_left c.in_ok-verdict.ensures.decides (record { same_cells = refl; same_copies = refl; same_trace = refl; cells = refl; rooms = refl })))))

pub fields::validate_plain-returns-in_err-verdict-clause-runs_out : goal.fields::validate_plain-returns-in_err-verdict-clause-runs_out
fields::validate_plain-returns-in_err-verdict-clause-runs_out g t c = let p = err_from_is_err_and c.from_residual.result c.from_residual.ensures.1 in rw p.1 (
    let a = c.args in
    let s = a.stream.now in
    let m = a.walk.now.types.now.module.now in
    let f : FieldDef = a.field.now in
    let n = plain_number f.element f.extent a.env.now a.walk.now.places.now s.end s.pos a.slate.now.cells.now in
    out_from _ (λ b. plain_by m.listed (senses m a.walk.now.bound) a.walk.now.ty f a.later.now a.env.now a.walk.now.places.now b s.end s.pos a.slate.now.cells.now n refl c.requires.none)
    (out_then (λ b. rest_meaning m.listed (senses m a.walk.now.bound) a.walk.now.ty f.parts a.later.now a.env.now n a.walk.now.places.now b s.end s.pos)
    (out_within (λ b. field_place a.walk.now.ty (first_name f.parts) s.pos) c.in_err-verdict.ensures.runs_out)))

pub fields::validate_content-returns-in-Number-clause-validates : goal.fields::validate_content-returns-in-Number-clause-validates
fields::validate_content-returns-in-Number-clause-validates g t c =
    let a = c.args in
    let m = a.walk.now.types.now.module.now in
    let e = c.validate_number.ensures in
    with_both c.validate_number.result e.at e.step (λ v at step. record {
      later = e.later;
      stream = e.whole;
      ends = e.end;
      at = at;
      lent = record { same_cells = refl; same_copies = refl; same_trace = refl; cells = refl; rooms = refl };
      held = λ b h x. x;
      step = λ b h. step m.listed (senses m a.walk.now.bound) a.later.now a.env.now a.walk.now.places.now b a.slate.now.cells.now c.requires.needed h;
    })

pub fields::validate_content-returns-in-Number-clause-runs_out : goal.fields::validate_content-returns-in-Number-clause-runs_out
fields::validate_content-returns-in-Number-clause-runs_out g t c =
    let a = c.args in
    let s = a.stream.now in
    let m = a.walk.now.types.now.module.now in
    or_err c.validate_number.result c.validate_number.ensures.only (λ only. record {
      later = c.validate_number.ensures.later;
      stream = c.validate_number.ensures.whole;
      lent = record { same_cells = refl; same_copies = refl; same_trace = refl; cells = refl; rooms = refl };
      only = λ b h. only_still g.W.Words.loads s c.validate_number.new.stream (fields_meaning m.listed (senses m a.walk.now.bound) a.walk.now.ty (a.field.now ∷ a.later.now) a.env.now a.walk.now.places.now b s.end s.pos a.slate.now.cells.now) only;
    })

pub fields::validate_content-returns-in-Listed-clause-validates : goal.fields::validate_content-returns-in-Listed-clause-validates
fields::validate_content-returns-in-Listed-clause-validates g t c =
    let a = c.args in
    let s = a.stream.now in
    let n = c.validate_listed_field.new.stream in
    let m = a.walk.now.types.now.module.now in
    let f : FieldDef = a.field.now in
    let cells = a.slate.now.cells.now in
    let e = c.validate_listed_field.ensures in
    with_both c.validate_listed_field.result e.at e.step (λ (v : Content) at step. record {
      later = e.later;
      stream = e.whole;
      ends = e.end;
      at = at;
      lent = record { same_cells = refl; same_copies = refl; same_trace = refl; cells = refl; rooms = refl };
      held = λ b h x. x;
      step = λ b h.
          subst (λ (sets : List (List ℕ)). Reads g.W.Words.loads s n (fields_meaning sets (senses m a.walk.now.bound) a.walk.now.ty (f ∷ a.later.now) a.env.now a.walk.now.places.now b s.end s.pos cells) (and_then (plain (ending_of v.verdict c.validate_listed_field.new.trace cells)) (rest_meaning sets (senses m a.walk.now.bound) a.walk.now.ty f.parts a.later.now a.env.now v.value a.walk.now.places.now b s.end s.pos))) c.as_slice.ensures
          (step (senses m a.walk.now.bound) a.later.now a.env.now a.walk.now.places.now b cells h);
    })

pub fields::validate_content-returns-in-Listed-clause-runs_out : goal.fields::validate_content-returns-in-Listed-clause-runs_out
fields::validate_content-returns-in-Listed-clause-runs_out g t c =
    let a = c.args in
    let s = a.stream.now in
    let n = c.validate_listed_field.new.stream in
    let m = a.walk.now.types.now.module.now in
    let cells = a.slate.now.cells.now in
    or_err c.validate_listed_field.result c.validate_listed_field.ensures.only (λ only. record {
      later = c.validate_listed_field.ensures.later;
      stream = c.validate_listed_field.ensures.whole;
      lent = record { same_cells = refl; same_copies = refl; same_trace = refl; cells = refl; rooms = refl };
      only = λ b h. subst (λ (sets : List (List ℕ)). OnlyRead g.W.Words.loads s n (fields_meaning sets (senses m a.walk.now.bound) a.walk.now.ty (a.field.now ∷ a.later.now) a.env.now a.walk.now.places.now b s.end s.pos cells)) c.as_slice.ensures (only (senses m a.walk.now.bound) a.later.now a.env.now a.walk.now.places.now b cells h);
    })

pub fields::validate_content-returns-in-Plain-clause-validates : goal.fields::validate_content-returns-in-Plain-clause-validates
fields::validate_content-returns-in-Plain-clause-validates g t c =
    c.validate_plain.ensures.validates

pub fields::validate_content-returns-in-Plain-clause-runs_out : goal.fields::validate_content-returns-in-Plain-clause-runs_out
fields::validate_content-returns-in-Plain-clause-runs_out g t c =
    c.validate_plain.ensures.runs_out

pub fields::validate_content-returns-in-Number-clause-number : goal.fields::validate_content-returns-in-Number-clause-number
fields::validate_content-returns-in-Number-clause-number g t c =
    or_err c.validate_number.result c.validate_number.ensures.short (λ short u is once.
    let s = c.args.stream.now in
    let f : FieldDef = c.args.field.now in
    let here : f.element ≡ element.Number c.in-Number.number_type = (subst (λ (k : Counted). IsCounted k f.extent f.element) c.in-Number.is c.number_in.ensures).0 in
    subst (λ (v : NumberType). s.end - s.pos < bytes_in v.width) (number_is f.element c.in-Number.number_type u here is) short)

pub fields::validate_content-returns-in-Number-clause-listed : goal.fields::validate_content-returns-in-Number-clause-listed
fields::validate_content-returns-in-Number-clause-listed g t c =
    always_err c.validate_number.result (λ base values is once b h.
    let f : FieldDef = c.args.field.now in
    let here : f.element ≡ element.Number c.in-Number.number_type = (subst (λ (k : Counted). IsCounted k f.extent f.element) c.in-Number.is c.number_in.ensures).0 in
    absurd (number_not_listed f.element c.in-Number.number_type base values here is))

pub fields::validate_content-returns-in-Listed-clause-number : goal.fields::validate_content-returns-in-Listed-clause-number
fields::validate_content-returns-in-Listed-clause-number g t c =
    always_err c.validate_listed_field.result (λ u is once.
    let f : FieldDef = c.args.field.now in
    let here : f.element ≡ element.Listed c.in-Listed.base c.in-Listed.values = (subst (λ (k : Counted). IsCounted k f.extent f.element) c.in-Listed.is c.number_in.ensures).0 in
    absurd (number_not_listed f.element u c.in-Listed.base c.in-Listed.values is here))

pub fields::validate_content-returns-in-Listed-clause-listed : goal.fields::validate_content-returns-in-Listed-clause-listed
fields::validate_content-returns-in-Listed-clause-listed g t c =
    or_err c.validate_listed_field.result c.validate_listed_field.ensures.memory (λ memory base values is once b h.
    let a = c.args in
    let s = a.stream.now in
    let f : FieldDef = a.field.now in
    let sets : List (List ℕ) = a.walk.now.types.now.module.now.listed in
    let here : f.element ≡ element.Listed c.in-Listed.base c.in-Listed.values = (subst (λ (k : Counted). IsCounted k f.extent f.element) c.in-Listed.is c.number_in.ensures).0 in
    let one = listed_is f.element c.in-Listed.base base c.in-Listed.values values here is in
    subst (λ (v : ℕ). (s.end - s.pos < bytes_in base.width) ⊎ (is_among (values_in sets v) (number_at base b s.pos) ≡ false)) one.1
    (subst (λ (v : NumberType). (s.end - s.pos < bytes_in v.width) ⊎ (is_among (values_in sets c.in-Listed.values) (number_at v b s.pos) ≡ false)) one.0
    (subst (λ (vs : List (List ℕ)). (s.end - s.pos < bytes_in c.in-Listed.base.width) ⊎ (is_among (values_in vs c.in-Listed.values) (number_at c.in-Listed.base b s.pos) ≡ false)) c.as_slice.ensures
    (memory b h))))

pub fields::validate_content-returns-in-Plain-clause-number : goal.fields::validate_content-returns-in-Plain-clause-number
fields::validate_content-returns-in-Plain-clause-number g t c =
    always_err c.validate_plain.result (λ u is once.
    let f : FieldDef = c.args.field.now in
    let here : IsPlain f.extent f.element = subst (λ (k : Counted). IsCounted k f.extent f.element) c.in-Plain.is c.number_in.ensures in
    absurd (plain_not_number f.extent f.element u here is once))

pub fields::validate_content-returns-in-Plain-clause-listed : goal.fields::validate_content-returns-in-Plain-clause-listed
fields::validate_content-returns-in-Plain-clause-listed g t c =
    always_err c.validate_plain.result (λ base values is once b h.
    let f : FieldDef = c.args.field.now in
    let here : IsPlain f.extent f.element = subst (λ (k : Counted). IsCounted k f.extent f.element) c.in-Plain.is c.number_in.ensures in
    absurd (plain_not_listed f.extent f.element base values here is once))

pub fields::validate_bytes-returns-in-None-clause-decides : goal.fields::validate_bytes-returns-in-None-clause-decides
fields::validate_bytes-returns-in-None-clause-decides g t c =
    let a = c.args in
    let s = a.stream.now in
    let m = a.walk.now.types.now.module.now in
    let kept : IsKept a.field.now = c.in-None.ensures in
    with_one c.validate_shape.result c.validate_shape.ensures.decides (λ v. from _ (λ b. kept m.listed (senses m a.walk.now.bound) a.env.now a.walk.now.places.now b s.end s.pos a.slate.now.cells.now))

pub fields::validate_bytes-returns-in-None-clause-runs_out : goal.fields::validate_bytes-returns-in-None-clause-runs_out
fields::validate_bytes-returns-in-None-clause-runs_out g t c =
    let a = c.args in
    let s = a.stream.now in
    let m = a.walk.now.types.now.module.now in
    let kept : IsKept a.field.now = c.in-None.ensures in
    or_err c.validate_shape.result c.validate_shape.ensures.runs_out (out_from _ (λ b. kept m.listed (senses m a.walk.now.bound) a.env.now a.walk.now.places.now b s.end s.pos a.slate.now.cells.now))

pub fields::validate_bytes-returns-in-Some-clause-decides : goal.fields::validate_bytes-returns-in-Some-clause-decides
fields::validate_bytes-returns-in-Some-clause-decides g t c =
    let a = c.args in
    let s = a.stream.now in
    let n = c.validate_copied.new.stream in
    let m = a.walk.now.types.now.module.now in
    let f : FieldDef = a.field.now in
    let e = c.validate_copied.ensures in
    let v : Verdict = c.validate_copied.result in
    let copied = c.in-Some.ensures in
    record {
      later = e.later;
      stream = e.whole;
      ends = e.end;
      at = subst (IsAt v (position n)) (sym c.requires.empty_trace) e.at;
      lent = record { same_cells = refl; same_copies = refl; same_trace = refl; cells = c.validate_copied.auto.cells; rooms = e.rooms };
      held = e.held;
      step = λ b h.
          step_from s n _ _ _ ((λ k. content_meaning m.listed (senses m a.walk.now.bound) f.element (copied.extent k) (copied.copy k) a.env.now a.walk.now.places.now b s.end s.pos a.slate.now.cells.now)
          ∙ (λ k. copied_meaning c.in-Some.copied.copy a.walk.now.places.now (sym c.value_of.ensures k) s.end s.pos a.slate.now.cells.now))
          (step_to s n _ _ _ (e.step b h) (λ k. plain (ending_of v (sym c.requires.empty_trace k) c.validate_copied.new.cells)));
    }
