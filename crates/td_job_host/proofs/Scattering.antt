-- Lists of stretches, value by value.
use Rattle.std.proofs.Common.{◌≡◌, ℕ, ◌+◌, ◌*◌, ◌<◌, ◌≤◌, List, [], ◌∷◌, ◌++◌, length, drop, get_or, Bool, true, false, not, ◌&&◌, nat_le, Option, Some, None, refl, ap, ◌∙◌, arith}
use Rattle.std.proofs.lemmas.Bool.Decides.{nat_tests}
use Rattle.std.proofs.lemmas.List.{at_drop_more, at_drop_all}
use Rattle.std.proofs.lemmas.List.Elements.{All-nil, All-cons}
use Rattle.std.specs.Prelude.{is_some}
use Rattle.serde_json.specs.View.{view, items_view}
use Rattle.serde_json.specs.declared.value.Value.{Value}
use Rattle.td_job_host.specs.Imports.{Stretch}
use Rattle.td_stream.specs.Layouts.{AreWithin}
use Rattle.td_job.specs.Stretches.{spelled_stretch, stretch_of, each_stretch}
use Rattle.td_job_host.specs.Steps.{are_stretches, are_within}
use Rattle.td_job_host.specs.declared.scatter.Measure.{Measure}
use Rattle.td_job_host.specs.declared.scatter.Measure.TheVariants.{Stretches, Bytes, Words}
use Rattle.td_job_host.specs.Scatter.{measured}
use Rattle.td_num.proofs.Truths.{both_true}

-- the stretches that the values from a place on spell
abbrev pub stretches_from : List Value → ℕ → List Stretch
stretches_from values i = each_stretch (items_view (drop i values))

-- the stretch at a place, and those after it
pub one_stretch : (values : List Value) (i : ℕ) (d : Value) → i < length values
    → stretches_from values i ≡ stretch_of (spelled_stretch (view (get_or values i d))) ++ stretches_from values (i + 1)
one_stretch values i d h = at_drop_more (λ vs. each_stretch (items_view vs)) values i d h

pub no_stretches : (values : List Value) (i : ℕ) → length values ≤ i → stretches_from values i ≡ []
no_stretches values i h = at_drop_all (λ vs. each_stretch (items_view vs)) values i h

-- ---- whether each value spells one

pub one_spelled : (values : List Value) (i : ℕ) (d : Value) → i < length values
    → are_stretches (items_view (drop i values)) ≡ (is_some (spelled_stretch (view (get_or values i d))) && are_stretches (items_view (drop (i + 1) values)))
one_spelled values i d h = at_drop_more (λ vs. are_stretches (items_view vs)) values i d h

pub none_spelled : (values : List Value) (i : ℕ) → length values ≤ i → are_stretches (items_view (drop i values)) ≡ true
none_spelled values i h = at_drop_all (λ vs. are_stretches (items_view vs)) values i h

-- ---- whether each is within

pub one_within : (words : ℕ) (o : Option Stretch) (layout : List Stretch) → are_within words (stretch_of o ++ layout) ≡ (are_within words (stretch_of o) && are_within words layout)
one_within words None layout = refl
one_within words (Some s) layout = by (nat_le (s.place + s.size) (8 * words))
  where
    by : (b : Bool) → (b && are_within words layout) ≡ ((b && true) && are_within words layout)
    by true = refl
    by false = refl

pub all_within : (words : ℕ) (layout : List Stretch) → are_within words layout ≡ true → AreWithin words layout
all_within words [] h = All-nil (λ (s : Stretch). s.place + s.size ≤ 8 * words)
all_within words (s ∷ layout) h =
    let both = both_true (nat_le (s.place + s.size) (8 * words)) (are_within words layout) h in
    let here = both.0 in
    All-cons (λ (s : Stretch). s.place + s.size ≤ 8 * words) s layout (grind (arith, nat_tests, here)) (all_within words layout both.1)

pub not_outside : (within : Bool) → not within ≡ false → within ≡ true
not_outside true h = refl
not_outside false h = absurd (cc)

-- ---- what is counted

pub one_measured : (m : Measure) (o : Option Stretch) (layout : List Stretch) → measured m (stretch_of o ++ layout) ≡ measured m (stretch_of o) + measured m layout
one_measured m None layout = none m
  where
    none : (m : Measure) → measured m layout ≡ measured m [] + measured m layout
    none Stretches = omega arith
    none Bytes = omega arith
    none Words = omega arith
one_measured Stretches (Some s) layout = omega arith
one_measured Bytes (Some s) layout = omega arith
one_measured Words (Some s) layout = omega arith

pub nothing_measured : (m : Measure) → measured m [] ≡ 0
nothing_measured Stretches = refl
nothing_measured Bytes = refl
nothing_measured Words = refl

abbrev pub measured_from : Measure → List Value → ℕ → ℕ
measured_from m values i = measured m (stretches_from values i)

pub one_more_measured : (m : Measure) (values : List Value) (i : ℕ) (d : Value) → i < length values
    → measured_from m values i ≡ measured m (stretch_of (spelled_stretch (view (get_or values i d)))) + measured_from m values (i + 1)
one_more_measured m values i d h = ap (measured m) (one_stretch values i d h) ∙ one_measured m (spelled_stretch (view (get_or values i d))) (stretches_from values (i + 1))

pub none_measured : (m : Measure) (values : List Value) (i : ℕ) → length values ≤ i → measured_from m values i ≡ 0
none_measured m values i h = ap (measured m) (no_stretches values i h) ∙ nothing_measured m
