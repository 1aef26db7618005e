-- Cited by other crates.
-- Each expression of the parts of a field is sound.
use Rattle.std.proofs.Common.{◌≡◌, ℕ, ◌+◌, ◌^◌, ◌<◌, ◌≤◌, true, List, [], ◌∷◌, ◌++◌, length, refl, ap, ◌∙◌, arith, Option, Some, None, length-append}
use Rattle.td_core.specs.Term.{Term, Deed}
use Rattle.td_core.specs.declared.expressions.Scalar.TheVariants as scalar
use Rattle.td_arith.specs.Imports.{NameId, Bits, Part, Element, Extent, Constraint, Action as ActionFails}
use Rattle.td_core.specs.Outcome.{within}
use Rattle.td_expr.specs.Facts.{Fact, facts_of}
use Rattle.td_expr.specs.Sound.{Sound}
use Rattle.td_expr.proofs.Admitting.{neither}
use Rattle.td_meaning.specs.Doing.{Effect, On, Returned, Aborted, doing, is_true}
use Rattle.td_arith.specs.SafeModule.{option_unsafe, known_after, action_unsafe, part_facts, part_unsafe, known_after_part, parts_unsafe, known_after_parts}
use Rattle.td_core.specs.Formed.{Bound, AllFit, whole, IsOptionScoped, IsActionFormed, ArePartsFormed, part_bound, parts_scope}
use Rattle.td_meaning.specs.Meaning.{refined, ended, acted, checked, parts_meaning, bits_of, extended, field_place}
use Rattle.td_meaning.specs.Throughout.{OnEnding, OnOption, OnAction, OnParts}
use Rattle.td_arith.specs.declared.values.ValueRange.{ValueRange}
use Rattle.td_arith.proofs.Fitting.{Stand}
use Rattle.td_arith.proofs.States.{State, pushed, sound, told}
use Rattle.td_meaning.proofs.Ending.{on_then, on_map, on_within, on_demanded}
use Rattle.td_arith.proofs.Deeds.{EffectFits, deed_sound}
use Rattle.td_arith.proofs.Given.{IsTold, part_known}

-- the place is the same, the cells are within their bounds, and this is known
abbrev Stays : List Bound → List Bound → List Fact → List ℕ → ℕ → ℕ → List ℕ → Type 0
Stays all scope facts env q r cells = (r ≡ q) × (AllFit all cells × State scope facts env)

pub option_sound : (scope : List Bound) (facts : List Fact) (env : List ℕ) (r : Option Term) → IsOptionScoped scope r → State scope facts env → option_unsafe facts r ≡ None → OnOption Sound r env
option_sound scope facts env None i s u = tt
option_sound scope facts env (Some e) i s u = sound scope facts env e s i u

pub refined_stays : (all scope : List Bound) (facts : List Fact) (env : List ℕ) (r : Option Term) (start q : ℕ) (cells : List ℕ)
    → IsOptionScoped scope r → State scope facts env → option_unsafe facts r ≡ None → AllFit all cells
    → OnEnding (refined r env start q cells).ending (Stays all scope (known_after facts r) env q)
refined_stays all scope facts env None start q cells i s u f = (refl, (f, s))
refined_stays all scope facts env (Some e) start q cells i s u f =
    on_demanded Constraint (is_true e env) start q cells (Stays all scope (facts ++ facts_of true e) env q)
    (λ t. (refl, (f, told scope facts env e true s i (sound scope facts env e s i u) t)))

ended_fits : (all : List Bound) (o : Effect) (start q : ℕ) → EffectFits all o → OnEnding (ended o start q).ending (λ r cells. (r ≡ q) × AllFit all cells)
ended_fits all (On cells) start q h = (refl, h)
ended_fits all (Returned value cells) start q h = on_demanded ActionFails value start q cells (λ r cells. (r ≡ q) × AllFit all cells) (λ t. (refl, h))
ended_fits all (Aborted cells) start q h = tt

pub action_sound : (all bounds : List Bound) (places : List ℕ) (scope : List Bound) (facts : List Fact) (env : List ℕ) (action : Option Deed) (start q : ℕ) (cells : List ℕ)
    → Stand all bounds places → IsActionFormed bounds scope action → State scope facts env → action_unsafe facts action ≡ None → start < 2 ^ 32 → AllFit all cells
    → OnAction Sound action env places start cells × OnEnding (acted action env places start q cells).ending (λ r cells. (r ≡ q) × AllFit all cells)
action_sound all bounds places scope facts env None start q cells st form s u low f = (tt, (refl, f))
action_sound all bounds places scope facts env (Some action) start q cells st form s u low f =
    let le : start ≤ (whole scalar.ThirtyTwo).most = omega (arith, low) in
    let d = deed_sound all bounds places action (scope ++ whole scalar.ThirtyTwo ∷ []) facts (env ++ start ∷ []) cells st form (pushed scope facts env (whole scalar.ThirtyTwo) start s le) u f in
    (d.0, ended_fits all (doing action (env ++ start ∷ []) places cells) start q d.1)

pub record PartsAre (all : List Bound) (element : Element) (extent : Extent) (scope : List Bound) (level : ℕ) (facts : List Fact) (range : Option ValueRange) (ty : NameId) (start n : ℕ) (ps : List Part) (env places : List ℕ) (q : ℕ) (cells : List ℕ) : Type 0 where
  pub sound : OnParts Sound start n ps env places q cells
  pub stays : OnEnding (parts_meaning ty start n ps env places q cells).ending (λ r more. (r ≡ q) × (AllFit all more × State (parts_scope element extent scope ps) (known_after_parts level facts range ps) (extended env n ps)))

pub parts_sound : (all bounds : List Bound) (places : List ℕ) (element : Element) (extent : Extent) (ty : NameId) (start n : ℕ) → ((bits : Option Bits) → bits_of bits n ≤ (part_bound element extent bits).most) → start < 2 ^ 32 → Stand all bounds places
    → (range : Option ValueRange) → IsTold n range → (ps : List Part) (scope : List Bound) (level : ℕ) (facts : List Fact) (env : List ℕ) (q : ℕ) (cells : List ℕ)
    → ArePartsFormed bounds element extent scope ps → length env ≡ level → State scope facts env → parts_unsafe level facts range ps ≡ None → AllFit all cells
    → PartsAre all element extent scope level facts range ty start n ps env places q cells
unfolding parts_meaning
parts_sound all bounds places element extent ty start n small low st range is [] scope level facts env q cells form at s u f = record { sound = tt; stays = (refl, (f, s)) }
parts_sound all bounds places element extent ty start n small low st range is (p ∷ ps) scope level facts env q cells form at s u f =
    let b = part_bound element extent p.bits in
    let v = bits_of p.bits n in
    let wider = scope ++ b ∷ [] in
    let values = env ++ v ∷ [] in
    let first = facts ++ part_facts level range p.bits in
    let then = known_after_part level facts range p in
    let here : State wider first values = part_known wider facts env n level range p.bits at is (pushed scope facts env b v s (small p.bits)) in
    let next : length values ≡ level + 1 = length-append env (v ∷ []) ∙ ap (λ k. k + 1) at in
    let all_parts = neither (part_unsafe first p) (parts_unsafe (level + 1) then range ps) u in
    let own = neither (option_unsafe first p.refinement) (action_unsafe then p.action) all_parts.0 in
    let tested = refined_stays all wider first values p.refinement start q cells form.0 here own.0 f in
    let acting : (r : ℕ) (more : List ℕ) → Stays all wider then values q r more
    → OnAction Sound p.action values places start more × OnEnding (acted p.action values places start r more).ending (Stays all wider then values q) =
    λ r more k.
    let a = action_sound all bounds places wider then values p.action start r more st form.1.0 k.1.1 own.1 low k.1.0 in
    (a.0, on_map (acted p.action values places start r more).ending (λ t rest. (t ≡ r) × AllFit all rest) (Stays all wider then values q) a.1 (λ t rest e. (e.0 ∙ k.0, (e.1, k.1.1)))) in
    let done : OnEnding (checked p values places start q cells).ending (Stays all wider then values q) =
    on_then (refined p.refinement values start q cells).ending (refined p.refinement values start q cells).reads (acted p.action values places start) (Stays all wider then values q) (Stays all wider then values q) tested (λ r more k. (acting r more k).1) in
    let later : (r : ℕ) (more : List ℕ) → Stays all wider then values q r more → PartsAre all element extent wider (level + 1) then range ty start n ps values places r more =
    λ r more k. parts_sound all bounds places element extent ty start n small low st range is ps wider (level + 1) then values r more form.1.1 next k.1.1 all_parts.1 k.1.0 in
    record {
      sound = (
        option_sound wider first values p.refinement form.0 here own.0,
        (
          on_map (refined p.refinement values start q cells).ending (Stays all wider then values q) (λ r more. OnAction Sound p.action values places start more) tested (λ r more k. (acting r more k).0),
          on_map (checked p values places start q cells).ending (Stays all wider then values q) (OnParts Sound start n ps values places) done (λ r more k. (later r more k).sound),
        ),
      );
      stays =
          on_then (within (field_place ty p.name start) (checked p values places start q cells)).ending (checked p values places start q cells).reads (parts_meaning ty start n ps values places)
          (Stays all wider then values q) (λ r more. (r ≡ q) × (AllFit all more × State (parts_scope element extent wider ps) (known_after_parts (level + 1) then range ps) (extended values n ps)))
          (on_within (field_place ty p.name start) (checked p values places start q cells).ending (Stays all wider then values q) done)
          (λ r more k. on_map (parts_meaning ty start n ps values places r more).ending
          (λ t rest. (t ≡ r) × (AllFit all rest × State (parts_scope element extent wider ps) (known_after_parts (level + 1) then range ps) (extended values n ps)))
          (λ t rest. (t ≡ q) × (AllFit all rest × State (parts_scope element extent wider ps) (known_after_parts (level + 1) then range ps) (extended values n ps)))
          (later r more k).stays (λ t rest e. (e.0 ∙ k.0, e.1)));
    }

-- each part has a value
pub extended_length : (env : List ℕ) (n : ℕ) (ps : List Part) → length (extended env n ps) ≡ length env + length ps
extended_length env n [] = omega arith
extended_length env n (p ∷ ps) =
    let rest = extended_length (env ++ bits_of p.bits n ∷ []) n ps in
    let one = length-append env (bits_of p.bits n ∷ []) in
    omega (arith, rest, one)
