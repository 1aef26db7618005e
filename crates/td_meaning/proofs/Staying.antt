-- The place stays where a refinement, an action and the parts of a field are done. Cited by other crates.
use Rattle.std.proofs.Common.{◌≡◌, ℕ, ◌+◌, List, [], ◌∷◌, ◌++◌, refl, ◌∙◌, Option, Some, None}
use Rattle.td_core.specs.Term.{Term, Deed}
use Rattle.td_meaning.specs.Imports.{NameId, Part, Constraint, Action as ActionFails}
use Rattle.td_core.specs.Outcome.{within}
use Rattle.td_meaning.specs.Doing.{Effect, On, Returned, Aborted, doing, is_true}
use Rattle.td_meaning.specs.Meaning.{refined, ended, acted, checked, parts_meaning, bits_of, field_place}
use Rattle.td_meaning.specs.Throughout.{OnEnding}
use Rattle.td_meaning.proofs.Ending.{on_then, on_map, on_within, on_demanded}

abbrev pub Stays : ℕ → ℕ → List ℕ → Type 0
Stays q r cells = r ≡ q

pub refined_stays : (r : Option Term) (env : List ℕ) (start q : ℕ) (cells : List ℕ) → OnEnding (refined r env start q cells).ending (Stays q)
refined_stays None env start q cells = refl
refined_stays (Some e) env start q cells = on_demanded Constraint (is_true e env) start q cells (Stays q) (λ t. refl)

pub ended_stays : (o : Effect) (start q : ℕ) → OnEnding (ended o start q).ending (Stays q)
ended_stays (On cells) start q = refl
ended_stays (Returned value cells) start q = on_demanded ActionFails value start q cells (Stays q) (λ t. refl)
ended_stays (Aborted cells) start q = tt

pub acted_stays : (a : Option Deed) (env places : List ℕ) (start q : ℕ) (cells : List ℕ) → OnEnding (acted a env places start q cells).ending (Stays q)
acted_stays None env places start q cells = refl
acted_stays (Some d) env places start q cells = ended_stays (doing d (env ++ start ∷ []) places cells) start q

pub checked_stays : (p : Part) (env places : List ℕ) (start q : ℕ) (cells : List ℕ) → OnEnding (checked p env places start q cells).ending (Stays q)
checked_stays p env places start q cells =
    on_then (refined p.refinement env start q cells).ending (refined p.refinement env start q cells).reads (acted p.action env places start) (Stays q) (Stays q) (refined_stays p.refinement env start q cells)
    (λ r more e. on_map (acted p.action env places start r more).ending (Stays r) (Stays q) (acted_stays p.action env places start r more) (λ t last g. g ∙ e))

pub parts_stay : (ty : NameId) (start n : ℕ) (ps : List Part) (env places : List ℕ) (q : ℕ) (cells : List ℕ) → OnEnding (parts_meaning ty start n ps env places q cells).ending (Stays q)
unfolding parts_meaning
parts_stay ty start n [] env places q cells = refl
parts_stay ty start n (p ∷ ps) env places q cells =
    let values = env ++ bits_of p.bits n ∷ [] in
    on_then (within (field_place ty p.name start) (checked p values places start q cells)).ending (checked p values places start q cells).reads (parts_meaning ty start n ps values places) (Stays q) (Stays q)
    (on_within (field_place ty p.name start) (checked p values places start q cells).ending (Stays q) (checked_stays p values places start q cells))
    (λ r more e. on_map (parts_meaning ty start n ps values places r more).ending (Stays r) (Stays q) (parts_stay ty start n ps values places r more) (λ t last g. g ∙ e))
