-- How fields, definitions and modules end.
use Rattle.std.proofs.Common.{ℕ, zero, suc, ◌^◌, ◌<◌, ◌≤◌, Bool, true, false, List, [], ◌∷◌, ◌++◌, length, refl, arith, Option, Some, None, slice_get, nat_eq}
use Rattle.td_num.specs.Numbers.{places_from}
use Rattle.td_core.specs.Term.{Term, Deed}
use Rattle.td_meaning.specs.Imports.{NameId, Part, Field, Body, Struct, Casetype, TypeDef, Constraint, Impossible, Action as ActionFails}
use Rattle.td_core.specs.Outcome.{and_then, within, after_reading, rejected}
use Rattle.td_expr.specs.Sound.{Sound}
use Rattle.td_meaning.specs.Doing.{Effect, On, Returned, Aborted, doing, natural_of, is_true}
use Rattle.td_meaning.specs.Naming.{is_needed}
use Rattle.td_meaning.specs.Meaning.{Sense, content_meaning, refined, ended, acted, field_place, field_number, number_places, bits_of, checked, parts_meaning, extended, first_name, fields_meaning, case_for, where_place, switch_place, chosen_meaning, body_meaning, definition_meaning, pick, below, entry_place}
use Rattle.td_meaning.specs.Throughout.{Through, OnEnding, OnAction, OnParts, OnFields, OnChosen, OnBody, OnDefinition, pick_through, through_below}
use Rattle.td_meaning.proofs.Ending.{on_within}
use Rattle.td_meaning.specs.Endings.{AreCells, IsEndingWithin, EndingsAreWithin}
use Rattle.td_meaning.proofs.EndingCells.{EffectCells, within_then, within_frame, within_demanded, deed_cells}
use Rattle.td_meaning.proofs.EndingShapes.{IsGood, content_within}

refined_within : (end count : ℕ) (o : Option Term) (env : List ℕ) (start q : ℕ) (cells : List ℕ) → start ≤ end → q ≤ end → AreCells count cells → IsEndingWithin end count (refined o env start q cells).ending
refined_within end count None env start q cells before le small = (le, small)
refined_within end count (Some e) env start q cells before le small = within_demanded end count Constraint (is_true e env) start q cells before (λ t. le) small

ended_within : (end count : ℕ) (o : Effect) (start q : ℕ) → start ≤ end → q ≤ end → EffectCells count o → IsEndingWithin end count (ended o start q).ending
ended_within end count (On cells) start q before le small = (le, small)
ended_within end count (Returned value cells) start q before le small = within_demanded end count ActionFails value start q cells before (λ t. le) small
ended_within end count (Aborted cells) start q before le small = (before, (tt, small))

acted_within : (end count : ℕ) (a : Option Deed) (env places : List ℕ) (start q : ℕ) (cells : List ℕ) → start ≤ end → q ≤ end → AreCells count cells → OnAction Sound a env places start cells
    → IsEndingWithin end count (acted a env places start q cells).ending
acted_within end count None env places start q cells before le small h = (le, small)
acted_within end count (Some action) env places start q cells before le small h =
    ended_within end count (doing action (env ++ start ∷ []) places cells) start q before le (deed_cells count action (env ++ start ∷ []) places cells h small)

checked_within : (end count : ℕ) (part : Part) (env places : List ℕ) (start q : ℕ) (cells : List ℕ) → start ≤ end → q ≤ end → AreCells count cells
    → OnEnding (refined part.refinement env start q cells).ending (λ q cells. OnAction Sound part.action env places start cells) → IsEndingWithin end count (checked part env places start q cells).ending
checked_within end count part env places start q cells before le small h =
    let test = refined part.refinement env start q cells in
    within_then end count test.ending test.reads (acted part.action env places start) (λ q cells. OnAction Sound part.action env places start cells)
    (refined_within end count part.refinement env start q cells before le small) h
    (λ r more at few on. acted_within end count part.action env places start r more before at few on)

parts_within : (end count : ℕ) (ty : NameId) (start n : ℕ) (ps : List Part) (env places : List ℕ) (q : ℕ) (cells : List ℕ) → start ≤ end → q ≤ end → AreCells count cells → OnParts Sound start n ps env places q cells
    → IsEndingWithin end count (parts_meaning ty start n ps env places q cells).ending
unfolding parts_meaning
parts_within end count ty start n [] env places q cells before le small h = (le, small)
parts_within end count ty start n (p ∷ ps) env places q cells before le small h =
    let values = env ++ bits_of p.bits n ∷ [] in
    let one = checked p values places start q cells in
    within_then end count (within (field_place ty p.name start) one).ending one.reads (parts_meaning ty start n ps values places) (OnParts Sound start n ps values places)
    (within_frame end count (field_place ty p.name start) one.ending before (checked_within end count p values places start q cells before le small h.1.0))
    (on_within (field_place ty p.name start) one.ending (OnParts Sound start n ps values places) h.1.1)
    (λ r more at few on. parts_within end count ty start n ps values places r more before at few on)

module _ (count : ℕ) (sets : List (List ℕ)) (senses : ℕ → Sense) (throughs : ℕ → Through) (message : List ℕ) (good : (j : ℕ) → IsGood count message (senses j) (throughs j)) where
  fields_within : (ty : NameId) (fs : List Field) (env places : List ℕ) (end p : ℕ) (cells : List ℕ) → p ≤ end → end < 2 ^ 64 → AreCells count cells → OnFields Sound sets senses throughs ty fs env places message end p cells
      → IsEndingWithin end count (fields_meaning sets senses ty fs env places message end p cells).ending
  unfolding fields_meaning
  fields_within ty [] env places end p cells le low small h = (le, small)
  fields_within ty (x ∷ later) env places end p cells le low small h =
      let v = field_number x.element x.extent env places message end p cells in
      let shape = content_meaning sets senses x.element x.extent x.copy env places message end p cells in
      let place = field_place ty (first_name x.parts) p in
      let Later : ℕ → List ℕ → Type 0 = OnFields Sound sets senses throughs ty later (extended env v x.parts) places message end in
      let Then : ℕ → List ℕ → Type 0 = λ q more. OnParts Sound p v x.parts env places q more × OnEnding (parts_meaning ty p v x.parts env places q more).ending Later in
      within_then end count (within place shape).ending shape.reads
      (λ q more. after_reading (number_places (is_needed (length env) x.parts later) x.element x.extent p)
      (and_then (parts_meaning ty p v x.parts env places q more) (fields_meaning sets senses ty later (extended env v x.parts) places message end))) Then
      (within_frame end count place shape.ending le (content_within count sets senses throughs message good env places x.element x.extent x.copy end p cells le low small h.0))
      (on_within place shape.ending Then h.1)
      (λ q more at few on. within_then end count (parts_meaning ty p v x.parts env places q more).ending (parts_meaning ty p v x.parts env places q more).reads
      (fields_meaning sets senses ty later (extended env v x.parts) places message end) Later
      (parts_within end count ty p v x.parts env places q more le at few on.0) on.1
      (λ r last there few on. fields_within ty later (extended env v x.parts) places end r last there low few on))

  chosen_within : (ty : NameId) (o : Option (List Field)) (env places : List ℕ) (end p : ℕ) (cells : List ℕ) → p ≤ end → end < 2 ^ 64 → AreCells count cells → OnChosen Sound sets senses throughs ty o env places message end p cells
      → IsEndingWithin end count (chosen_meaning sets senses ty o env places message end p cells).ending
  chosen_within ty None env places end p cells le low small h = within_frame end count (switch_place ty p) (rejected Impossible p cells).ending le (le, (tt, small))
  chosen_within ty (Some fs) env places end p cells le low small h = fields_within ty fs env places end p cells le low small h

  body_within : (ty : NameId) (body : Body) (env places : List ℕ) (end p : ℕ) (cells : List ℕ) → p ≤ end → end < 2 ^ 64 → AreCells count cells → OnBody Sound sets senses throughs ty body env places message end p cells
      → IsEndingWithin end count (body_meaning sets senses ty body env places message end p cells).ending
  body_within ty (Struct fs) env places end p cells le low small h = fields_within ty fs env places end p cells le low small h
  body_within ty (Casetype switch cases default) env places end p cells le low small h = chosen_within ty (case_for (natural_of switch env) cases default) env places end p cells le low small h.1

  definition_within : (o : Option TypeDef) → IsGood count message (definition_meaning sets senses o) (OnDefinition Sound sets senses throughs o)
  definition_within None args places cells p end le low small h = (le, (tt, small))
  definition_within (Some d) args places cells p end le low small h =
      let guard = refined d.guard args p p cells in
      let Body : ℕ → List ℕ → Type 0 = OnBody Sound sets senses throughs d.name d.body args places message end in
      within_then end count (within (where_place d.name p) guard).ending guard.reads (body_meaning sets senses d.name d.body args places message end) Body
      (within_frame end count (where_place d.name p) guard.ending le (refined_within end count d.guard args p p cells le le small))
      (on_within (where_place d.name p) guard.ending Body h.1)
      (λ q more at few on. body_within d.name d.body args places end q more at low few on)

all_within : (count : ℕ) (sets : List (List ℕ)) (ds : List TypeDef) (message : List ℕ) (n j : ℕ) → IsGood count message (below sets ds n j) (through_below Sound sets ds n j)
unfolding below through_below
all_within count sets ds message zero j = λ args places cells p end le low small h. (le, (tt, small))
all_within count sets ds message (suc n) j =
    by (nat_eq j n) (definition_within count sets (below sets ds n) (through_below Sound sets ds n) message (all_within count sets ds message n) (slice_get ds n)) (all_within count sets ds message n j)
  where
    by : (b : Bool) → IsGood count message (definition_meaning sets (below sets ds n) (slice_get ds n)) (OnDefinition Sound sets (below sets ds n) (through_below Sound sets ds n) (slice_get ds n))
        → IsGood count message (below sets ds n j) (through_below Sound sets ds n j)
        → IsGood count message (pick b (definition_meaning sets (below sets ds n) (slice_get ds n)) (below sets ds n j))
        (λ args places cells message p end. pick_through Sound b (OnDefinition Sound sets (below sets ds n) (through_below Sound sets ds n) (slice_get ds n)) (through_below Sound sets ds n j) args places cells message p end)
    by true own rest = own
    by false own rest = rest

pub endings_are_within : EndingsAreWithin
endings_are_within m entry args cells message sound low small =
    all_within (length cells) m.listed m.definitions message (length m.definitions) (entry_place (slice_get m.entries entry.number) (length m.definitions)) args (places_from 0 (length cells)) cells 0 (length message)
    (omega arith) low (refl, small) sound
