-- Actions leave the numbers of the buffers as they are.
use Rattle.std.proofs.Common.{◌≡◌, ℕ, ◌<◌, Bool, true, false, Option, Some, None, List, [], ◌∷◌, ◌++◌, drop, refl, sym, ap, ◌∙◌}
use Rattle.std.specs.Prelude.{slice_index, slice_set}
use Rattle.std.proofs.lemmas.List.{drop-set-lt}
use Rattle.td_num.specs.Lists.{Each}
use Rattle.td_core.specs.Copies.{NamesCells}
use Rattle.td_core.specs.Held.{AreHeld}
use Rattle.td_core.specs.Outcome.{Ending, Accepted, Rejected, Behavior, FramePlace, plain, and_then, within, ending_within, copies_by}
use Rattle.td_core.specs.Term.{Deed, done, set, keep, fork, answer, give_up}
use Rattle.td_core.specs.WellFormed.{OfSome}
use Rattle.td_direct.specs.Imports.{NameId, Part, Reason, Constraint, Action as ActionFails, TraceFrame, Verdict, Accept, Reject}
use Rattle.td_meaning.specs.Doing.{Effect, On, Returned, Aborted, after, either_way}
use Rattle.td_meaning.specs.Words64.{value_of, is_truth, is_met, doing, acted, checked, with_part, parts_meaning}
use Rattle.td_meaning.specs.Meaning.{demanded, ended, field_place}
use Rattle.td_meaning.specs.Verdicts.{ending_of}
use Rattle.td_direct.specs.Placing.{AreActionsPlaced}

-- the cells with which it ends
abbrev cells_of : Effect → List ℕ
cells_of (On cells) = cells
cells_of (Returned value cells) = cells
cells_of (Aborted cells) = cells

abbrev cells_in : Ending → List ℕ
cells_in (Accepted position cells) = cells
cells_in (Rejected reason position trace cells) = cells

after_behind : (first : ℕ) (last : List ℕ) (x : Effect) (go : List ℕ → Effect) → drop first (cells_of x) ≡ last → ((cells : List ℕ) → drop first cells ≡ last → drop first (cells_of (go cells)) ≡ last) → drop first (cells_of (after x go)) ≡ last
after_behind first last (On cells) go h k = k cells h
after_behind first last (Returned value cells) go h k = h
after_behind first last (Aborted cells) go h k = h

either_behind : (first : ℕ) (last : List ℕ) (v : Bool) (x y : Effect) → drop first (cells_of x) ≡ last → drop first (cells_of y) ≡ last → drop first (cells_of (either_way v x y)) ≡ last
either_behind first last true x y h k = h
either_behind first last false x y h k = k

module _ (first : ℕ) (last places : List ℕ) (n : ℕ) (low : (k : ℕ) → k < n → slice_index places k < first) where
  doing_behind : (d : Deed) (env cells : List ℕ) → NamesCells n d → drop first cells ≡ last → drop first (cells_of (doing d env places cells)) ≡ last
  doing_behind done env cells h e = e
  doing_behind (set cell v then) env cells h e =
      doing_behind then env (slice_set cells (slice_index places cell) (value_of v env)) h.1 (drop-set-lt first cells (slice_index places cell) (value_of v env) (low cell h.0) ∙ e)
  doing_behind (keep cell then) env cells h e = doing_behind then (env ++ slice_index cells (slice_index places cell) ∷ []) cells h.1 e
  doing_behind (fork v one other then) env cells h e =
      after_behind first last (either_way (is_truth (value_of v env)) (doing one env places cells) (doing other env places cells)) (doing then env places)
      (either_behind first last (is_truth (value_of v env)) (doing one env places cells) (doing other env places cells) (doing_behind one env cells h.0 e) (doing_behind other env cells h.1.0 e))
      (λ cells e. doing_behind then env cells h.1.1 e)
  doing_behind (answer v) env cells h e = e
  doing_behind give_up env cells h e = e

  demanded_behind : (reason : Reason) (v : Bool) (start q : ℕ) (cells : List ℕ) → drop first cells ≡ last → drop first (cells_in (demanded reason v start q cells).ending) ≡ last
  demanded_behind reason true start q cells e = e
  demanded_behind reason false start q cells e = e

  ended_behind : (x : Effect) (start q : ℕ) → drop first (cells_of x) ≡ last → drop first (cells_in (ended x start q).ending) ≡ last
  ended_behind (On cells) start q e = e
  ended_behind (Returned value cells) start q e = demanded_behind ActionFails value start q cells e
  ended_behind (Aborted cells) start q e = e

  acted_behind : (o : Option Deed) (env : List ℕ) (start q : ℕ) (cells : List ℕ) → OfSome (NamesCells n) o → drop first cells ≡ last → drop first (cells_in (acted o env places start q cells).ending) ≡ last
  acted_behind None env start q cells h e = e
  acted_behind (Some d) env start q cells h e = ended_behind (doing d (env ++ start ∷ []) places cells) start q (doing_behind d (env ++ start ∷ []) cells h e)

  then_behind : (x : Behavior) (go : ℕ → List ℕ → Behavior) → drop first (cells_in x.ending) ≡ last → ((q : ℕ) (cells : List ℕ) → drop first cells ≡ last → drop first (cells_in (go q cells).ending) ≡ last) → drop first (cells_in (and_then x go).ending) ≡ last
  then_behind x go h k = by x.ending h
    where
      by : (o : Ending) → drop first (cells_in o) ≡ last → drop first (cells_in (and_then (record { ending = o; reads = x.reads }) go).ending) ≡ last
      by (Accepted position cells) h = k position cells h
      by (Rejected reason position trace cells) h = h

  within_behind : (place : FramePlace) (x : Behavior) → drop first (cells_in x.ending) ≡ last → drop first (cells_in (within place x).ending) ≡ last
  within_behind place x h = by x.ending h
    where
      by : (o : Ending) → drop first (cells_in o) ≡ last → drop first (cells_in (ending_within place o)) ≡ last
      by (Accepted position cells) h = h
      by (Rejected reason position trace cells) h = h

  parts_behind : (ty : NameId) (start v : ℕ) (parts : List Part) (env : List ℕ) (q : ℕ) (cells : List ℕ) → Each (λ (p : Part). OfSome (NamesCells n) p.action) parts → drop first cells ≡ last → drop first (cells_in (parts_meaning ty start v parts env places q cells).ending) ≡ last
  unfolding parts_meaning
  parts_behind ty start v [] env q cells h e = e
  parts_behind ty start v (p ∷ parts) env q cells h e =
      let more = with_part env v p in
      let here = checked p more places start q cells in
      then_behind (within (field_place ty p.name start) here) (parts_meaning ty start v parts more places)
      (within_behind (field_place ty p.name start) here (then_behind (demanded Constraint (is_met p.refinement more) start q cells) (acted p.action more places start)
      (demanded_behind Constraint (is_met p.refinement more) start q cells e) (λ q cells e. acted_behind p.action more start q cells h.0 e)))
      (λ q cells e. parts_behind ty start v parts more q cells h.1 e)

ended_cells : (v : Verdict) (trace : List TraceFrame) (cells : List ℕ) → cells_in (ending_of v trace cells) ≡ cells
ended_cells (Accept pos) trace cells = refl
ended_cells (Reject reason pos) trace cells = refl

-- the buffers hold what they held
pub parts_held : (b places : List ℕ) (first : ℕ) (held : List (List ℕ)) (ty : NameId) (start n : ℕ) (parts : List Part) (env : List ℕ) (q : ℕ) (cells next : List ℕ) (v : Verdict) (trace : List TraceFrame) → AreActionsPlaced places first parts
    → parts_meaning ty start n parts env places q cells ≡ plain (ending_of v trace next) → AreHeld b first cells held → AreHeld b first next held
parts_held b places first held ty start n parts env q cells next v trace placed is h =
    let same : drop first next ≡ drop first cells =
    ap (drop first) (sym (ended_cells v trace next) ∙ ap (λ (x : Behavior). cells_in x.ending) (sym is))
    ∙ parts_behind first (drop first cells) places placed.count placed.cells ty start n parts env q cells placed.named refl in
    ap (copies_by b) same ∙ h
