-- What verdicts and the ends of actions stand for, with what is beside them in the code; of use below the validators.
use Rattle.std.specs.Prelude.{◌≡◌, ◌⊎◌, ℕ, List, []}
use Rattle.td_core.specs.Term.{Deed, done, set, keep, fork, answer, give_up}
use Rattle.td_meaning.specs.Imports.{NameId, Spot, TraceFrame, Verdict, Accept, Reject}
use Rattle.td_core.specs.Outcome.{Ending, Accepted, Rejected, FramePlace}
use Rattle.td_meaning.specs.Doing.{Effect}
use Rattle.td_meaning.specs.Doing as effect
use Rattle.td_meaning.specs.declared.actions.Ended.{Ended}
use Rattle.td_meaning.specs.declared.actions.Ended.TheVariants.{On, Returned, Aborted}

-- the ending that a verdict is, with the trace and the cells beside it
abbrev pub ending_of : Verdict → List TraceFrame → List ℕ → Ending
ending_of (Accept pos) trace cells = Accepted pos cells
ending_of (Reject reason pos) trace cells = Rejected reason pos trace cells

-- a validation that accepts is at this place, and has no trace
abbrev pub IsAt : Verdict → ℕ → List TraceFrame → Type 0
IsAt (Accept pos) p trace = (pos ≡ p) × (trace ≡ [])
IsAt (Reject reason pos) p trace = Unit {0}

-- a verdict is a failure
abbrev pub IsRejection : Verdict → Type 0
IsRejection (Accept pos) = ⊥
IsRejection (Reject reason pos) = Unit {0}

abbrev pub frame_place : NameId → Spot → ℕ → FramePlace
frame_place ty spot start = record { ty = ty; field = spot; start = start }

-- the effect of an action that ended
abbrev pub effect_of : Ended → List ℕ → Effect
effect_of On cells = effect.On cells
effect_of (Returned value) cells = effect.Returned value cells
effect_of Aborted cells = effect.Aborted cells

-- a cell is read somewhere in an action
abbrev pub HasRead : Deed → Type 0
HasRead done = ⊥
HasRead (set cell e then) = HasRead then
HasRead (keep cell then) = Unit {0}
HasRead (fork e one other then) = HasRead one ⊎ (HasRead other ⊎ HasRead then)
HasRead (answer e) = ⊥
HasRead give_up = ⊥
