-- What code does on a message that stays (own rule; docs/language/code.md). It is a recursion on the code and not a machine: a routine is a function from its state to its exit, a call is that function, and a loop is its turns.
use Rattle.std.specs.Prelude.{ℕ, zero, suc, ◌+◌, ◌-◌, cond, List, [], ◌∷◌, ◌++◌, length, map, replicate, slice_index, slice_index_or, slice_range, nat_eq, nat_lt, codes}
use Rattle.std.specs.Str.{bytes_eq}
use Rattle.td_num.specs.Numbers.{places_from}
use Rattle.td_core.specs.declared.module.NameId.{NameId}
use Rattle.td_core.specs.declared.module.Entry.{Entry}
use Rattle.td_core.specs.declared.outcome.Reason.{Reason}
use Rattle.td_core.specs.declared.outcome.Spot.{Spot}
use Rattle.td_core.specs.declared.outcome.Spot.TheVariants.{Field, Where, Switch}
use Rattle.td_core.specs.declared.outcome.TraceFrame.{TraceFrame}
use Rattle.td_core.specs.Outcome.{FramePlace, frame_at}
use Rattle.td_ir.specs.declared.instructions.Instr.{Instr}
use Rattle.td_ir.specs.declared.tables.Parts.{Parts}
use Rattle.td_ir.specs.declared.tables.Routine.{Routine}
use Rattle.td_ir.specs.Tables.{routine_of, entry_of, site_of, cells_by, first_of, end_of}
use Rattle.td_ir.specs.State.{State, left, registers_from, Way, Returned, Turned, Failed, Stuck, Exit, at_once, after}
use Rattle.td_ir.specs.Flow.{Flow, Goes, Fails, Calls, Returns, Loops, Turns, Effect, effect}

-- what a field's name stands for
abbrev pub spot_named : List ℕ → NameId → Spot
spot_named text name = cond (bytes_eq text (codes "where")) Where (cond (bytes_eq text (codes "switch")) Switch (Field name))

abbrev pub place_of_site : Parts → ℕ → ℕ → FramePlace
place_of_site c site start = record {
  ty = (site_of c site).ty;
  field = spot_named (slice_index_or c.names (site_of c site).field.number []) (site_of c site).field;
  start = start;
}

abbrev pub frame : Parts → ℕ → State → Reason → TraceFrame
frame c site s reason = frame_at (place_of_site c site s.start) reason

-- a callee's exit, in its caller: back to it, or with one frame more
abbrev pub back_by : Parts → ℕ → State → (State → Exit) → List ℕ → ℕ → Way → Exit
back_by c site s go touched steps (Returned pos cells) = after touched steps (go (record s { cells = cells; pos = pos }))
back_by c site s go touched steps (Turned t) = at_once Stuck
back_by c site s go touched steps (Failed reason pos trace cells) =
    record { way = Failed reason pos (trace ++ frame c site s reason ∷ []) cells; touched = touched; steps = steps }
back_by c site s go touched steps Stuck = at_once Stuck

abbrev pub back : Parts → ℕ → State → (State → Exit) → Exit → Exit
back c site s go e = back_by c site s go e.touched e.steps e.way

-- goes on after a turn of a loop: its While is run again, which is a step
abbrev pub again_by : (State → Exit) → List ℕ → ℕ → Way → Exit
again_by go touched steps (Turned t) = after touched (steps + 1) (go t)
again_by go touched steps (Returned pos cells) = record { way = Returned pos cells; touched = touched; steps = steps }
again_by go touched steps (Failed reason pos trace cells) = record { way = Failed reason pos trace cells; touched = touched; steps = steps }
again_by go touched steps Stuck = at_once Stuck

abbrev pub again : (State → Exit) → Exit → Exit
again go e = again_by go e.touched e.steps e.way

-- turns up to the end; more of them than there are bytes can't come where each takes a byte
abbrev pub turns : ℕ → (State → Exit) → (State → Exit) → State → Exit
turns zero body behind s = behind s
turns (suc n) body behind s = cond (nat_eq s.pos s.end) (behind s) (again (turns n body behind) (body s))

-- the exit of a call, by its first register, routine, cell map and caller
abbrev pub Callees : Type 0
Callees = ℕ → ℕ → ℕ → State → Exit

-- go t s is the exit from t on
abbrev pub led : Parts → Callees → ℕ → (ℕ → State → Exit) → Flow → Exit
led c calls pc go (Goes target s) = go target s
led c calls pc go (Fails reason site pos s) = at_once (Failed reason pos (frame c site s reason ∷ []) s.cells)
led c calls pc go (Calls first routine map site s) = back c site s (go (pc + 1)) (calls first routine map s)
led c calls pc go (Returns s) = at_once (Returned s.pos s.cells)
led c calls pc go (Loops target s) = turns (suc (left s)) (go (pc + 1)) (go target) s
led c calls pc go (Turns s) = at_once (Turned s)

abbrev pub follow : Parts → Callees → ℕ → (ℕ → State → Exit) → Effect → Exit
follow c calls pc go e = after e.touched e.steps (led c calls pc go e.flow)

-- what stands k places on
abbrev pub pick : List (State → Exit) → ℕ → State → Exit
pick [] k s = at_once Stuck
pick (f ∷ fs) zero s = f s
pick (f ∷ fs) (suc k) s = pick fs k s

-- from pc a jump leads forward alone
abbrev pub goes : ℕ → List (State → Exit) → ℕ → State → Exit
goes pc fs t s = cond (nat_lt pc t) (pick fs (t - (pc + 1)) s) (at_once Stuck)

-- before the exits that follow, that from one more instruction
abbrev pub joined : Parts → ℕ → (message places : List ℕ) → Callees → ℕ → Instr → List (State → Exit) → List (State → Exit)
joined c n message places calls pc j fs = (λ s. follow c calls pc (goes pc fs) (effect c n message places pc j s)) ∷ fs

-- the exit from each instruction on
abbrev pub exits : Parts → ℕ → (message places : List ℕ) → Callees → ℕ → List Instr → List (State → Exit)
exits c n message places calls pc [] = []
exits c n message places calls pc (j ∷ js) = joined c n message places calls pc j (exits c n message places calls (pc + 1) js)

-- the places of a callee's cells, by those of its caller
abbrev pub places_by : List ℕ → List ℕ → List ℕ
places_by places cells = map (slice_index places) cells

-- a routine's first state, from a state of its caller's
abbrev pub entered : Routine → List ℕ → State → State
entered r args s = record { regs = args ++ replicate (r.registers - length args) 0; cells = s.cells; start = s.pos; pos = s.pos; end = s.end; outer = s.end }

-- the exit of routine n, of those below k; each calls those below it
abbrev pub below : Parts → List ℕ → ℕ → ℕ → List ℕ → State → Exit
below c message zero n places s = at_once Stuck
below c message (suc k) n places s =
    cond (nat_eq n k)
    (pick
    (exits c k message places
    (λ first m cells t. below c message k m (places_by places (cells_by c k m cells)) (entered (routine_of c m) (registers_from t.regs first (routine_of c m).params) t))
    (first_of c k) (slice_range c.instructions (first_of c k) (end_of c k)))
    0 s)
    (below c message k n places s)

-- a call out of routine n
abbrev pub calls_of : Parts → List ℕ → ℕ → List ℕ → Callees
calls_of c message n places first m cells t =
    below c message n m (places_by places (cells_by c n m cells)) (entered (routine_of c m) (registers_from t.regs first (routine_of c m).params) t)

-- the exit from pc on in routine n
abbrev pub block : Parts → List ℕ → ℕ → List ℕ → ℕ → State → Exit
block c message n places pc s = pick (exits c n message places (calls_of c message n places) pc (slice_range c.instructions pc (end_of c n))) 0 s

-- before the first instruction: from byte 0 to the end of the message
abbrev pub started : List ℕ → List ℕ → State
started cells message = record { regs = []; cells = cells; start = 0; pos = 0; end = length message; outer = length message }

-- the exit of routine n, run from outside
abbrev pub run_routine : Parts → ℕ → (args cells message : List ℕ) → Exit
run_routine c n args cells message = block c message n (places_from 0 (length cells)) (first_of c n) (entered (routine_of c n) args (started cells message))

-- the exit of an entry point
abbrev pub run : Parts → Entry → (args cells message : List ℕ) → Exit
run c entry args cells message = run_routine c (entry_of c entry.number).routine args cells message
