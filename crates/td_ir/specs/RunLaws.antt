-- Laws of run (own rule): the exit from one instruction on, by the exits from those to which it leads. They need forward jumps and calls of lower routines alone.
use Rattle.std.specs.Prelude.{◌≡◌, ℕ, suc, ◌+◌, ◌<◌, List, [], ◌∷◌, ◌++◌, Some, slice_get}
use Rattle.td_core.specs.declared.outcome.Reason.{Reason}
use Rattle.td_ir.specs.declared.instructions.Instr.{Instr}
use Rattle.td_ir.specs.declared.tables.Parts.{Parts}
use Rattle.td_ir.specs.Tables.{routine_of, cells_by, first_of, end_of}
use Rattle.td_ir.specs.State.{State, left, registers_from, Returned, Turned, Failed, Exit, at_once, after}
use Rattle.td_ir.specs.Flow.{Flow, Goes, Fails, Calls, Returns, Loops, Turns, effect}
use Rattle.td_ir.specs.Run.{frame, back, turns, places_by, entered, block}

-- instruction pc of code, in routine n, has an effect
pub record HasEffect (c : Parts) (message places : List ℕ) (n pc : ℕ) (s : State) (flow : Flow) (touched : List ℕ) (steps : ℕ) : Type 0 where
  pub instruction : Instr
  pub there : slice_get c.instructions pc ≡ Some instruction
  pub within : pc < end_of c n
  pub is : effect c n message places pc instruction s ≡ record { flow = flow; touched = touched; steps = steps }

abbrev pub RunGoes : Type 0
RunGoes =
    (c : Parts) (message places : List ℕ) (n pc target : ℕ) (s t : State) (touched : List ℕ) (steps : ℕ) →
    HasEffect c message places n pc s (Goes target t) touched steps → pc < target → target < end_of c n →
    block c message n places pc s ≡ after touched steps (block c message n places target t)

abbrev pub RunFails : Type 0
RunFails =
    (c : Parts) (message places : List ℕ) (n pc : ℕ) (reason : Reason) (site pos : ℕ) (s t : State) (touched : List ℕ) (steps : ℕ) →
    HasEffect c message places n pc s (Fails reason site pos t) touched steps →
    block c message n places pc s ≡ after touched steps (at_once (Failed reason pos (frame c site t reason ∷ []) t.cells))

abbrev pub RunReturns : Type 0
RunReturns =
    (c : Parts) (message places : List ℕ) (n pc : ℕ) (s t : State) (touched : List ℕ) (steps : ℕ) →
    HasEffect c message places n pc s (Returns t) touched steps →
    block c message n places pc s ≡ after touched steps (at_once (Returned t.pos t.cells))

abbrev pub RunTurns : Type 0
RunTurns =
    (c : Parts) (message places : List ℕ) (n pc : ℕ) (s t : State) (touched : List ℕ) (steps : ℕ) →
    HasEffect c message places n pc s (Turns t) touched steps →
    block c message n places pc s ≡ after touched steps (at_once (Turned t))

-- a call of a lower routine, which is not the last instruction
abbrev pub RunCalls : Type 0
RunCalls =
    (c : Parts) (message places : List ℕ) (n pc first m cells site : ℕ) (s t : State) (touched : List ℕ) (steps : ℕ) →
    HasEffect c message places n pc s (Calls first m cells site t) touched steps → pc + 1 < end_of c n → m < n →
    block c message n places pc s ≡
    after touched steps (back c site t (block c message n places (pc + 1))
    (block c message m (places_by places (cells_by c n m cells)) (first_of c m) (entered (routine_of c m) (registers_from t.regs first (routine_of c m).params) t)))

-- a loop of which the body and what follows lie behind its While
abbrev pub RunLoops : Type 0
RunLoops =
    (c : Parts) (message places : List ℕ) (n pc target : ℕ) (s t : State) (touched : List ℕ) (steps : ℕ) →
    HasEffect c message places n pc s (Loops target t) touched steps → pc + 1 < target → target < end_of c n →
    block c message n places pc s ≡ after touched steps (turns (suc (left t)) (block c message n places (pc + 1)) (block c message n places target) t)

-- two stretches, one behind the other
abbrev pub AfterAfter : Type 0
AfterAfter =
    (places more : List ℕ) (steps further : ℕ) (e : Exit) →
    after places steps (after more further e) ≡ after (places ++ more) (steps + further) e
