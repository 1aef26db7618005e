-- Laws of runs of verified code (own rule; docs/language/code.md).
use Rattle.std.specs.Prelude.{◌≡◌, ℕ, ◌+◌, ◌*◌, ◌<◌, ◌≤◌, List, length}
use Rattle.td_core.specs.declared.module.Entry.{Entry}
use Rattle.td_verify_runs.specs.Imports.{Parts, While}
use Rattle.td_ir.specs.Tables.{entry_of, end_of}
use Rattle.td_ir.specs.State.{State, Way, Returned, Turned, Failed, Stuck}
use Rattle.td_ir.specs.Run.{block, run_routine, run}
use Rattle.td_ir.specs.WellFormed.{IsCode}
use Rattle.td_verify.specs.Shape.{shapes_of}
use Rattle.td_verify.specs.Brackets.{shape_at}
use Rattle.td_verify.specs.Verify.{IsIn, IsSound}
use Rattle.td_verify.specs.Safe.{before}

-- the weight of routine n, and of an entry point: that of its routine
abbrev pub weight : Parts → ℕ → ℕ
weight c n = before c n (end_of c n)

abbrev pub entry_weight : Parts → Entry → ℕ
entry_weight c entry = weight c (entry_of c entry.number).routine

-- A run of verified code from one of its entry points takes no more steps than the entry point weighs, for each byte of the message and once
-- more. The steps are those of the definition `run`.
abbrev pub RunIsBounded : Type 0
RunIsBounded =
    (c : Parts) (entry : Entry) (args cells message : List ℕ) → IsCode c → IsSound c → entry.number < length c.entries →
    (run c entry args cells message).steps ≤ entry_weight c entry * (length message + 1)

-- an answer: it returns or fails
abbrev pub IsAnswer : Way → Type 0
IsAnswer (Returned pos cells) = Unit {0}
IsAnswer (Turned t) = ⊥
IsAnswer (Failed reason pos trace cells) = Unit {0}
IsAnswer Stuck = ⊥

-- A run of a routine of verified code comes to an answer.
abbrev pub RunAnswers : Type 0
RunAnswers =
    (c : Parts) (n : ℕ) (args cells message : List ℕ) → IsCode c → IsSound c → n < length c.routines →
    IsAnswer (run_routine c n args cells message).way

-- A run of a routine of verified code that returns has not passed the message's end.
abbrev pub RunStaysWithin : Type 0
RunStaysWithin =
    (c : Parts) (n : ℕ) (args cells message : List ℕ) (pos : ℕ) (out : List ℕ) → IsCode c → IsSound c → n < length c.routines →
    (run_routine c n args cells message).way ≡ Returned pos out → pos ≤ length message

-- A turn of a loop of verified code that is left at its end has taken a byte, and leaves the end of the window as it was.
abbrev pub TurnTakes : Type 0
TurnTakes =
    (c : Parts) (message places : List ℕ) (n at behind : ℕ) (s t : State) → IsCode c → IsSound c → IsIn c n at → shape_at (shapes_of c) at ≡ While behind →
    s.pos ≤ s.end → s.end ≤ s.outer → (block c message n places (at + 1) s).way ≡ Turned t →
    (s.pos < t.pos) × (t.end ≡ s.end)
