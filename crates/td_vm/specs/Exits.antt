-- How the machine leaves a stretch of code, as an exit of run; of use in this crate alone.
use Rattle.std.specs.Prelude.{◌≡◌, ℕ, ◌≤◌, List, take, length}
use Rattle.td_vm.specs.Imports.{TraceFrame, Verdict, Accept, Reject, TraceRoom, BlockExit}
use Rattle.td_ir.specs.State.{State, Way, Returned, Turned, Failed, Stuck, Exit, after}
use Rattle.td_vm_step.specs.declared.activation.BlockExit.TheVariants as exit

abbrev pub frames_of : TraceRoom → List TraceFrame
frames_of t = take t.count t.frames.items

abbrev pub exit_by : Way → List ℕ → ℕ → Exit
exit_by way touched steps = record { way = way; touched = touched; steps = steps }

abbrev pub way_of : BlockExit → State → List TraceFrame → Way
way_of exit.Returned s trace = Returned s.pos s.cells
way_of exit.Turned s trace = Turned s
way_of (exit.Failed reason pos) s trace = Failed reason pos trace s.cells

-- the way out of a whole call
abbrev pub call_way : BlockExit → ℕ → List ℕ → List TraceFrame → Way
call_way exit.Returned pos cells trace = Returned pos cells
call_way exit.Turned pos cells trace = Stuck
call_way (exit.Failed reason at) pos cells trace = Failed reason at trace cells

-- the verdict where a whole routine is left so, at this position; it isn't left as a turn is
abbrev pub verdict_by : BlockExit → ℕ → Verdict
verdict_by exit.Returned pos = Accept pos
verdict_by exit.Turned pos = Accept pos
verdict_by (exit.Failed reason at) pos = Reject reason at

-- the exit of a whole loop, which is that of what stands behind it where no turn fails
abbrev pub loop_exit : BlockExit → (State → Exit) → State → List TraceFrame → List ℕ → ℕ → Exit
loop_exit exit.Returned behind s trace touched steps = exit_by (Returned s.pos s.cells) touched steps
loop_exit exit.Turned behind s trace touched steps = after touched steps (behind s)
loop_exit (exit.Failed reason pos) behind s trace touched steps = exit_by (Failed reason pos trace s.cells) touched steps

abbrev pub WhenTurned : BlockExit → Type 0 → Type 0
WhenTurned exit.Returned P = Unit {0}
WhenTurned exit.Turned P = P
WhenTurned (exit.Failed reason pos) P = Unit {0}

abbrev pub WhenReturned : BlockExit → Type 0 → Type 0
WhenReturned exit.Returned P = P
WhenReturned exit.Turned P = Unit {0}
WhenReturned (exit.Failed reason pos) P = Unit {0}

abbrev pub NotTurned : BlockExit → Type 0
NotTurned exit.Returned = Unit {0}
NotTurned exit.Turned = ⊥
NotTurned (exit.Failed reason pos) = Unit {0}

abbrev pub NotReturned : BlockExit → Type 0
NotReturned exit.Returned = ⊥
NotReturned exit.Turned = Unit {0}
NotReturned (exit.Failed reason pos) = Unit {0}

-- a trace with no frame but after a failure, and then with at most n
abbrev pub Traced : BlockExit → TraceRoom → ℕ → Type 0
Traced exit.Returned t n = t.count ≡ 0
Traced exit.Turned t n = t.count ≡ 0
Traced (exit.Failed reason pos) t n = (t.count ≤ n) × (t.count ≤ length t.frames.items)
