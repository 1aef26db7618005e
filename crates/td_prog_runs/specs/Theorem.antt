-- What the program of a code does, run from a routine, whatever memory gives to its loads (own rule).
use Rattle.std.specs.Prelude.{◌≡◌, ℕ, ◌+◌, ◌*◌, ◌^◌, ◌<◌, List, length, map, take, slice_index}
use Rattle.td_num.specs.Lists.{Each, AreBytes}
use Rattle.td_stream.specs.declared.load.Load.{Load}
use Rattle.td_stream.specs.declared.stretch.Stretch.{Stretch}
use Rattle.td_stream.specs.Layouts.{plain, length_in}
use Rattle.td_stream.specs.Loads.{IsFetchedOnce, Exactly}
use Rattle.td_ir.specs.declared.tables.Parts.{Parts}
use Rattle.td_ir.specs.Tables.{routine_of}
use Rattle.td_ir.specs.State.{Way, Returned, Turned, Failed, Stuck}
use Rattle.td_ir.specs.Run.{run_routine}
use Rattle.td_ir.specs.WellFormed.{IsCode}
use Rattle.td_verify.specs.Verify.{IsSound}
use Rattle.td_verify_runs.specs.Laws.{IsAnswer}
use Rattle.td_prog.specs.Tree.{Plays}
use Rattle.td_prog.specs.Means.{Out, Gave, Refused, Undefined}
use Rattle.td_prog.specs.Run.{free_run}
use Rattle.td_prog.specs.Pieces.{free_run_in}
use Rattle.td_prog_code.specs.Program.{program}
use Rattle.td_prog_code.specs.PartsPrelude.{parts_program}
use Rattle.td_prog_trees.specs.Agree.{Basis, IsKept}
use Rattle.td_prog_steps.specs.Laid.{IsWellLaid, AreNumbers}
use Rattle.td_prog_steps.specs.Laws.{basis_of}

-- a run of a program from outside: the names of its functions, how many turns a loop may take, the routine, how long the message is, arguments, cells and
-- buffers
pub record Start : Type 0 where
  pub names : ℕ → List ℕ
  pub limit : ℕ
  pub routine : ℕ
  pub size : ℕ
  pub args : List ℕ
  pub cells : List ℕ
  pub buffers : List (List ℕ)

-- so many buffers hold nothing at first
abbrev pub AreEmpty : (first count : ℕ) → List ℕ → Type 0
AreEmpty first count cells = (b : ℕ) → b < count → slice_index cells (first + 2 * b + 1) ≡ 0

-- it fits the code: there is such a routine, the message is short and loops may take more turns than it has bytes, arguments and cells have 64 bits, and
-- buffers are the routine's and hold nothing
pub record IsStart (c : Parts) (start : Start) : Type 0 where
  pub there : start.routine < length c.routines
  pub short : start.size < 2 ^ 32
  pub enough : start.size + 1 < start.limit
  pub rooms : map length start.buffers ≡ (routine_of c start.routine).buffers
  pub many : length start.cells ≡ (routine_of c start.routine).cells + 2 * length (routine_of c start.routine).buffers
  pub empty : AreEmpty (routine_of c start.routine).cells (length (routine_of c start.routine).buffers) start.cells
  pub args : Each (λ v. v < 2 ^ 64) start.args
  pub cells : Each (λ v. v < 2 ^ 64) start.cells

-- the program is left as the code is, and its buffers hold what they should
abbrev pub IsLeftBy : Basis → Out → Way → Type 0
IsLeftBy basis (Gave v s) (Returned pos cells) = (v ≡ pos) × (s.cells ≡ cells) × IsKept basis s.cells s.buffers
IsLeftBy basis (Gave v s) (Turned t) = ⊥
IsLeftBy basis (Gave v s) (Failed reason pos trace cells) = ⊥
IsLeftBy basis (Gave v s) Stuck = ⊥
IsLeftBy basis (Refused reason pos trace s) (Returned pos' cells) = ⊥
IsLeftBy basis (Refused reason pos trace s) (Turned t) = ⊥
IsLeftBy basis (Refused reason pos trace s) (Failed reason' pos' trace' cells) =
    (reason ≡ reason') × (pos ≡ pos') × (trace ≡ take 32 trace') × (s.cells ≡ cells)
IsLeftBy basis (Refused reason pos trace s) Stuck = ⊥
IsLeftBy basis Undefined w = ⊥

-- how the code's run on a message is left
abbrev pub way_on : Parts → Start → List ℕ → Way
way_on c start message = (run_routine c start.routine start.args start.cells message).way

-- Over memory that gives any words to its loads, the program does nothing undefined and ends; each word is loaded at most once, in rising order, and within
-- the message; and on each list of bytes that
-- carries the loads the program is left as the code's run is, and exactly the words of the bytes at which that run looks were loaded.
abbrev pub RunsAsCode : Parts → Start → Type 0
RunsAsCode c start =
    (loads : List Load) (out : Out) →
    Plays (free_run start.limit (program c start.names) start.routine start.size start.args start.cells start.buffers) loads out →
    Each (λ (l : Load). l.value < 2 ^ 64) loads →
    IsFetchedOnce (plain start.size) loads (λ b. AreBytes b →
    IsLeftBy (basis_of c start.routine b start.buffers) out (way_on c start b)
    × Exactly (plain start.size) loads (run_routine c start.routine start.args start.cells b).touched)

-- The same over a message that lies in pieces, of the program that is written for these.
abbrev pub RunsInParts : List Stretch → Parts → Start → Type 0
RunsInParts layout c start =
    (loads : List Load) (out : Out) →
    Plays (free_run_in layout start.limit (parts_program c start.names) start.routine start.args start.cells start.buffers) loads out →
    Each (λ (l : Load). l.value < 2 ^ 64) loads →
    IsFetchedOnce layout loads (λ b. AreBytes b →
    IsLeftBy (basis_of c start.routine b start.buffers) out (way_on c start b)
    × Exactly layout loads (run_routine c start.routine start.args start.cells b).touched)

-- So does the program of code that is laid well and whose run comes to an answer,
abbrev pub CodeInC : Type 0
CodeInC =
    (c : Parts) (start : Start) → IsWellLaid c → IsStart c start →
    ((b : List ℕ) → length b ≡ start.size → AreBytes b → IsAnswer (way_on c start b)) → RunsAsCode c start

abbrev pub CodeInParts : Type 0
CodeInParts =
    (c : Parts) (start : Start) (layout : List Stretch) → start.size ≡ length_in layout → IsWellLaid c → IsStart c start →
    ((b : List ℕ) → length b ≡ start.size → AreBytes b → IsAnswer (way_on c start b)) → RunsInParts layout c start

-- and that of code which the verifier accepts.
abbrev pub SoundCodeInC : Type 0
SoundCodeInC = (c : Parts) (start : Start) → IsCode c → IsSound c → AreNumbers c → IsStart c start → RunsAsCode c start

abbrev pub SoundCodeInParts : Type 0
SoundCodeInParts =
    (c : Parts) (start : Start) (layout : List Stretch) → start.size ≡ length_in layout → IsCode c → IsSound c → AreNumbers c → IsStart c start →
    RunsInParts layout c start
