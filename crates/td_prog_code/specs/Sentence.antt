-- What the program of a code does (own rule): the sentence about it.
use Rattle.std.specs.Prelude.{◌≡◌, ℕ, ◌+◌, ◌^◌, ◌<◌, List, [], ◌∷◌, length, map, take, drop}
use Rattle.td_num.specs.Lists.{Each, AreBytes}
use Rattle.td_core.specs.declared.module.Entry.{Entry}
use Rattle.td_core.specs.Outcome.{copies_by}
use Rattle.td_stream.specs.declared.load.Load.{Load}
use Rattle.td_stream.specs.Layouts.{plain}
use Rattle.td_stream.specs.Loads.{IsFetchedOnce, Exactly}
use Rattle.td_ir.specs.declared.tables.Parts.{Parts}
use Rattle.td_ir.specs.declared.tables.Routine.{Routine}
use Rattle.td_ir.specs.declared.instructions.Instr.{Instr}
use Rattle.td_ir.specs.declared.instructions.Instr.TheVariants as i
use Rattle.td_ir.specs.Tables.{entry_of, routine_of, set_of}
use Rattle.td_ir.specs.WellFormed.{IsCode}
use Rattle.td_ir.specs.Entries.{Fits, opened_by}
use Rattle.td_ir.specs.State.{Way, Returned, Turned, Failed, Stuck}
use Rattle.td_ir.specs.Run as ir
use Rattle.td_verify.specs.Verify.{IsSound}
use Rattle.td_prog.specs.Tree.{Plays}
use Rattle.td_prog.specs.Means.{Out, Gave, Refused, Undefined}
use Rattle.td_prog.specs.Run.{run}
use Rattle.td_prog_code.specs.Program.{program}

-- the bytes that buffers hold, by two cells for each: where they stood in the message, and how many they are
abbrev pub held : List ℕ → List (List ℕ) → List (List ℕ)
held [] buffers = []
held (place ∷ []) buffers = []
held (place ∷ count ∷ cells) [] = []
held (place ∷ count ∷ cells) (bytes ∷ buffers) = take count bytes ∷ held cells buffers

-- A program's end is that of a code's run on a message, of an entry point with n cells and buffers of these rooms: accepted at a position, with cells and copies; or refused,
-- with reason, position and the innermost 32 frames.
abbrev pub IsEnd : (n : ℕ) → (rooms message : List ℕ) → Out → Way → Type 0
IsEnd n rooms message (Gave value s) (Returned pos cells) =
    (value ≡ pos) × (s.cells ≡ cells) × (map length s.buffers ≡ rooms) × (held (drop n s.cells) s.buffers ≡ copies_by message (drop n cells))
IsEnd n rooms message (Gave value s) (Failed reason pos trace cells) = ⊥
IsEnd n rooms message (Gave value s) (Turned t) = ⊥
IsEnd n rooms message (Gave value s) Stuck = ⊥
IsEnd n rooms message (Refused reason pos trace s) (Returned pos' cells) = ⊥
IsEnd n rooms message (Refused reason pos trace s) (Failed reason' pos' trace' cells) = (reason ≡ reason') × (pos ≡ pos') × (trace ≡ take 32 trace')
IsEnd n rooms message (Refused reason pos trace s) (Turned t) = ⊥
IsEnd n rooms message (Refused reason pos trace s) Stuck = ⊥
IsEnd n rooms message Undefined way = ⊥

-- the rooms of an entry point's buffers
abbrev pub rooms_of : Parts → Entry → List ℕ
rooms_of c entry = (routine_of c (entry_of c entry.number).routine).buffers

-- Numbers in code are those of their types: constants, divisors and the numbers of sets u64, rooms of buffers u32. So it is of all code that a program holds; a contract
-- sees numbers without their types.
abbrev pub HasNumber : Parts → Instr → Type 0
HasNumber c (i.Const into value) = value < 2 ^ 64
HasNumber c (i.Divides size step site) = step < 2 ^ 64
HasNumber c (i.Member into source set) = Each (λ v. v < 2 ^ 64) (set_of c set)
HasNumber c j = Unit {0}

pub record HasNumbers (c : Parts) : Type 0 where
  pub instructions : Each (HasNumber c) c.instructions
  pub rooms : Each (λ (r : Routine). Each (λ v. v < 2 ^ 32) r.buffers) c.routines

-- THE SENTENCE. The program of verified code, run from an entry point over a message of less than 2^32 bytes with arguments and cells that fit, whatever 64 bits each load gives: it ends
-- without doing what C leaves undefined; each word is loaded at most once, in rising order, and only words of the message; and for each list of bytes that carries the loads, the end is that
-- of the code's run on that list, and exactly the words with a byte that this run looks at were loaded. No loop takes more turns than the message has bytes.
abbrev pub ProgramRuns : Type 0
ProgramRuns =
    (c : Parts) (names : ℕ → List ℕ) (entry : Entry) (size most : ℕ) (args cells : List ℕ) (buffers : List (List ℕ)) (loads : List Load) (out : Out) →
    IsCode c → IsSound c → HasNumbers c → Fits c entry args cells → size < 2 ^ 32 → size + 1 < most → map length buffers ≡ rooms_of c entry →
    Plays (run most (program c names) (entry_of c entry.number).routine size args (opened_by c entry cells) buffers) loads out →
    Each (λ (l : Load). l.value < 2 ^ 64) loads →
    IsFetchedOnce (plain size) loads (λ b. AreBytes b →
    IsEnd (length cells) (map length buffers) b out (ir.run c entry args (opened_by c entry cells) b).way
    × Exactly (plain size) loads (ir.run c entry args (opened_by c entry cells) b).touched)
