-- What the C function of an entry point leaves in its caller's variables (own rule). td_prog_text/specs/Entries.antt has its text:
--   bool point_validate_POINT(const uint64_t *words, uint32_t length, uint8_t kind, uint16_t *n, struct point_POINT_name *name, struct td_outcome *outcome)
--   {
--       struct td_run td_run = {words, 0, 0, outcome};
--       uint64_t td_cells[3] = {*n, 0, 0};
--       uint64_t td_position;
--
--       name->count = 0;
--       td_position = td_0_POINT(&td_run, 0, length, kind, &td_cells[0], &td_cells[1], &td_cells[2], name->bytes);
--       if (td_position == TD_FAILED) {
--           return false;
--       }
--       *n = (uint16_t)td_cells[0];
--       name->count = (uint32_t)td_cells[2];
--       outcome->reason = TD_NO_REASON;
--       outcome->position = (uint32_t)td_position;
--       outcome->count = 0;
--       return true;
--   }
use Rattle.std.specs.Prelude.{◌≡◌, ℕ, ◌+◌, ◌-◌, ◌*◌, ◌%◌, ◌^◌, ◌<◌, cond, Bool, true, false, List, [], ◌∷◌, ◌++◌, Option, Some, None, length, map, take, drop, replicate, nat_eq}
use Rattle.td_num.specs.Lists.{Each, AreBytes}
use Rattle.td_core.specs.declared.module.Cell.{Cell}
use Rattle.td_core.specs.declared.module.Entry.{Entry}
use Rattle.td_core.specs.declared.outcome.Reason.{Reason}
use Rattle.td_core.specs.declared.outcome.TraceFrame.{TraceFrame}
use Rattle.td_core.specs.Outcome.{copies_by}
use Rattle.td_stream.specs.declared.load.Load.{Load}
use Rattle.td_stream.specs.Layouts.{plain}
use Rattle.td_stream.specs.Loads.{IsFetchedOnce, Exactly}
use Rattle.td_ir.specs.declared.tables.Parts.{Parts}
use Rattle.td_ir.specs.declared.tables.EntryPoint.{EntryPoint}
use Rattle.td_ir.specs.Tables.{entry_of}
use Rattle.td_ir.specs.WellFormed.{IsCode}
use Rattle.td_ir.specs.Entries.{Fits, cell_bits, opened_by}
use Rattle.td_ir.specs.State.{Way, Returned, Turned, Failed, Stuck}
use Rattle.td_ir.specs.Run as ir
use Rattle.td_verify.specs.Verify.{IsSound}
use Rattle.td_prog.specs.Tree.{Tree, Done, bind, Plays}
use Rattle.td_prog.specs.Means.{Out, Gave, Refused, Undefined}
use Rattle.td_prog.specs.Run.{run}
use Rattle.td_prog_code.specs.Program.{program}
use Rattle.td_prog_code.specs.Sentence.{HasNumbers, rooms_of}

-- `struct point_POINT_name`: `name->count`, `name->bytes`
pub record CallerBuffer : Type 0 where
  pub count : ℕ
  pub bytes : List ℕ

-- `struct td_outcome`: `outcome->reason` (None is TD_NO_REASON), `outcome->position`, and of `outcome->frame` the first `outcome->count`
pub record CallerOutcome : Type 0 where
  pub reason : Option Reason
  pub position : ℕ
  pub frames : List TraceFrame

-- a caller's variables: `*n` and the members of records, in the order of the entry point's cells; its buffers; its outcome
pub record Caller : Type 0 where
  pub cells : List ℕ
  pub buffers : List CallerBuffer
  pub outcome : CallerOutcome

-- what the function returns, with its caller's variables as they then are; or it has done what C leaves undefined
pub data Answer : Type 0 where
  Answered : (accepted : Bool) → Caller → Answer
  Lost : Answer

-- `*n = (uint16_t)td_cells[0];`, and so for each cell, by its width
abbrev pub narrowed : List Cell → List ℕ → List ℕ
narrowed [] values = []
narrowed (cell ∷ cells) [] = []
narrowed (cell ∷ cells) (value ∷ values) = value % 2 ^ cell_bits cell.kind ∷ narrowed cells values

-- `name->count = (uint32_t)td_cells[2];`, and so for each buffer, by the second of its two cells; `name->count = 0;`
abbrev pub counted : List ℕ → List (List ℕ) → List CallerBuffer
counted [] buffers = []
counted (place ∷ []) buffers = []
counted (place ∷ count ∷ cells) [] = []
counted (place ∷ count ∷ cells) (bytes ∷ buffers) = record { count = count % 2 ^ 32; bytes = bytes } ∷ counted cells buffers

abbrev pub emptied : List (List ℕ) → List CallerBuffer
emptied buffers = map (λ bytes. record { count = 0; bytes = bytes }) buffers

-- After the call of the routine. A routine that returns the number TD_FAILED is undefined, as for its callers.
abbrev pub answer_to : EntryPoint → Caller → Out → Answer
answer_to e before (Gave value s) =
    cond (nat_eq value (2 ^ 64 - 1)) Lost
    (Answered true
    (record {
      cells = narrowed e.cells s.cells;
      buffers = counted (drop (length e.cells) s.cells) s.buffers;
      outcome = record { reason = None; position = value % 2 ^ 32; frames = [] };
    }))
answer_to e before (Refused reason pos trace s) =
    Answered false (record { cells = before.cells; buffers = emptied s.buffers; outcome = record { reason = Some reason; position = pos; frames = trace } })
answer_to e before Undefined = Lost

-- the bytes of a caller's buffers
abbrev pub bytes_of : List CallerBuffer → List (List ℕ)
bytes_of buffers = map (λ (b : CallerBuffer). b.bytes) buffers

-- the function of entry point k, called with a message of so many bytes, arguments, and its caller's variables; where each loop takes at most so many turns
abbrev pub entry_run : (most : ℕ) → Parts → (names : ℕ → List ℕ) → (k size : ℕ) → (args : List ℕ) → Caller → Tree Answer
entry_run most c names k size args before =
    bind
    (run most (program c names) (entry_of c k).routine size args (before.cells ++ replicate (2 * length (entry_of c k).buffers) 0) (bytes_of before.buffers))
    (λ out. Done (answer_to (entry_of c k) before out))

-- What the caller is told of a code's run. An accepted message: the position, the cells by their widths, and in each buffer as many of the message's bytes as its count
-- says. A rejected one: the reason, the position and the frames; cells are as they were, and counts 0.
abbrev pub IsTold : EntryPoint → Caller → (message : List ℕ) → Answer → Way → Type 0
IsTold e before message (Answered accepted now) (Returned pos cells) =
    (accepted ≡ true) × (now.outcome ≡ record { reason = None; position = pos; frames = [] }) × (now.cells ≡ narrowed e.cells cells)
    × (map (λ (b : CallerBuffer). take b.count b.bytes) now.buffers ≡ copies_by message (drop (length e.cells) cells))
IsTold e before message (Answered accepted now) (Failed reason pos trace cells) =
    (accepted ≡ false) × (now.outcome ≡ record { reason = Some reason; position = pos; frames = trace }) × (now.cells ≡ before.cells) × Each (λ (b : CallerBuffer). b.count ≡ 0) now.buffers
IsTold e before message (Answered accepted now) (Turned t) = ⊥
IsTold e before message (Answered accepted now) Stuck = ⊥
IsTold e before message Lost way = ⊥

-- THE SENTENCE at the border to C: the function of an entry point, called with arguments and cells of their types and buffers of their rooms, tells its caller what the code's run tells; the
-- rest as in ProgramRuns.
abbrev pub EntryRuns : Type 0
EntryRuns =
    (c : Parts) (names : ℕ → List ℕ) (entry : Entry) (size most : ℕ) (args : List ℕ) (before : Caller) (loads : List Load) (answer : Answer) →
    IsCode c → IsSound c → HasNumbers c → Fits c entry args before.cells → size < 2 ^ 32 → size + 1 < most → map length (bytes_of before.buffers) ≡ rooms_of c entry →
    Plays (entry_run most c names entry.number size args before) loads answer →
    Each (λ (l : Load). l.value < 2 ^ 64) loads →
    IsFetchedOnce (plain size) loads (λ b. AreBytes b →
    IsTold (entry_of c entry.number) before b answer (ir.run c entry args (opened_by c entry before.cells) b).way
    × Exactly (plain size) loads (ir.run c entry args (opened_by c entry before.cells) b).touched)
