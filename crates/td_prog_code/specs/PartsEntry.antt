-- What the C function of an entry point for messages in pieces leaves in its caller's variables (own rule). Its text differs from that in Entry by the caller's table:
--   bool point_validate_POINT_parts(const struct td_piece *td_pieces, uint32_t td_count, uint8_t kind, uint16_t *n, struct point_POINT_name *name, struct td_outcome *outcome)
--   {
--       struct td_run td_run = {td_pieces, 0, 0, outcome};
--       uint64_t td_cells[3] = {*n, 0, 0};
--       uint64_t td_length = td_length_in(td_pieces, td_count);
--       uint64_t td_position;
--
--       name->count = 0;
--       if (td_length >> 32) {
--           outcome->reason = TD_NO_REASON;
--           outcome->position = 0;
--           outcome->count = 0;
--           return false;
--       }
--       td_position = td_0_POINT(&td_run, 0, td_length, kind, &td_cells[0], &td_cells[1], &td_cells[2], name->bytes);
--       ..
use Rattle.std.specs.Prelude.{◌≡◌, ℕ, ◌+◌, ◌*◌, ◌^◌, ◌<◌, List, [], ◌++◌, None, cond, false, length, map, nat_lt, replicate}
use Rattle.td_num.specs.Lists.{Each, AreBytes}
use Rattle.td_core.specs.declared.module.Entry.{Entry}
use Rattle.td_stream.specs.declared.load.Load.{Load}
use Rattle.td_stream.specs.declared.stretch.Stretch.{Stretch}
use Rattle.td_stream.specs.Layouts.{length_in}
use Rattle.td_stream.specs.Loads.{IsFetchedOnce, Exactly}
use Rattle.td_ir.specs.declared.tables.Parts.{Parts}
use Rattle.td_ir.specs.Tables.{entry_of}
use Rattle.td_ir.specs.WellFormed.{IsCode}
use Rattle.td_ir.specs.Entries.{Fits, opened_by}
use Rattle.td_ir.specs.Run as ir
use Rattle.td_verify.specs.Verify.{IsSound}
use Rattle.td_prog.specs.Tree.{Tree, Done, bind, Plays}
use Rattle.td_prog.specs.Pieces.{run_in}
use Rattle.td_prog_code.specs.PartsPrelude.{parts_program}
use Rattle.td_prog_code.specs.Sentence.{HasNumbers, rooms_of}
use Rattle.td_prog_code.specs.Entry.{Caller, Answer, Answered, answer_to, bytes_of, emptied, IsTold}

-- pieces of 2^32 bytes or more are refused, without a reason
abbrev pub too_long : Caller → Answer
too_long before =
    Answered false (record { cells = before.cells; buffers = emptied (bytes_of before.buffers); outcome = record { reason = None; position = 0; frames = [] } })

-- the function of entry point k for messages in pieces, called with pieces that lie so
abbrev pub entry_run_in : List Stretch → (most : ℕ) → Parts → (names : ℕ → List ℕ) → (k : ℕ) → (args : List ℕ) → Caller → Tree Answer
entry_run_in layout most c names k args before =
    cond (nat_lt (length_in layout) (2 ^ 32))
    (bind
    (run_in layout most (parts_program c names) (entry_of c k).routine args (before.cells ++ replicate (2 * length (entry_of c k).buffers) 0) (bytes_of before.buffers))
    (λ out. Done (answer_to (entry_of c k) before out)))
    (Done (too_long before))

-- As EntryRuns, over a message of less than 2^32 bytes that lies in any pieces.
abbrev pub EntryRunsInParts : Type 0
EntryRunsInParts =
    (c : Parts) (names : ℕ → List ℕ) (entry : Entry) (layout : List Stretch) (most : ℕ) (args : List ℕ) (before : Caller) (loads : List Load) (answer : Answer) →
    IsCode c → IsSound c → HasNumbers c → Fits c entry args before.cells → length_in layout < 2 ^ 32 → length_in layout + 1 < most → map length (bytes_of before.buffers) ≡ rooms_of c entry →
    Plays (entry_run_in layout most c names entry.number args before) loads answer →
    Each (λ (l : Load). l.value < 2 ^ 64) loads →
    IsFetchedOnce layout loads (λ b. AreBytes b →
    IsTold (entry_of c entry.number) before b answer (ir.run c entry args (opened_by c entry before.cells) b).way
    × Exactly layout loads (ir.run c entry args (opened_by c entry before.cells) b).touched)
