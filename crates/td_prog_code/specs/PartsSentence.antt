-- What the program of a code does over a message in pieces (own rule): the sentence about it.
use Rattle.std.specs.Prelude.{◌≡◌, ℕ, ◌+◌, ◌^◌, ◌<◌, List, length, map}
use Rattle.td_num.specs.Lists.{Each, AreBytes}
use Rattle.td_core.specs.declared.module.Entry.{Entry}
use Rattle.td_stream.specs.declared.load.Load.{Load}
use Rattle.td_stream.specs.declared.stretch.Stretch.{Stretch}
use Rattle.td_stream.specs.Layouts.{length_in}
use Rattle.td_stream.specs.Loads.{IsFetchedOnce, Exactly}
use Rattle.td_ir.specs.declared.tables.Parts.{Parts}
use Rattle.td_ir.specs.Tables.{entry_of}
use Rattle.td_ir.specs.WellFormed.{IsCode}
use Rattle.td_ir.specs.Entries.{Fits, opened_by}
use Rattle.td_ir.specs.Run as ir
use Rattle.td_verify.specs.Verify.{IsSound}
use Rattle.td_prog.specs.Tree.{Plays}
use Rattle.td_prog.specs.Means.{Out}
use Rattle.td_prog.specs.Pieces.{run_in}
use Rattle.td_prog_code.specs.Sentence.{IsEnd, rooms_of, HasNumbers}
use Rattle.td_prog_code.specs.PartsPrelude.{parts_program}

-- As ProgramRuns, over a message of less than 2^32 bytes that lies in any pieces: the program that is written for pieces does nothing that C leaves undefined, and ends; each message word is
-- loaded at most once, in rising order, and only words of the message; and for each list of bytes that carries the loads, the end is that of the code's run on that list, and exactly the words
-- with a byte that this run looks at were loaded.
abbrev pub ProgramRunsInParts : Type 0
ProgramRunsInParts =
    (c : Parts) (names : ℕ → List ℕ) (entry : Entry) (layout : List Stretch) (most : ℕ) (args cells : List ℕ) (buffers : List (List ℕ)) (loads : List Load) (out : Out) →
    IsCode c → IsSound c → HasNumbers c → Fits c entry args cells → length_in layout < 2 ^ 32 → length_in layout + 1 < most → map length buffers ≡ rooms_of c entry →
    Plays (run_in layout most (parts_program c names) (entry_of c entry.number).routine args (opened_by c entry cells) buffers) loads out →
    Each (λ (l : Load). l.value < 2 ^ 64) loads →
    IsFetchedOnce layout loads (λ b. AreBytes b →
    IsEnd (length cells) (map length buffers) b out (ir.run c entry args (opened_by c entry cells) b).way
    × Exactly layout loads (ir.run c entry args (opened_by c entry cells) b).touched)
