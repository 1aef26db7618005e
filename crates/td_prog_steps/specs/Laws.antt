-- What the program of a code does on memory that stays (own rule).
use Rattle.std.specs.Prelude.{◌≡◌, ℕ, ◌+◌, ◌^◌, ◌<◌, List, length, map}
use Rattle.td_num.specs.Lists.{Each}
use Rattle.td_ir.specs.declared.tables.Parts.{Parts}
use Rattle.td_ir.specs.Tables.{routine_of}
use Rattle.td_ir.specs.Run.{run_routine}
use Rattle.td_prog.specs.Means.{Helpers}
use Rattle.td_prog.specs.Run.{routines_over, run_from}
use Rattle.td_prog_code.specs.Program.{functions}
use Rattle.td_prog_trees.specs.Readers.{IsReader}
use Rattle.td_prog_trees.specs.Agree.{Numbering, Basis, IsKept, Agrees}
use Rattle.td_prog_steps.specs.Laid.{IsWellLaid}

-- what a run of routine n stands on, with these buffers
abbrev pub basis_of : Parts → ℕ → List ℕ → List (List ℕ) → Basis
basis_of c n message buffers = record { lengths = map length buffers; first = (routine_of c n).cells; message = message }

-- The functions of code that is laid well, with helpers that read the message, run from one of its routines on memory that stays, agree with the code's run on the message: the same
-- answer, and just the words of the places at which that run looks are loaded, each once.
abbrev pub ProgramAgrees : Type 0
ProgramAgrees =
    (numbering : Numbering) (memory : ℕ → ℕ) (c : Parts) (names : ℕ → List ℕ) (helpers : Helpers) (message : List ℕ) (most n : ℕ) (args cells : List ℕ) (buffers : List (List ℕ)) →
    IsReader numbering memory (basis_of c n message buffers) most helpers → length message < 2 ^ 32 → length message + 1 < most → IsWellLaid c → n < length c.routines → map length buffers ≡
    (routine_of c n).buffers →
    IsKept (basis_of c n message buffers) cells buffers → Each (λ v. v < 2 ^ 64) args → Each (λ v. v < 2 ^ 64) cells →
    Agrees (record { memory = memory; numbering = numbering; basis = basis_of c n message buffers; from = 0; to = length message }) 0
    (run_from (routines_over helpers most (functions c names 0 (length c.routines)) (length (functions c names 0 (length c.routines)))) n (length message) args cells buffers)
    (run_routine c n args cells message)
