-- What the program of a module's code tells its caller (own rule).
use Rattle.std.specs.Prelude.{◌≡◌, ℕ, ◌+◌, ◌^◌, ◌<◌, List, length, map, take, drop}
use Rattle.td_num.specs.Lists.{Each, AreBytes}
use Rattle.td_core.specs.declared.module.Module.{Module}
use Rattle.td_core.specs.declared.module.Entry.{Entry}
use Rattle.td_core.specs.declared.outcome.Outcome.{Outcome}
use Rattle.td_core.specs.declared.outcome.Verdict.TheVariants.{Accept, Reject}
use Rattle.td_fetch.specs.Outcomes.{IsMeant}
use Rattle.td_stream.specs.declared.load.Load.{Load}
use Rattle.td_stream.specs.declared.stretch.Stretch.{Stretch}
use Rattle.td_stream.specs.Layouts.{plain, length_in}
use Rattle.td_stream.specs.Loads.{IsFetchedOnce, Exactly}
use Rattle.td_ir.specs.declared.tables.Parts.{Parts}
use Rattle.td_ir.specs.Tables.{entry_of}
use Rattle.td_ir.specs.Entries.{Fits, opened_by}
use Rattle.td_ir.specs.WellFormed.{IsCode}
use Rattle.td_ir.specs.Run as ir
use Rattle.td_verify.specs.Verify.{IsSound}
use Rattle.td_front.specs.ModuleText.{IsModuleText}
use Rattle.td_image.specs.Answer.{IsImage}
use Rattle.td_code.specs.Compile.{IsCodeFor, IsImageOf}
use Rattle.td_prog.specs.Tree.{Plays}
use Rattle.td_prog.specs.Means.{Out, Gave, Refused, Undefined}
use Rattle.td_prog.specs.Run.{run}
use Rattle.td_prog.specs.Pieces.{run_in}
use Rattle.td_prog_code.specs.Program.{program}
use Rattle.td_prog_code.specs.PartsPrelude.{parts_program}
use Rattle.td_prog_code.specs.Sentence.{held, IsEnd, rooms_of, HasNumbers}

-- What the C program's caller is told of an outcome, of an entry point with n cells. Of an accepted message: the position behind it, cells, and copies,
-- each as many bytes as its count says. Of a
-- rejected one: reason, position, and the innermost 32 frames; cells and buffers aren't spoken of.
abbrev pub Tells : (n : ℕ) → Out → Outcome → Type 0
Tells n (Gave value s) outcome = (outcome.verdict ≡ Accept value) × (take n s.cells ≡ outcome.cells) × (held (drop n s.cells) s.buffers ≡ outcome.copies)
Tells n (Refused reason pos trace s) outcome = (outcome.verdict ≡ Reject reason pos) × (trace ≡ take 32 outcome.trace)
Tells n Undefined outcome = ⊥

-- The program of a code, over a message of less than 2^32 bytes, with arguments and cells that fit the entry point, whatever 64 bits each load gives: it
-- ends
-- without doing what C doesn't define; each word is loaded at most once, in rising order, and only words of the message; and for each list of bytes that
-- carries the loads, it tells the outcome
-- that the 3D module gives that list, and exactly the words with a byte that this meaning reads were loaded.
abbrev pub TellsWhatIsMeant : Parts → Module → Type 0
TellsWhatIsMeant c m =
    (names : ℕ → List ℕ) (entry : Entry) (size most : ℕ) (args cells : List ℕ) (buffers : List (List ℕ)) (loads : List Load) (out : Out) →
    Fits c entry args cells → size < 2 ^ 32 → size + 1 < most → map length buffers ≡ rooms_of c entry →
    Plays (run most (program c names) (entry_of c entry.number).routine size args (opened_by c entry cells) buffers) loads out →
    Each (λ (l : Load). l.value < 2 ^ 64) loads →
    IsFetchedOnce (plain size) loads
    (λ b. AreBytes b → (outcome : Outcome) × IsMeant (plain size) m entry args cells b loads outcome × Tells (length cells) out outcome)

-- The same over a message of less than 2^32 bytes that lies in any pieces, of the program that is written for these.
abbrev pub TellsInParts : Parts → Module → Type 0
TellsInParts c m =
    (names : ℕ → List ℕ) (entry : Entry) (layout : List Stretch) (most : ℕ) (args cells : List ℕ) (buffers : List (List ℕ)) (loads : List Load) (out : Out) →
    Fits c entry args cells → length_in layout < 2 ^ 32 → length_in layout + 1 < most → map length buffers ≡ rooms_of c entry →
    Plays (run_in layout most (parts_program c names) (entry_of c entry.number).routine args (opened_by c entry cells) buffers) loads out →
    Each (λ (l : Load). l.value < 2 ^ 64) loads →
    IsFetchedOnce layout loads (λ b. AreBytes b → (outcome : Outcome) × IsMeant layout m entry args cells b loads outcome × Tells (length cells) out outcome)

-- So does the program of code that is written of a module.
abbrev pub DoesInC : Type 0
DoesInC = (c : Parts) (m : Module) → IsCode c → IsCodeFor c m → HasNumbers c → TellsWhatIsMeant c m

abbrev pub DoesInParts : Type 0
DoesInParts = (c : Parts) (m : Module) → IsCode c → IsCodeFor c m → HasNumbers c → TellsInParts c m

-- So does the program of code that is read of the image of a module's text.
abbrev pub ImagesDoInC : Type 0
ImagesDoInC =
    (text bytes : List ℕ) (c : Parts) → IsImageOf text bytes → IsImage c bytes → (m : Module) × IsModuleText text m × TellsWhatIsMeant c m

abbrev pub ImagesDoInParts : Type 0
ImagesDoInParts =
    (text bytes : List ℕ) (c : Parts) → IsImageOf text bytes → IsImage c bytes → (m : Module) × IsModuleText text m × TellsInParts c m

-- The program of code that is read of any image, and that the verifier accepts, does what the code does.
abbrev pub ImagesRunInC : Type 0
ImagesRunInC =
    (bytes : List ℕ) (c : Parts) (names : ℕ → List ℕ) (entry : Entry) (size most : ℕ) (args cells : List ℕ) (buffers : List (List ℕ)) (loads : List Load)
    (out : Out) →
    IsImage c bytes → IsSound c → Fits c entry args cells → size < 2 ^ 32 → size + 1 < most → map length buffers ≡ rooms_of c entry →
    Plays (run most (program c names) (entry_of c entry.number).routine size args (opened_by c entry cells) buffers) loads out →
    Each (λ (l : Load). l.value < 2 ^ 64) loads →
    IsFetchedOnce (plain size) loads (λ b. AreBytes b →
    IsEnd (length cells) (map length buffers) b out (ir.run c entry args (opened_by c entry cells) b).way
    × Exactly (plain size) loads (ir.run c entry args (opened_by c entry cells) b).touched)
