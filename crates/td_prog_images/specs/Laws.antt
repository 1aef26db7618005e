-- What holds of the C of images, whoever made them, and of module texts (own rule): what the laws of td_prog_laws and td_prog_runs ask of names and numbers,
-- the format of images has.
use Rattle.std.specs.Prelude.{◌≡◌, ℕ, ◌+◌, ◌^◌, ◌<◌, List, length, map}
use Rattle.td_num.specs.Lists.{Each, AreBytes}
use Rattle.td_core.specs.declared.module.Module.{Module}
use Rattle.td_core.specs.declared.module.Entry.{Entry}
use Rattle.td_stream.specs.declared.load.Load.{Load}
use Rattle.td_stream.specs.declared.stretch.Stretch.{Stretch}
use Rattle.td_stream.specs.Layouts.{length_in}
use Rattle.td_stream.specs.Loads.{IsFetchedOnce, Exactly}
use Rattle.td_ir.specs.declared.tables.Parts.{Parts}
use Rattle.td_ir.specs.Tables.{entry_of}
use Rattle.td_ir.specs.Entries.{Fits, opened_by}
use Rattle.td_ir.specs.WellFormed.{IsCode}
use Rattle.td_ir.specs.Run as ir
use Rattle.td_verify.specs.Verify.{IsSound}
use Rattle.td_front.specs.ModuleText.{IsModuleText}
use Rattle.td_image.specs.Answer.{IsImage}
use Rattle.td_code.specs.Compile.{IsCodeFor}
use Rattle.td_prog.specs.Text.{IsText}
use Rattle.td_prog.specs.Tree.{Plays}
use Rattle.td_prog.specs.Means.{Out}
use Rattle.td_prog.specs.Pieces.{run_in}
use Rattle.td_prog_code.specs.Program.{program}
use Rattle.td_prog_code.specs.PartsPrelude.{parts_program}
use Rattle.td_prog_code.specs.Sentence.{IsEnd, rooms_of}
use Rattle.td_prog_text.specs.Names.{routine_name}
use Rattle.td_prog_laws.specs.PartsText.{IsPartsText}

-- the programs of this code, with functions named as the text names them, are text
pub record IsCText (c : Parts) : Type 0 where
  pub plain : IsText c.names (program c (routine_name c))
  pub in_parts : IsPartsText c.names (parts_program c (routine_name c))

-- The programs of code that is read of any image, and that the verifier accepts, are text.
abbrev pub ImagesAreText : Type 0
ImagesAreText = (bytes : List ℕ) (c : Parts) → IsImage c bytes → IsSound c → IsCText c

-- So are those of the code of a module for which a text stands, whose length is a number of 32 bits.
abbrev pub TextsAreText : Type 0
TextsAreText = (text : List ℕ) (m : Module) (c : Parts) → length text < 2 ^ 32 → IsModuleText text m → IsCode c → IsCodeFor c m → IsCText c

-- The program for messages in pieces, of code that is read of any image and that the verifier accepts, does what the code does.
abbrev pub ImagesRunInParts : Type 0
ImagesRunInParts =
    (bytes : List ℕ) (c : Parts) (names : ℕ → List ℕ) (entry : Entry) (layout : List Stretch) (most : ℕ) (args cells : List ℕ) (buffers : List (List ℕ)) (loads : List Load)
    (out : Out) →
    IsImage c bytes → IsSound c → Fits c entry args cells → length_in layout < 2 ^ 32 → length_in layout + 1 < most → map length buffers ≡ rooms_of c entry →
    Plays (run_in layout most (parts_program c names) (entry_of c entry.number).routine args (opened_by c entry cells) buffers) loads out →
    Each (λ (l : Load). l.value < 2 ^ 64) loads →
    IsFetchedOnce layout loads (λ b. AreBytes b →
    IsEnd (length cells) (map length buffers) b out (ir.run c entry args (opened_by c entry cells) b).way
    × Exactly layout loads (ir.run c entry args (opened_by c entry cells) b).touched)
