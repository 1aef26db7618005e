-- The C of a module (own rule; docs/written-c.md).
use Rattle.std.specs.Prelude.{◌≡◌, ℕ, List, ◌++◌, codes, decimal}
use Rattle.td_core.specs.declared.module.Module.{Module}
use Rattle.td_ir.specs.declared.tables.Parts.{Parts}
use Rattle.td_code.specs.Compile.{IsCodeFor}
use Rattle.td_prog_means.specs.Laws.{TellsWhatIsMeant, TellsInParts}
use Rattle.td_prog_text.specs.Files.{c_file, header}
use Rattle.td_prog_stack.specs.Depth.{functions_deep, variables_deep}
use Rattle.td_prog_text.specs.Parts.{parts_file}

-- there is a code that is written of the module, whose program tells what the module means, and the bytes are those of a file of that code
pub record IsFileOf (file : Parts → List ℕ) (m : Module) (bytes : List ℕ) : Type 0 where
  pub code : Parts
  pub of : IsCodeFor code m
  pub tells : TellsWhatIsMeant code m
  pub bytes_are : bytes ≡ file code

-- the same of the program for messages in pieces
pub record IsPartsFileOf (file : Parts → List ℕ) (m : Module) (bytes : List ℕ) : Type 0 where
  pub code : Parts
  pub of : IsCodeFor code m
  pub tells : TellsInParts code m
  pub bytes_are : bytes ≡ file code

-- the first lines of the file of functions: how deep they call each other, and how many variables they have
abbrev pub head_of : (functions variables : ℕ) → List ℕ
head_of functions variables =
    codes "/* The stack: below an entry point's function at most " ++ decimal functions ++ codes " functions call each other,\n * with at most " ++ decimal variables
    ++ codes " variables of 64 bits in all. */\n\n"

abbrev pub source : (prefix : List ℕ) → Parts → List ℕ
source prefix c = head_of (functions_deep c) (variables_deep c) ++ c_file prefix c

-- the file of the functions, whose names begin with this prefix
abbrev pub IsCSource : List ℕ → Module → List ℕ → Type 0
IsCSource prefix = IsFileOf (source prefix)

-- the file of their declarations
abbrev pub IsCHeader : List ℕ → Module → List ℕ → Type 0
IsCHeader prefix = IsFileOf (header prefix)

-- the file of the functions for messages in pieces
abbrev pub IsCParts : List ℕ → Module → List ℕ → Type 0
IsCParts prefix = IsPartsFileOf (parts_file prefix)
