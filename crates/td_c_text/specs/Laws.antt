-- What holds of the C of a module text.
use Rattle.std.specs.Prelude.{ℕ, ◌^◌, ◌<◌, List, length}
use Rattle.td_core.specs.declared.module.Module.{Module}
use Rattle.td_ir.specs.declared.tables.Parts.{Parts}
use Rattle.td_ir.specs.WellFormed.{IsCode}
use Rattle.td_front.specs.ModuleText.{IsModuleText}
use Rattle.td_code.specs.Compile.{IsCodeFor}
use Rattle.td_prog_means.specs.Laws.{TellsWhatIsMeant, TellsInParts}

-- the program of the code of a module for which a text stands, whose length is a number of 32 bits, tells what the module means
abbrev pub TextsTellInC : Type 0
TextsTellInC =
    (text : List ℕ) (m : Module) (c : Parts) → length text < 2 ^ 32 → IsModuleText text m → IsCode c → IsCodeFor c m → TellsWhatIsMeant c m

-- so does the program for messages in pieces
abbrev pub TextsTellInParts : Type 0
TextsTellInParts =
    (text : List ℕ) (m : Module) (c : Parts) → length text < 2 ^ 32 → IsModuleText text m → IsCode c → IsCodeFor c m → TellsInParts c m
