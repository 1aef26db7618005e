-- What the code of a module does, from the code's own entry points (own rule).
use Rattle.std.specs.Prelude.{ℕ, ◌<◌, ◌^◌, List, length}
use Rattle.td_num.specs.Lists.{AreBytes}
use Rattle.td_core.specs.declared.module.Module.{Module}
use Rattle.td_core.specs.declared.module.Entry.{Entry}
use Rattle.td_meaning.specs.Meaning.{meaning}
use Rattle.td_meaning.specs.Copies.{opened}
use Rattle.td_ir.specs.declared.tables.Parts.{Parts}
use Rattle.td_ir.specs.Entries.{Fits, opened_by}
use Rattle.td_ir.specs.Run.{run}
use Rattle.td_ir.specs.WellFormed.{IsCode}
use Rattle.td_lower_means.specs.CodeRun.{IsMeaning}
use Rattle.td_image.specs.Answer.{IsImage}
use Rattle.td_front.specs.ModuleText.{IsModuleText}
use Rattle.td_code.specs.Compile.{IsCodeFor, IsImageOf}

-- from each entry point of the code, for arguments and cells that fit it and with empty buffers, on each message of less than 2^32 bytes, the code's run is
-- left as the module's meaning from there
-- ends, and looks at the places that the meaning reads, in the same order
abbrev pub DoesAsMeant : Parts → Module → Type 0
DoesAsMeant c m =
    (entry : Entry) (args cells message : List ℕ) → Fits c entry args cells → AreBytes message → length message < 2 ^ 32 →
    IsMeaning (run c entry args (opened_by c entry cells) message) (meaning m entry args (opened m entry cells) message)

-- The code of a module does so: its entry points are the module's, with their parameters and cells.
abbrev pub CodeDoesAsMeant : Type 0
CodeDoesAsMeant = (c : Parts) (m : Module) → IsCode c → IsCodeFor c m → DoesAsMeant c m

-- What is read of the image of a module's text is the module's code, and its tables fit together.
abbrev pub ImageHasCode : Type 0
ImageHasCode = (text bytes : List ℕ) (c : Parts) → IsImageOf text bytes → IsImage c bytes → (m : Module) × IsModuleText text m × IsCode c × IsCodeFor c m
