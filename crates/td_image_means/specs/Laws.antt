-- What a validation by the code of an image says of the text for which the image stands (own rule).
use Rattle.std.specs.Prelude.{ℕ, ◌<◌, ◌^◌, List}
use Rattle.td_num.specs.Lists.{AreBytes}
use Rattle.td_core.specs.declared.module.Module.{Module}
use Rattle.td_core.specs.declared.module.Entry.{Entry}
use Rattle.td_core.specs.declared.outcome.Outcome.{Outcome}
use Rattle.td_front.specs.ModuleText.{IsModuleText}
use Rattle.td_stream.specs.declared.load.Load.{Load}
use Rattle.td_stream.specs.declared.stretch.Stretch.{Stretch}
use Rattle.td_stream.specs.Layouts.{length_in}
use Rattle.td_stream.specs.Loads.{IsFetchedOnce}
use Rattle.td_fetch.specs.Outcomes.{IsMeant}
use Rattle.td_ir.specs.declared.tables.Parts.{Parts}
use Rattle.td_ir.specs.Entries.{Fits}
use Rattle.td_run.specs.Validation.{IsValidation}
use Rattle.td_image.specs.Answer.{IsImage}
use Rattle.td_code.specs.Compile.{IsImageOf}
use Rattle.td_code_means.specs.Laws.{DoesAsMeant}

-- what a validation by the code answers is the meaning's, on every list of bytes that carries its loads
abbrev pub Validates : Parts → Module → Type 0
Validates c m =
    (entry : Entry) (args cells : List ℕ) (layout : List Stretch) (loads : List Load) (outcome : Outcome) →
    length_in layout < 2 ^ 32 → Fits c entry args cells → IsValidation c entry args cells layout loads outcome →
    IsFetchedOnce layout loads (λ b. AreBytes b → IsMeant layout m entry args cells b loads outcome)

-- So does code that does what a module means.
abbrev pub ValidationsMean : Type 0
ValidationsMean = (c : Parts) (m : Module) → DoesAsMeant c m → Validates c m

-- Code that is read of the image of a module's text validates what the text means.
abbrev pub ImagesMean : Type 0
ImagesMean = (text bytes : List ℕ) (c : Parts) → IsImageOf text bytes → IsImage c bytes → (m : Module) × IsModuleText text m × Validates c m
