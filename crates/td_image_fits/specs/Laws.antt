-- The code of each module text is within the format of images.
use Rattle.std.specs.Prelude.{ℕ, ◌^◌, ◌<◌, List, length}
use Rattle.td_image_fits.specs.Imports.{Module, Parts}
use Rattle.td_front.specs.Checked.{IsChecked}
use Rattle.td_front.specs.ModuleText.{IsModuleText}
use Rattle.td_ir.specs.WellFormed.{IsCode}
use Rattle.td_verify.specs.Verify.{IsSound}
use Rattle.td_lower.specs.Code.{IsWritten}
use Rattle.td_image.specs.Within.{IsWithinFormat}
use Rattle.td_image_fits.specs.Small.{IsSmall}

-- a text whose length is a number of 32 bits stands for a small module
abbrev pub ModulesAreSmall : Type 0
ModulesAreSmall = (text : List ℕ) (m : Module) → length text < 2 ^ 32 → IsModuleText text m → IsSmall m

-- the code of a small checked module is within the format
abbrev pub CodeIsWithin : Type 0
CodeIsWithin = (c : Parts) (m : Module) → IsChecked m → IsSmall m → IsWritten c m → IsCode c → IsSound c → IsWithinFormat c
