-- The bytes that the format gives a module's code are its image, and are read as that code.
use Rattle.std.proofs.Common.{◌≡◌, ℕ, ◌<◌, ◌^◌, List, length, Result, Ok, Err}
use Rattle.td_core.specs.declared.module.Module.{Module}
use Rattle.td_front.specs.Checked.{IsChecked}
use Rattle.td_front.specs.ModuleText.{IsModuleText}
use Rattle.td_ir.specs.declared.tables.Parts.{Parts}
use Rattle.td_ir.specs.WellFormed.{IsCode}
use Rattle.td_verify.specs.Verify.{IsSound}
use Rattle.td_image.specs.declared.error.ImageError.{ImageError}
use Rattle.td_image.specs.declared.error.ImageError.TheVariants as errors
use Rattle.td_image.specs.Answer as images
use Rattle.td_image.specs.Answer.{IsAnswerFor}
use Rattle.td_image.specs.Image.{image}
use Rattle.td_image.specs.Laws.{WithinHasImage}
use Rattle.td_image.proofs.Written.{code_written}
use Rattle.td_image_fits.specs.Small.{IsSmall}
use Rattle.td_image_fits.specs.Laws.{ModulesAreSmall, CodeIsWithin}
use Rattle.td_code.specs.Compile.{IsCodeFor, IsReadAs, IsPacked, IsSpelled}

read_as : (c : Parts) (answer : Result Parts ImageError) → IsSound c → IsAnswerFor c answer → IsReadAs c answer
read_as c (Ok code) sound h = h
read_as c (Err errors.NoMemory) sound h = tt
read_as c (Err errors.Magic) sound h = h
read_as c (Err errors.Version) sound h = h
read_as c (Err (errors.Short at)) sound h = h
read_as c (Err (errors.Field at)) sound h = h
read_as c (Err (errors.Rest at)) sound h = h
read_as c (Err (errors.Refused breach)) sound h = h.breaks.here (sound h.routine breach.at h.is_in breach.rule)

module _ (has : WithinHasImage) (within : CodeIsWithin) (c : Parts) (m : Module) (bytes : List ℕ)
    (checked : IsChecked m) (of : IsCodeFor c m) (code : IsCode c) (are : bytes ≡ image.bytes (images.written c)) where
  packed : IsSmall m → IsPacked m bytes
  packed small =
      let own : images.IsWritten c bytes = (has c code (within c m checked small of.written code of.sound), are) in
      record { code = c; of = of; image_is = own; read_again = λ answer only. read_as c answer of.sound (only c (images.written c, own, code_written c)) }

  pub spelled : IsSpelled m bytes
  spelled = record { code = c; of = of; bytes_are = are; packed = packed }

pub of_text : ModulesAreSmall → (text : List ℕ) (m : Module) (bytes : List ℕ) → IsSpelled m bytes → length text < 2 ^ 32 → IsModuleText text m → IsPacked m bytes
of_text law text m bytes h short stands = h.packed (law text m short stands)
