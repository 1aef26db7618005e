-- Code of a module, and what is written of it (own rule; docs/language/code.md and images.md).
use Rattle.std.specs.Prelude.{◌≡◌, ℕ, ◌<◌, ◌^◌, List, length, Result, Ok, Err}
use Rattle.td_num.specs.Lists.{AreBytes}
use Rattle.td_core.specs.declared.module.Module.{Module}
use Rattle.td_core.specs.declared.module.Entry.{Entry}
use Rattle.td_core.specs.Entries.{entry_definition}
use Rattle.td_core.specs.Formed.{AllFit, params_at, cells_at}
use Rattle.td_front.specs.ModuleText.{IsModuleText}
use Rattle.td_meaning.specs.Meaning.{meaning}
use Rattle.td_meaning.specs.Copies.{opened}
use Rattle.td_ir.specs.declared.tables.Parts.{Parts}
use Rattle.td_ir.specs.Listing.{listing}
use Rattle.td_ir.specs.Run.{run}
use Rattle.td_ir.specs.Entries.{opened_by}
use Rattle.td_lower_means.specs.CodeRun.{IsMeaning}
use Rattle.td_verify.specs.Verify.{IsSound}
use Rattle.td_lower.specs.Code.{IsWritten}
use Rattle.td_image.specs.declared.error.ImageError.{ImageError}
use Rattle.td_image.specs.declared.error.ImageError.TheVariants.{NoMemory}
use Rattle.td_image.specs.Answer as images
use Rattle.td_image.specs.Answer.{IsImage, IsAnswerFor}
use Rattle.td_image.specs.Image.{image}
use Rattle.td_image_fits.specs.Small.{IsSmall}

-- from each entry point of the module, for arguments and cells that fit it and with empty buffers, on each message, the code's run from the same entry
-- point is left as the module's meaning ends, and looks at the places that the meaning reads, in the same order
abbrev pub DoesWhatItMeans : Parts → Module → Type 0
DoesWhatItMeans c m =
    (entry : Entry) (args cells message : List ℕ) →
    entry.number < length m.entries →
    AllFit (params_at (entry_definition m entry.number)) args → AllFit (cells_at (entry_definition m entry.number)) cells →
    AreBytes message → length message < 2 ^ 32 →
    IsMeaning (run c entry args (opened_by c entry cells) message) (meaning m entry args (opened m entry cells) message)

-- the code that is written of the module, down to its names; the verifier accepts it, and it does so
pub record IsCodeFor (c : Parts) (m : Module) : Type 0 where
  pub written : IsWritten c m
  pub sound : IsSound c
  pub means : DoesWhatItMeans c m

-- the text is the listing of such code
abbrev pub IsListing : Module → List ℕ → Type 0
IsListing m text = (c : Parts) × IsCodeFor c m × (text ≡ listing c)

-- what `read_image` may answer to bytes: to the image of a code that code, or why the verifier refuses it, or want of memory
abbrev pub MayBeRead : List ℕ → Result Parts ImageError → Type 0
MayBeRead bytes answer = (p : Parts) → IsImage p bytes → IsAnswerFor p answer

-- this code is read, unless there was no memory
abbrev pub IsReadAs : Parts → Result Parts ImageError → Type 0
IsReadAs c (Ok code) = code ≡ c
IsReadAs c (Err NoMemory) = Unit {0}
IsReadAs c (Err _) = ⊥

-- the bytes are the image of such code in the version that is written, and are read as that code again
pub record IsPacked (m : Module) (bytes : List ℕ) : Type 0 where
  pub code : Parts
  pub of : IsCodeFor code m
  pub image_is : images.IsWritten code bytes
  pub read_again : (answer : Result Parts ImageError) → MayBeRead bytes answer → IsReadAs code answer

-- the bytes are the image of the code of the module for which the text stands
abbrev pub IsImageOf : List ℕ → List ℕ → Type 0
IsImageOf text bytes = (m : Module) × IsModuleText text m × IsPacked m bytes

-- the bytes are those that the format of images gives such code, and are its image where the module is no larger than a text's
pub record IsSpelled (m : Module) (bytes : List ℕ) : Type 0 where
  pub code : Parts
  pub of : IsCodeFor code m
  pub bytes_are : bytes ≡ image.bytes (images.written code)
  pub packed : IsSmall m → IsPacked m bytes
