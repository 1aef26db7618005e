-- What is answered to a message (own rule).
use Rattle.std.specs.Prelude.{◌≡◌, ◌⊎◌, ℕ, ◌<◌, ◌^◌, List, map}
use Rattle.std.specs.List.{All}
use Rattle.std.proofs.Common.{◌∙◌}
use Rattle.td_core.specs.declared.module.Entry.{Entry}
use Rattle.td_core.specs.declared.outcome.Outcome.{Outcome}
use Rattle.td_stream.specs.declared.load.Load.{Load}
use Rattle.td_stream.specs.Layouts.{plain}
use Rattle.td_ir.specs.declared.tables.Parts.{Parts}
use Rattle.td_ir.specs.Entries.{Fits, IsEntryNamed, IsFirstNamed}
use Rattle.td_image.specs.declared.error.ImageError.{ImageError}
use Rattle.td_image.specs.declared.error.ImageError.TheVariants as errors
use Rattle.td_image.specs.Answer.{IsImage}
use Rattle.td_run.specs.Validation.{IsValidation}
use Rattle.td_use_image.specs.declared.message.AnswerError.{AnswerError}
use Rattle.td_use_image.specs.declared.message.AnswerError.TheVariants.{Image, NoMemory}
use Rattle.td_use_image.specs.declared.shared_words.SharedWord.{SharedWord}

pub same_on : (u v w : ℕ) → v ≡ u → w ≡ v → w ≡ u
same_on u v w p q = q ∙ p

-- with what these words began
abbrev pub firsts : List SharedWord → List ℕ
firsts words = map (λ w. w.first.value) words

-- why bytes are no image, among the reasons why there is no answer: that there was no memory is one of its own
abbrev pub image_refused : ImageError → AnswerError
image_refused errors.NoMemory = NoMemory
image_refused errors.Magic = Image errors.Magic
image_refused errors.Version = Image errors.Version
image_refused (errors.Short at) = Image (errors.Short at)
image_refused (errors.Field at) = Image (errors.Field at)
image_refused (errors.Rest at) = Image (errors.Rest at)
image_refused (errors.Refused breach) = Image (errors.Refused breach)

-- no entry point of this name takes these arguments: none of the first 2^32 has the name, or the first one that has it takes others, whatever its cells
abbrev pub LacksEntry : Parts → List ℕ → List ℕ → Type 0
LacksEntry code name args = ((n : ℕ) → n < 2 ^ 32 → IsEntryNamed code name n → ⊥)
    ⊎ ((entry : Entry) × IsFirstNamed code name entry × ((cells : List ℕ) → Fits code entry args cells → ⊥))

-- the bytes are the image of such a code
abbrev pub IsWithoutEntry : List ℕ → List ℕ → List ℕ → Type 0
IsWithoutEntry image name args = (code : Parts) × IsImage code image × LacksEntry code name args

-- the answer to a message of so many bytes at the front of words: that of the code whose image the bytes are, from its first entry point of
-- a name, with cells that begin at zero
pub record IsAnswer (image name args : List ℕ) (length : ℕ) (loads : List Load) (outcome : Outcome) : Type 0 where
  pub code : Parts
  pub entry : Entry
  pub cells : List ℕ
  pub image_is : IsImage code image
  pub first : IsFirstNamed code name entry
  pub fits : Fits code entry args cells
  pub zeros : All (λ v. v ≡ 0) cells
  pub validated : IsValidation code entry args cells (plain length) loads outcome
