-- What C is answered that asks for C of an image (own rule; capi/td_pack.h).
use Rattle.std.specs.Prelude.{◌≡◌, ◌≢◌, ◌⊎◌, ◌↔◌, ℕ, ℤ, pos, ◌<◌, ◌≤◌, cond, nat_eq, List, [], length, take, drop}
use Rattle.td_ir.specs.declared.tables.Parts.{Parts}
use Rattle.td_verify.specs.Verify.{IsSound}
use Rattle.td_image.specs.Answer.{IsImage, IsRefused, MayRunOut, RanOut}
use Rattle.td_image.specs.declared.error.ImageError.{ImageError}
use Rattle.td_image.specs.declared.error.ImageError.TheVariants.{NoMemory}
use Rattle.td_prog_text.specs.Files.{c_file, header}
use Rattle.td_prog_text.specs.Parts.{parts_file}
use Rattle.td_c_command.specs.Prefix.{IsPrefix}
use Rattle.td_c_pack.specs.Faults.{IsFaultTold}
use Rattle.td_c_pack.specs.declared.fault.TdWritten.{TdWritten}
use Rattle.td_c_pack.specs.declared.fault.TextError.{TextError}
use Rattle.td_c_pack.specs.declared.fault.TextError.TheVariants.{Image, NoEntry}

-- the file of a code: 1 the declarations, 2 the functions for messages in pieces, each other number the functions
abbrev pub file_text : ℕ → List ℕ → Parts → List ℕ
file_text which prefix c = cond (nat_eq which 1) (header prefix c) (cond (nat_eq which 2) (parts_file prefix c) (c_file prefix c))

-- the verifier accepts the code, which has an entry point, and the bytes are its file
pub record IsTextOfCode (c : Parts) (which : ℕ) (prefix bytes : List ℕ) : Type 0 where
  pub sound : IsSound c
  pub has_entry : c.entries ≢ []
  pub bytes_are : bytes ≡ file_text which prefix c

-- the image is that of such a code. What the functions do is said by laws on its program: images_run_in_c, images_do_in_c and images_do_in_parts of td_prog_means
abbrev pub IsTextOfImage : List ℕ → ℕ → (prefix bytes : List ℕ) → Type 0
IsTextOfImage image which prefix bytes = (c : Parts) × IsImage c image × IsTextOfCode c which prefix bytes

abbrev pub HasText : List ℕ → ℕ → List ℕ → ℕ → Type 0
HasText image which prefix size = (bytes : List ℕ) × IsTextOfImage image which prefix bytes × (size ≡ length bytes)

-- the bytes are refused as an image, as was told
abbrev pub HasFault : List ℕ → (before told : TdWritten) → Type 0
HasFault image before told = (e : ImageError) × (e ≢ NoMemory) × IsRefused image e × IsFaultTold e before told

-- the image is that of a code without an entry point
abbrev pub HasNoEntry : List ℕ → Type 0
HasNoEntry image = (c : Parts) × IsImage c image × (c.entries ≡ [])

-- why no text is written of bytes; memory may run out only where a first row of a table was read, or the bytes are an image
abbrev pub IsUnwritten : List ℕ → TextError → Type 0
IsUnwritten image (Image e) = IsRefused image e × (RanOut e → MayRunOut image)
IsUnwritten image NoEntry = HasNoEntry image

-- the numbers that are answered: the text is written, there was no memory, the bytes are refused, the text has more bytes than there is room for, the
-- prefix begins no name of C, or the code has no entry point
abbrev pub IsWriteAnswer : ℤ → Type 0
IsWriteAnswer code = (code ≡ pos 0) ⊎ ((code ≡ pos 4) ⊎ ((code ≡ pos 22) ⊎ ((code ≡ pos 23) ⊎ ((code ≡ pos 24) ⊎ (code ≡ pos 25)))))

-- of what is told only the size has changed
abbrev pub TellsTextSize : TdWritten → TdWritten → Type 0
TellsTextSize before told = told ≡ record before { size = told.size }

-- each number is answered only where its cause holds, and left in the room for the text (`was`) and in what is told (`before`) what it says, and all
-- else as it was; the prefix is looked at before the image
pub record IsWriting (image : List ℕ) (which : ℕ) (prefix was text : List ℕ) (before told : TdWritten) (code : ℤ) : Type 0 where
  pub answer : IsWriteAnswer code
  pub named : (code ≡ pos 24) ↔ (¬ IsPrefix prefix)
  pub done : code ≡ pos 0 → IsTextOfImage image which prefix (take told.size text) × (told.size ≤ length text)
  pub behind : code ≡ pos 0 → drop told.size text ≡ drop told.size was
  pub unwritten : (code ≡ pos 0 → ⊥) → text ≡ was
  pub room : code ≡ pos 23 → HasText image which prefix told.size × (length text < told.size)
  pub sized : (code ≡ pos 0) ⊎ (code ≡ pos 23) → TellsTextSize before told
  pub refused : code ≡ pos 22 → HasFault image before told
  pub no_entry : code ≡ pos 25 → HasNoEntry image
  pub untold : (code ≡ pos 4) ⊎ ((code ≡ pos 24) ⊎ (code ≡ pos 25)) → told ≡ before
  pub memory : code ≡ pos 4 → MayRunOut image
