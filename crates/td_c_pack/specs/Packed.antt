-- What C is answered of a module text (own rule; capi/td_pack.h).
use Rattle.std.specs.Prelude.{◌≡◌, ◌⊎◌, ℕ, ℤ, pos, ◌<◌, ◌≤◌, ◌↔◌, List, length, take, drop}
use Rattle.td_lexer.specs.Splits.{HasToken}
use Rattle.td_core.specs.declared.module.Module.{Module}
use Rattle.td_code.specs.Compile.{IsImageOf}
use Rattle.td_front.specs.declared.error.FrontError.{FrontError}
use Rattle.td_front.specs.ModuleText.{IsModuleText, RefusedBy}
use Rattle.td_c_pack.specs.declared.refusal.TdPacked.{TdPacked}
use Rattle.td_c_pack.specs.declared.pack.TheConstants.{MOST_TEXT}
use Rattle.td_c_pack.specs.Told.{IsTold}

-- the image is one of so many bytes
abbrev pub HasImage : List ℕ → ℕ → Type 0
HasImage text size = (bytes : List ℕ) × IsImageOf text bytes × (size ≡ length bytes)

-- the text is refused, as was told
abbrev pub HasRefusal : List ℕ → TdPacked → Type 0
HasRefusal text told = (e : FrontError) × RefusedBy text e × IsTold text e told

-- memory may run out: there is a token, after white space and comments, or a module to make an image of
abbrev pub MayRunOut : List ℕ → Type 0
MayRunOut text = HasToken text ⊎ ((m : Module) × IsModuleText text m)

-- the numbers that are answered: the image is written, there was no memory, the text has too many bytes, it is refused, or the image
-- has more bytes than there is room for
abbrev pub IsAnswer : ℤ → Type 0
IsAnswer code = (code ≡ pos 0) ⊎ ((code ≡ pos 4) ⊎ ((code ≡ pos 21) ⊎ ((code ≡ pos 22) ⊎ (code ≡ pos 23))))

-- of what is told only the size has changed
abbrev pub TellsSize : TdPacked → TdPacked → Type 0
TellsSize before told = told ≡ record before { size = told.size }

-- each number is answered only where its cause holds, and left in the room for the image (`was`) and in what is told (`before`) what it
-- says, and all else as it was; want of memory (4) comes only of such a text
pub record IsPacking (text was image : List ℕ) (before told : TdPacked) (code : ℤ) : Type 0 where
  pub answer : IsAnswer code
  pub done : code ≡ pos 0 → IsImageOf text (take told.size image) × (told.size ≤ length image)
  pub behind : code ≡ pos 0 → drop told.size image ≡ drop told.size was
  pub unwritten : (code ≡ pos 0 → ⊥) → image ≡ was
  pub room : code ≡ pos 23 → HasImage text told.size × (length image < told.size)
  pub sized : (code ≡ pos 0) ⊎ (code ≡ pos 23) → TellsSize before told
  pub refused : code ≡ pos 22 → HasRefusal text told × (told.size ≡ before.size)
  pub untold : (code ≡ pos 4) ⊎ (code ≡ pos 21) → told ≡ before
  pub memory : code ≡ pos 4 → MayRunOut text
  pub long : (code ≡ pos 21) ↔ (MOST_TEXT < length text)
