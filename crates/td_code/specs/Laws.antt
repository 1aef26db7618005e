-- What holds of the code of a module: it is one, and so is what is told of it.
use Rattle.std.specs.Prelude.{◌≡◌, ℕ, List}
use Rattle.td_core.specs.declared.module.Module.{Module}
use Rattle.td_ir.specs.declared.tables.Parts.{Parts}
use Rattle.td_code.specs.Compile.{IsCodeFor, IsListing, IsPacked}

-- a module has one code at most
abbrev pub CodeIsOne : Type 0
CodeIsOne = (c d : Parts) (m : Module) → IsCodeFor c m → IsCodeFor d m → c ≡ d

-- and so one listing
abbrev pub OneListing : Type 0
OneListing = (m : Module) (a b : List ℕ) → IsListing m a → IsListing m b → a ≡ b

-- and one image
abbrev pub OnePacked : Type 0
OnePacked = (m : Module) (a b : List ℕ) → IsPacked m a → IsPacked m b → a ≡ b
