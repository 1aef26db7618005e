-- How large the module of a text is (own rule): what its code needs to be within the format of images, beside what holds of
-- each checked module.
use Rattle.std.specs.Prelude.{ℕ, ◌^◌, ◌<◌, ◌≤◌, length}
use Rattle.td_num.specs.Lists.{Each}
use Rattle.td_image_fits.specs.Imports.{Extent, Once, Filling, OnceFilling, UpToZero, Given, Field, Body, Struct, Casetype, Module}
use Rattle.td_core.specs.declared.limits.TheConstants.{MOST_DEFINITIONS, MOST_NODES}
use Rattle.td_core.specs.Weights.{total}
use Rattle.td_core.specs.WellFormed.{OfSome, EachField}

abbrev pub IsWord : ℕ → Type 0
IsWord n = n < 2 ^ 64

-- the step of an array is a number of 64 bits
abbrev pub HasSmallStep : Extent → Type 0
HasSmallStep Once = Unit {0}
HasSmallStep (Filling size step) = OfSome IsWord step
HasSmallStep (OnceFilling size step) = OfSome IsWord step
HasSmallStep (UpToZero size) = Unit {0}
HasSmallStep (Given source) = Unit {0}

abbrev pub IsFieldSmall : Field → Type 0
IsFieldSmall f = HasSmallStep f.extent

-- and so are the values of cases
abbrev pub HasSmallCases : Body → Type 0
HasSmallCases (Struct fs) = Unit {0}
HasSmallCases (Casetype switch cases default) = Each (λ c. IsWord c.value) cases

pub record IsSmall (m : Module) : Type 0 where
  -- names are those of nodes, and their lengths numbers of 32 bits
  pub names : length m.names ≤ MOST_NODES
  pub short : Each (λ name. length name < 2 ^ 32) m.names
  -- enums and entry points are some of the text's definitions, and the values of enums some of its nodes
  pub enums : length m.listed ≤ MOST_DEFINITIONS
  pub values : total length m.listed ≤ MOST_NODES
  pub entries : length m.entries ≤ MOST_DEFINITIONS
  -- the numbers that it gives are numbers of 64 bits
  pub numbers : Each (Each IsWord) m.listed
  pub cases : Each (λ d. HasSmallCases d.body) m.definitions
  pub steps : Each (λ d. EachField IsFieldSmall d.body) m.definitions
