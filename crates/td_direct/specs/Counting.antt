-- Which number a field brings into scope; of use below the validator alone.
use Rattle.std.specs.Prelude.{◌≡◌, ℕ, List}
use Rattle.td_direct.specs.Imports.{Element, Extent}
use Rattle.td_core.specs.declared.module.Element.TheVariants as element
use Rattle.td_core.specs.declared.module.Extent.TheVariants as extent
use Rattle.td_meaning.specs.Words64.{given_value}
use Rattle.td_direct.specs.declared.counting.Counted.{Counted}
use Rattle.td_direct.specs.declared.counting.Counted.TheVariants.{Number, Listed, Plain}

-- a field whose bytes bring no number into scope
abbrev pub IsPlainOnce : Element → Type 0
IsPlainOnce (element.Number type) = ⊥
IsPlainOnce (element.Listed base values) = ⊥
IsPlainOnce (element.Named definition args cells) = Unit {0}
IsPlainOnce element.Unit = Unit {0}
IsPlainOnce element.Rest = Unit {0}
IsPlainOnce element.Zeros = Unit {0}

abbrev pub IsPlain : Extent → Element → Type 0
IsPlain extent.Once e = IsPlainOnce e
IsPlain (extent.Filling size step) e = Unit {0}
IsPlain (extent.OnceFilling size step) e = Unit {0}
IsPlain (extent.UpToZero size) e = Unit {0}
IsPlain (extent.Given source) e = Unit {0}

abbrev pub IsCounted : Counted → Extent → Element → Type 0
IsCounted (Number type) x e = (e ≡ element.Number type) × (x ≡ extent.Once)
IsCounted (Listed base values) x e = (e ≡ element.Listed base values) × (x ≡ extent.Once)
IsCounted Plain x e = IsPlain x e

-- its number: that of a field without bytes, or 0
abbrev pub plain_number : Element → Extent → List ℕ → List ℕ → ℕ → ℕ → List ℕ → ℕ
plain_number (element.Number type) (extent.Given source) env places end p cells = given_value source env places end p cells
plain_number e x env places end p cells = 0
