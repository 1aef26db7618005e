-- The sizes of array elements (own rule): the step of an array is the size of each of its elements, where they all have one.
use Rattle.std.specs.Prelude.{◌≡◌, ℕ, Option, Some, None}
use Rattle.td_num.specs.Numbers.{bytes_in}
use Rattle.td_core.specs.declared.module.Element.{Element}
use Rattle.td_core.specs.declared.module.Element.TheVariants.{Number, Listed, Named, Unit as UnitElement, Rest, Zeros}
use Rattle.td_core.specs.declared.module.Extent.{Extent}
use Rattle.td_core.specs.declared.module.Extent.TheVariants.{Once, Filling, OnceFilling, UpToZero, Given}
use Rattle.td_core.specs.declared.module.Field.{Field}

-- a step is an element's size; of a type that is named it may be any
abbrev pub IsStepOf : Element → Option ℕ → Type 0
IsStepOf (Number type) step = step ≡ Some (bytes_in type.width)
IsStepOf (Listed base values) step = step ≡ Some (bytes_in base.width)
IsStepOf (Named definition args cells) step = Unit {0}
IsStepOf UnitElement step = step ≡ Some 0
IsStepOf Rest step = step ≡ None
IsStepOf Zeros step = step ≡ None

abbrev pub HasSteps : Element → Extent → Type 0
HasSteps element Once = Unit {0}
HasSteps element (Filling size step) = IsStepOf element step
HasSteps element (OnceFilling size step) = IsStepOf element step
HasSteps element (UpToZero size) = Unit {0}
HasSteps element (Given source) = Unit {0}

abbrev pub IsFieldStepped : Field → Type 0
IsFieldStepped f = HasSteps f.element f.extent
