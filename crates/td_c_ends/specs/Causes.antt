-- Why an input has no answer.
use Rattle.td_front.specs.declared.error.FrontError.{FrontError}
use Rattle.td_front.specs.declared.error.FrontError.TheVariants as front
use Rattle.td_c_ends.specs.declared.refusal.Refusal.{Refusal}
use Rattle.td_c_ends.specs.declared.refusal.Refusal.TheVariants.{BadModule}
use Rattle.td_c_ends.specs.declared.refusal.InputError.{InputError}
use Rattle.td_c_ends.specs.declared.refusal.InputError.TheVariants.{Refused, NoMemory}

-- a refusal has its cause; that there was no memory needs none
abbrev pub HasCause : (Refusal → Type 0) → InputError → Type 0
HasCause Refuses NoMemory = Unit {0}
HasCause Refuses (Refused refusal) = Refuses refusal

-- that there was no memory is never held by a refusal
abbrev pub of_module : FrontError → InputError
of_module front.NoMemory = NoMemory
of_module error = Refused (BadModule error)
