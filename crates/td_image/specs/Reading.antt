-- What a function that reads returned (own rule): what the format reads, unless memory ran out.
use Rattle.std.specs.Prelude.{◌≡◌, Result, Ok, Err, IfErr}
use Rattle.td_image.specs.declared.fault.Fault.{Fault}
use Rattle.td_image.specs.declared.fault.ReadError.{ReadError}
use Rattle.td_image.specs.declared.fault.ReadError.TheVariants as errors

abbrev pub Ends : {Y : Type 0} → ReadError → Result Y Fault → Type 0
Ends errors.NoMemory read = Unit {0}
Ends (errors.Fault fault) read = read ≡ Err fault

abbrev pub Reads : {X Y : Type 0} → (X → Y) → Result X ReadError → Result Y Fault → Type 0
Reads view (Ok x) read = read ≡ Ok (view x)
Reads view (Err e) read = Ends e read

-- memory ran out
abbrev pub RanOut : ReadError → Type 0
RanOut errors.NoMemory = Unit {0}
RanOut (errors.Fault fault) = ⊥

-- memory ran out only where this holds
abbrev pub RanOutOnlyIf : {X : Type 0} → Result X ReadError → Type 0 → Type 0
RanOutOnlyIf result P = IfErr result (λ e. RanOut e → P)

-- what takes no memory is never out of it
abbrev pub IsDecided : {X : Type 0} → Result X ReadError → Type 0
IsDecided (Ok x) = Unit {0}
IsDecided (Err errors.NoMemory) = ⊥
IsDecided (Err (errors.Fault fault)) = Unit {0}
