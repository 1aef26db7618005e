-- What the writer answers (own rule).
use Rattle.std.specs.Prelude.{◌≡◌, ◌≤◌, List, ℕ, ◌++◌, length, [], Some, None}
use Rattle.td_write.specs.Imports.{Module, Entry, Outcome, Accept, WriteError}
use Rattle.td_core.specs.Formed.{IsModuleFormed}
use Rattle.td_core.specs.Copies.{IsCopying}
use Rattle.td_kinds.specs.KindRules.{kind_faults}
use Rattle.td_arith.specs.SafeModule.{module_unsafe}
use Rattle.td_meaning.specs.Copies.{opened, outcome}
use Rattle.td_write_values.specs.declared.error.WriteRule.TheVariants as rule
use Rattle.td_write_values.specs.declared.error.WriteError.TheVariants.{Shape, Range, Broken, Size, Long, NoMemory}
use Rattle.td_write_values.specs.declared.limits.TheConstants.{MOST_WRITTEN}
use Rattle.td_write_values.specs.Datum.{Datum}
use Rattle.td_write_values.specs.Spelling.{spelling}
use Rattle.td_write_values.specs.Writing.{Written, Refused, writing, whole}

-- what is asked of a module; each that a text stands for is so
pub record IsWritable (m : Module) : Type 0 where
  -- levels are in scope, and earlier definitions are named with arguments and cells that match
  pub formed : IsModuleFormed m
  -- what is copied is bytes, and its buffer is the definition's
  pub copying : IsCopying m
  -- no element of a byte-sized array may be empty, and what takes the rest stands last
  pub kinds : kind_faults m ≡ []
  -- each operator is safe under the facts at its place
  pub safe : module_unsafe m ≡ None

-- bytes spell a value within the limit, and the module accepts them to their end
pub record IsAccepted (m : Module) (entry : Entry) (args cells : List ℕ) (v : Datum) (bytes : List ℕ) : Type 0 where
  pub spelled : spelling m entry args (opened m entry cells) v ≡ Some bytes
  pub short : length bytes ≤ MOST_WRITTEN
  pub accepted : (outcome m entry args cells bytes).verdict ≡ Accept (length bytes)

-- such bytes were appended, and the outcome is what the module says of them
abbrev pub IsAppended : Module → Entry → List ℕ → List ℕ → Datum → List ℕ → List ℕ → Outcome → Type 0
IsAppended m entry args cells v old new answer =
    (bytes : List ℕ) × (IsAccepted m entry args cells v bytes × ((new ≡ old ++ bytes) × (answer ≡ outcome m entry args cells bytes)))

-- an error comes exactly where writing refuses the value so, in whole numbers; out of memory is free
abbrev pub IsRefusal : Written → WriteError → Type 0
IsRefusal w (Shape path) = w ≡ Refused rule.Shape path
IsRefusal w (Range path) = w ≡ Refused rule.Range path
IsRefusal w (Broken path reason) = w ≡ Refused (rule.Broken reason) path
IsRefusal w (Size path) = w ≡ Refused rule.Size path
IsRefusal w Long = (path : List ℕ) × (w ≡ Refused rule.Long path)
IsRefusal w NoMemory = Unit {0}

abbrev pub IsCause : Module → Entry → List ℕ → List ℕ → Datum → WriteError → Type 0
IsCause m entry args cells v error = IsRefusal (writing whole m entry args (opened m entry cells) v) error

-- a fact for each error but want of memory
abbrev pub Unless : WriteError → Type 0 → Type 0
Unless (Shape path) P = P
Unless (Range path) P = P
Unless (Broken path reason) P = P
Unless (Size path) P = P
Unless Long P = P
Unless NoMemory P = Unit {0}

-- no bytes spell the value so
abbrev pub IsNowhere : Module → Entry → List ℕ → List ℕ → Datum → Type 0
IsNowhere m entry args cells v = (bytes : List ℕ) → IsAccepted m entry args cells v bytes → ⊥
