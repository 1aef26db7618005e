-- Writing in 64 bits, and in whole numbers.
use Rattle.std.specs.Prelude.{◌≡◌, ℕ, List, Some, None, slice_get}
use Rattle.td_core.specs.declared.module.Module.{Module}
use Rattle.td_core.specs.declared.module.Entry.{Entry}
use Rattle.td_core.specs.declared.module.TypeDef.{TypeDef}
use Rattle.td_core.specs.Formed.{AllFit, IsModuleFormed, params_at, cells_at}
use Rattle.td_core.specs.Copies.{IsCopying}
use Rattle.td_arith.specs.SafeModule.{module_unsafe}
use Rattle.td_meaning.specs.Copies.{opened}
use Rattle.td_write_values.specs.Datum.{Datum}
use Rattle.td_write_values.specs.Writing.{writing, whole, in_machine}

-- in an admitted module each expression that writing evaluates lies in its type's range
abbrev pub WritingIsInRange : Type 0
WritingIsInRange =
    (m : Module) (entry : Entry) (place : ℕ) (d : TypeDef) (args cells : List ℕ) (v : Datum) →
    IsModuleFormed m → IsCopying m → module_unsafe m ≡ None →
    slice_get m.entries entry.number ≡ Some place → slice_get m.definitions place ≡ Some d →
    AllFit (params_at (Some d)) args → AllFit (cells_at (Some d)) cells →
    writing in_machine m entry args (opened m entry cells) v ≡ writing whole m entry args (opened m entry cells) v
