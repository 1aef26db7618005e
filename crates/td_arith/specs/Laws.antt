-- Laws of the meaning.
use Rattle.std.specs.Prelude.{◌≡◌, ℕ, ◌^◌, ◌<◌, List, length, None, Some, slice_get}
use Rattle.td_num.specs.Lists.{AreBytes}
use Rattle.td_arith.specs.Imports.{Module, Entry, TypeDef}
use Rattle.td_arith.specs.SafeModule.{module_unsafe}
use Rattle.td_core.specs.Formed.{AllFit, IsModuleFormed, params_at, cells_at}
use Rattle.td_core.specs.Copies.{IsCopying}
use Rattle.td_meaning.specs.Copies.{IsSoundOn}

-- in an admitted module every expression that the meaning evaluates lies in its type's range, and so does each part of
-- it that is evaluated; a copy has room
abbrev pub EvaluatedIsSound : Type 0
EvaluatedIsSound =
    (m : Module) (entry : Entry) (place : ℕ) (d : TypeDef) (args cells message : List ℕ) →
    IsModuleFormed m → IsCopying m → module_unsafe m ≡ None →
    slice_get m.entries entry.number ≡ Some place → slice_get m.definitions place ≡ Some d →
    AllFit (params_at (Some d)) args → AllFit (cells_at (Some d)) cells →
    AreBytes message → length message < 2 ^ 32 →
    IsSoundOn m entry args cells message
