-- From each entry point of an admitted module, with values that fit, what is evaluated lies in its type's range. Cited by other crates.
use Rattle.std.proofs.Common.{◌≡◌, ℕ, ◌<◌, ◌^◌, List, length, Option, Some, None, subst}
use Rattle.td_num.specs.Lists.{AreBytes}
use Rattle.td_num.proofs.Lists.{got, each_at}
use Rattle.td_arith.specs.Imports.{Module, TypeDef, Entry}
use Rattle.td_core.specs.Entries.{entry_definition}
use Rattle.td_core.specs.Formed.{AllFit, IsModuleFormed, params_at, cells_at}
use Rattle.td_core.specs.Copies.{IsCopying}
use Rattle.td_core.specs.WellFormed.{IsWhole}
use Rattle.td_core.proofs.Found.{entry_found as entry_of}
use Rattle.td_meaning.specs.Copies.{IsSoundOn}
use Rattle.td_arith.specs.SafeModule.{module_unsafe}
use Rattle.td_arith.specs.Laws.{EvaluatedIsSound}

pub entry_is_sound : (m : Module) (entry : Entry) (args cells : List ℕ) → EvaluatedIsSound → IsModuleFormed m → IsCopying m → module_unsafe m ≡ None → IsWhole m
    → entry.number < length m.entries → AllFit (params_at (entry_definition m entry.number)) args → AllFit (cells_at (entry_definition m entry.number)) cells
    → (b : List ℕ) → AreBytes b → length b < 2 ^ 32 → IsSoundOn m entry args cells b
entry_is_sound m entry args cells law formed copying safe whole inside fits_args fits_cells b bytes short =
    let place = got m.entries entry.number inside in
    let there : place.0 < length m.definitions = each_at (λ p. p < length m.definitions) m.entries entry.number place.0 whole.entries place.1 in
    let d = got m.definitions place.0 there in
    let same : entry_definition m entry.number ≡ Some d.0 = entry_of m entry.number place.0 d.0 place.1 d.1 in
    let P : Option TypeDef → Type 0 = λ o. AllFit (params_at o) args in
    let Q : Option TypeDef → Type 0 = λ o. AllFit (cells_at o) cells in
    law m entry place.0 d.0 args cells b formed copying safe place.1 d.1 (subst P same fits_args) (subst Q same fits_cells) bytes short
