-- Cited by other crates.
-- In an admitted module each expression that the meaning evaluates is sound.
use Rattle.std.proofs.Common.{◌≡◌, ℕ, zero, suc, ◌+◌, ◌*◌, ◌<◌, List, [], ◌∷◌, ◌++◌, length, refl, sym, subst, arith, Some, None, slice_get, length-append, append_assoc}
use Rattle.std.proofs.lemmas.Option.{none-some, same_Some, slice_get_within}
use Rattle.td_num.specs.Numbers.{places_from}
use Rattle.td_arith.specs.Imports.{TypeDef, Module, Entry}
use Rattle.td_expr.specs.Sound.{Sound}
use Rattle.td_expr.proofs.Admitting.{neither}
use Rattle.td_arith.specs.SafeModule.{definition_unsafe, definitions_unsafe}
use Rattle.td_core.specs.Formed.{Bound, AllFit, params_at, cells_at, cell_bounds, buffer_bounds, own_at}
use Rattle.td_meaning.specs.Meaning.{entry_place}
use Rattle.td_meaning.specs.Throughout.{through_below}
use Rattle.td_core.specs.Entries.{entry_definition}
use Rattle.td_core.proofs.Found.{entry_found}
use Rattle.td_num.proofs.Lists.{each_at}
use Rattle.td_core.specs.Copies.{IsDefinitionCopying}
use Rattle.td_meaning.specs.Copies.{opened, buffers_at}
use Rattle.td_arith.proofs.Copies.{zeros, fit_zeros, fit_append}
use Rattle.td_arith.specs.Laws.{EvaluatedIsSound}
use Rattle.td_arith.proofs.Fitting.{Stand, fit_length}
use Rattle.td_arith.proofs.Definitions.{all_good}

pub each_safe : (ds : List TypeDef) (n : ℕ) (d : TypeDef) → definitions_unsafe ds ≡ None → slice_get ds n ≡ Some d → definition_unsafe d ≡ None
each_safe [] n d u e = absurd (none-some d e)
each_safe (x ∷ ds) zero d u e =
    let h = neither (definition_unsafe x) (definitions_unsafe ds) u in
    subst (λ y. definition_unsafe y ≡ None) (same_Some x d e) h.0
each_safe (x ∷ ds) (suc n) d u e = let h = neither (definition_unsafe x) (definitions_unsafe ds) u in each_safe ds n d h.1 e

at_end : (before : List Bound) (b : Bound) (after : List Bound) → slice_get (before ++ b ∷ after) (length before) ≡ Some b
at_end [] b after = refl
at_end (x ∷ before) b after = at_end before b after

-- each cell stands for itself
pub stand_after : (before bs : List Bound) → Stand (before ++ bs) bs (places_from (length before) (length bs))
stand_after before [] = tt
stand_after before (b ∷ bs) =
    let count : length (before ++ b ∷ []) ≡ length before + 1 = length-append before (b ∷ []) in
    let rest : Stand ((before ++ b ∷ []) ++ bs) bs (places_from (length (before ++ b ∷ [])) (length bs)) = stand_after (before ++ b ∷ []) bs in
    let moved : Stand ((before ++ b ∷ []) ++ bs) bs (places_from (length before + 1) (length bs)) = subst (λ k. Stand ((before ++ b ∷ []) ++ bs) bs (places_from k (length bs))) count rest in
    (at_end before b bs, subst (λ x. Stand x bs (places_from (length before + 1) (length bs))) (append_assoc before (b ∷ []) bs) moved)

-- the cells of an entry point fit, and those of its copy buffers
pub opened_fits : (m : Module) (entry : Entry) (place : ℕ) (d : TypeDef) (visible : List ℕ) → slice_get m.entries entry.number ≡ Some place → slice_get m.definitions place ≡ Some d
    → AllFit (cells_at (Some d)) visible → AllFit (own_at (Some d)) (opened m entry visible)
opened_fits m entry place d visible at is fit =
    let entered : entry_definition m entry.number ≡ Some d = entry_found m entry.number place d at is in
    subst (λ o. AllFit (own_at (Some d)) (visible ++ zeros (2 * buffers_at o))) (sym entered)
    (fit_append (cell_bounds d.cells) (buffer_bounds d.buffers) visible (zeros (2 * length d.buffers)) fit (fit_zeros d.buffers))

pub evaluated_is_sound : EvaluatedIsSound
evaluated_is_sound m entry place d args visible message formed copying safe at is fits fit small low =
    let cells = opened m entry visible in
    let room = opened_fits m entry place d visible at is fit in
    let within : place < length m.definitions = slice_get_within m.definitions place d is in
    let bounds = own_at (Some d) in
    let stands : Stand bounds bounds (places_from 0 (length cells)) = subst (λ k. Stand bounds bounds (places_from 0 k)) (fit_length bounds cells room) (stand_after [] bounds) in
    let good = all_good m.listed m.definitions message small (λ n x e. (formed n x e, (each_safe m.definitions n x safe e, each_at (IsDefinitionCopying m.definitions) m.definitions n x copying e))) (length m.definitions) place within in
    let told = good bounds args (places_from 0 (length cells)) cells 0 (length message)
    (subst (λ o. AllFit (params_at o) args) (sym is) fits)
    (subst (λ o. Stand bounds (own_at o) (places_from 0 (length cells))) (sym is) stands) room (omega arith) low in
    subst (λ o. through_below Sound m.listed m.definitions (length m.definitions) (entry_place o (length m.definitions)) args (places_from 0 (length cells)) cells message 0 (length message)) (sym at) told.0
