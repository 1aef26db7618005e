-- Where there is neither an entry point nor a cell there is nothing to keep.
use Rattle.std.proofs.Common.{◌≡◌, ◌≢◌, ℕ, ◌<◌, ◌*◌, ◌⊎◌, inl, inr, List, [], ◌++◌, length, Option, Some, None, refl, sym, ap, ◌∙◌, subst, replicate}
use Rattle.std.specs.Prelude.{slice_get}
use Rattle.std.proofs.lemmas.List.{append-nil}
use Rattle.std.proofs.lemmas.Option.{none-some}
use Rattle.td_core.specs.declared.module.Module.{Module}
use Rattle.td_core.specs.declared.module.Entry.{Entry}
use Rattle.td_core.specs.Entries.{definition_at}
use Rattle.td_meaning.specs.Copies.{buffers_at, opened}

-- the cells of an entry point that isn't there have no copy buffers behind them
pub opened_alone : (m : Module) (entry : Entry) (cells : List ℕ) → slice_get m.entries entry.number ≡ None → opened m entry cells ≡ cells
opened_alone m entry cells e = ap (λ (o : Option ℕ). cells ++ replicate (2 * buffers_at (definition_at m o)) 0) e ∙ append-nil cells

pub some_or_entry : (m : Module) (entry : Entry) (cells : List ℕ) → 0 < length (opened m entry cells) → (slice_get m.entries entry.number ≢ None) ⊎ (0 < length cells)
some_or_entry m entry cells h = by (slice_get m.entries entry.number) refl
  where
    by : (o : Option ℕ) → slice_get m.entries entry.number ≡ o → (slice_get m.entries entry.number ≢ None) ⊎ (0 < length cells)
    by (Some p) e = inl (λ none. none-some p (sym none ∙ e))
    by None e = inr (subst (λ n. 0 < n) (ap length (opened_alone m entry cells e)) h)
