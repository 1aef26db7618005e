-- A byte-sized array as places at which the message is cut (3D manual, "Arrays").
use Rattle.std.specs.Prelude.{◌≡◌, ℕ, ◌<◌, ◌≤◌, ◌+◌, ◌↔◌, suc, List}
use Rattle.td_meaning.specs.Imports.{Reason, TraceFrame}
use Rattle.td_core.specs.Outcome.{Ending, Accepted, Rejected, Behavior}
use Rattle.td_meaning.specs.Meaning.{elements}

-- places p < q < .. < r such that the element from each, on the cells of the one before, is accepted at the next
pub data Cuts (each : ℕ → List ℕ → Behavior) : ℕ → List ℕ → ℕ → List ℕ → Type 0 where
  here : {p : ℕ} {cells : List ℕ} → Cuts each p cells p cells
  cut : {p q r : ℕ} {cells more last : List ℕ} → p < q → (each p cells).ending ≡ Accepted q more → Cuts each q more r last → Cuts each p cells r last

-- an element that is accepted takes at least a byte and ends within its end
pub record MovesOn (each : ℕ → List ℕ → Behavior) (end : ℕ) : Type 0 where
  pub by : (p q : ℕ) (cells more : List ℕ) → p ≤ end → (each p cells).ending ≡ Accepted q more → (p < q) × (q ≤ end)

-- the array is accepted, and then at its end, exactly where places exist that lead there, and fails exactly where they
-- lead to an element that fails
pub record IsByCuts (each : ℕ → List ℕ → Behavior) (end p : ℕ) (cells : List ℕ) (o : Ending) : Type 0 where
  pub accepts : (q : ℕ) (last : List ℕ) → (o ≡ Accepted q last) ↔ ((q ≡ end) × Cuts each p cells end last)
  pub fails : (reason : Reason) (position : ℕ) (trace : List TraceFrame) (last : List ℕ) → (o ≡ Rejected reason position trace last) ↔ ((q : ℕ) × (more : List ℕ) × Cuts each p cells q more × (q < end) × ((each q more).ending ≡ Rejected reason position trace last))

abbrev pub ArraysAreCuts : Type 0
ArraysAreCuts =
    (each : ℕ → List ℕ → Behavior) (start size p : ℕ) (cells : List ℕ) →
    MovesOn each (p + size) →
    IsByCuts each (p + size) p cells (elements each (suc size) start (p + size) p cells).ending
