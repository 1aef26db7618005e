-- What the host learns of the seats that it gathered (own rule).
use Rattle.std.specs.Prelude.{◌≡◌, ◌⊎◌, ℕ, List, [], length, slice_index}
use mathlib.Core.Option.{some}
use lib.ListN.{get_elem?}
use Rattle.td_words.specs.declared.view.Access.TheVariants.{Load, Store}
use Rattle.td_words.specs.declared.view.SeatView.{SeatView}
use Rattle.td_words.specs.declared.view.HostView.{HostView}
use Rattle.td_words.specs.History.{Entry, IsHistory, steps_of, Has}

-- the seat of this number is among those gathered
abbrev pub Ended : List SeatView → ℕ → Type 0
Ended ended n = (k : ℕ) × (v : SeatView) × (get_elem? ended k ≡ some v) × (v.number ≡ n)

-- no number stands twice
abbrev pub Apart : List SeatView → Type 0
Apart ended = (k l : ℕ) (v w : SeatView) → get_elem? ended k ≡ some v → get_elem? ended l ≡ some w → v.number ≡ w.number → k ≡ l

-- the log is one history from the opening words, and each gathered seat's own steps are those under its number there, in
-- their order. Once as many seats were gathered as were made, no other seat has a step in it
pub record IsHistoryOf (h : HostView) (log : List Entry) : Type 0 where
  pub legal : IsHistory h.opened log
  pub steps : (k : ℕ) (v : SeatView) → get_elem? h.ended k ≡ some v → (v.opened ≡ h.opened) × (steps_of v.number log ≡ v.steps)
  pub apart : Apart h.ended
  pub no_other : length h.ended ≡ h.made → (n : ℕ) → Ended h.ended n ⊎ (steps_of n log ≡ [])

-- the fetch rule: what a gathered seat loaded is the opening word, or a gathered seat stored it to that word
abbrev pub Fetched : HostView → Type 0
Fetched h =
    (k : ℕ) (v : SeatView) (i w : ℕ) → get_elem? h.ended k ≡ some v → Has v.steps (Load i w)
    → (w ≡ slice_index h.opened i) ⊎ ((l : ℕ) × (u : SeatView) × (get_elem? h.ended l ≡ some u) × Has u.steps (Store i w))
