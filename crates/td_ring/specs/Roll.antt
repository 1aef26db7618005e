-- Of the views of a shared structure one is the head, which makes parts and gathers them. Each part has a number and a
-- list of its own, and all that was added to these lists stands in one log (own rule).
use Rattle.std.specs.Prelude.{◌≡◌, ℕ, ◌+◌, ◌<◌, ◌≤◌, eqb, cond, List, [], ◌∷◌, ◌++◌, length}
use mathlib.Core.Option.{Option, none, some}
use lib.ListN.{get_elem?}
use Rattle.td_ring.specs.declared.roll.Part.{Part}
use Rattle.td_ring.specs.declared.roll.Head.{Head}

-- the number of a part, and what it added
abbrev pub Entry : Type 0 → Type 0
Entry A = ℕ × A

module _ {A : Type 0} where
  -- what one part added, in order
  abbrev pub entries_of : ℕ → List (Entry A) → List A
  entries_of n [] = []
  entries_of n (e ∷ h) = cond (eqb e.0 n) (e.1 ∷ entries_of n h) (entries_of n h)

  -- what was added in all, in order
  abbrev pub all_entries : List (Entry A) → List A
  all_entries [] = []
  all_entries (e ∷ h) = e.1 ∷ all_entries h

  -- what these parts added, one part's after the other's
  unfoldable pub owned : List (Part A) → List A
  owned [] = []
  owned (p ∷ ps) = p.own ++ owned ps

  abbrev pub part_of : ℕ → List A → Part A
  part_of n xs = record { number = n; own = xs }

  abbrev pub head_of : ℕ → List (Part A) → Head A
  head_of n ps = record { made = n; ended = ps }

  -- the part after it added one more
  abbrev pub added : Part A → A → Part A
  added p a = part_of p.number (p.own ++ a ∷ [])

  -- the part of this number is among those gathered
  abbrev pub Ended : List (Part A) → ℕ → Type 0
  Ended ended n = (k : ℕ) × (p : Part A) × (get_elem? ended k ≡ some p) × (p.number ≡ n)

  -- no number stands twice
  abbrev pub Apart : List (Part A) → Type 0
  Apart ended = (k l : ℕ) (v w : Part A) → get_elem? ended k ≡ some v → get_elem? ended l ≡ some w → v.number ≡ w.number → k ≡ l

  -- one of the parts that were made, and its list is what stands under its number in the log
  abbrev pub IsInLog : ℕ → List (Entry A) → Part A → Type 0
  IsInLog made log p = (p.number < made) × (entries_of p.number log ≡ p.own)

abbrev pub count_of : {A : Type 0} → Option (Part A) → ℕ
count_of none = 0
count_of (some p) = 1

-- A view may be that of the head, of a part, or of both.
module _ {A V : Type 0} (head : V → Option (Head A)) (part : V → Option (Part A)) where
  -- how many parts are out
  abbrev pub parts_out : List V → ℕ
  parts_out [] = 0
  parts_out (v ∷ vs) = count_of (part v) + parts_out vs

  -- the part of the number n is out, at this place among the views, or it was gathered
  abbrev pub IsHeld : List V → List (Part A) → ℕ → Option ℕ → Type 0
  IsHeld views ended n (some j) = (v : V) × (p : Part A) × (get_elem? views j ≡ some v) × (part v ≡ some p) × (p.number ≡ n)
  IsHeld views ended n none = Ended ended n

  -- one view is the head's. Each part made has a number of its own below `made`, and is either out or gathered; place_of
  -- tells where those that are out stand. No other number has an entry in the log
  pub record Roll (views : List V) (log : List (Entry A)) : Type 0 where
    pub host : ℕ
    pub made : ℕ
    pub ended : List (Part A)
    pub place_of : ℕ → Option ℕ
    pub one_head : (v : V) × (get_elem? views host ≡ some v) × (head v ≡ some (head_of made ended))
    pub each_head : (j : ℕ) (v : V) (h : Head A) → get_elem? views j ≡ some v → head v ≡ some h → (j ≡ host) × (h ≡ head_of made ended)
    pub each_part : (j : ℕ) (v : V) (p : Part A) → get_elem? views j ≡ some v → part v ≡ some p → IsInLog made log p × (place_of p.number ≡ some j)
    pub each_ended : (k : ℕ) (p : Part A) → get_elem? ended k ≡ some p → IsInLog made log p × (place_of p.number ≡ none)
    pub apart : Apart ended
    pub held : (n : ℕ) → n < made → IsHeld views ended n (place_of n)
    pub none_else : (n : ℕ) → made ≤ n → entries_of n log ≡ []
    pub count : parts_out views + length ended ≡ made
