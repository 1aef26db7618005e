-- What a view has of a roll: maybe the head, and maybe a part (own rule).
use Rattle.std.specs.Prelude.{◌≡◌, ◌⊎◌, Bool, true, false, ℕ, ◌+◌, List, [], ◌∷◌, ◌++◌, length, Option, None, Some}
use mathlib.Core.Option.{none, some}
use mathlib.Core.Option as maybe
use lib.ListN.{get_elem?}
use Rattle.td_ring.specs.declared.roll.Part.{Part}
use Rattle.td_ring.specs.declared.roll.Head.{Head}
use Rattle.td_ring.specs.Roll.{Entry, entries_of, part_of, head_of, added, Ended, Apart}

module _ {A : Type 0} where
  abbrev pub maybe_of : Option A → maybe.Option A
  maybe_of None = none
  maybe_of (Some x) = some x

  abbrev pub has_head : Option (Head A) → Bool
  has_head None = false
  has_head (Some h) = true

  -- this view is the head's
  abbrev pub HasHead : Option (Head A) → Type 0
  HasHead o = has_head o ≡ true

  -- the head made one more part
  abbrev pub one_more : Option (Head A) → Option (Head A)
  one_more None = None
  one_more (Some h) = Some (head_of (h.made + 1) h.ended)

  -- the part that the head makes next, which added nothing yet: its number is how many were made before
  abbrev pub new_part : Option (Head A) → Option (Part A)
  new_part None = None
  new_part (Some h) = Some (part_of h.made [])

  -- the head gathered this part
  abbrev pub with_ended : Option (Head A) → Option (Part A) → Option (Head A)
  with_ended (Some h) (Some p) = Some (head_of h.made (h.ended ++ p ∷ []))
  with_ended (Some h) None = Some h
  with_ended None p = None

  -- the part added one more
  abbrev pub with_more : Option (Part A) → A → Option (Part A)
  with_more None x = None
  with_more (Some p) x = Some (added p x)

  -- what each of these parts added, the head's own and those gathered, is what stands under its number in the log; no number
  -- stands twice; and once all parts that were made were gathered, but for the head's own, no other number has an entry
  pub record AreInLog (log : List (Entry A)) (h : Head A) (own : Part A) : Type 0 where
    pub each : (k : ℕ) (q : Part A) → get_elem? (own ∷ h.ended) k ≡ some q → entries_of q.number log ≡ q.own
    pub apart : Apart (own ∷ h.ended)
    pub no_other : length h.ended + 1 ≡ h.made → (n : ℕ) → Ended (own ∷ h.ended) n ⊎ (entries_of n log ≡ [])
