-- Where the addresses of a guest lie in its memory (own rule), and what a walk may look at.
use Rattle.std.specs.Prelude.{◌⊎◌, ℕ, ◌+◌, ◌-◌, ◌*◌, ◌<◌, ◌≤◌, ◌^◌, Bool, ◌&&◌, cond, nat_le, List, [], ◌∷◌, Option, Some, None}
use Rattle.std.specs.List.{All, Contains}
use Rattle.td_chain.specs.declared.region.Region.{Region}
use Rattle.td_chain.specs.declared.queue.Queue.{Queue}
use Rattle.td_chain.specs.declared.step.Walk.{Walk}
use Rattle.td_chain.specs.declared.step.Move.{Move}
use Rattle.td_chain.specs.declared.step.Move.TheVariants.{Table, Next, Last, Refused}

-- so many bytes from an address on lie in a region
abbrev pub lies_in : Region → ℕ → ℕ → Bool
lies_in r address size = nat_le r.from address && nat_le (address + size) r.until

-- the byte of the memory at which they begin, by the first region that they lie in
abbrev pub translated : List Region → ℕ → ℕ → Option ℕ
translated [] address size = None
translated (r ∷ regions) address size = cond (lies_in r address size) (Some (r.place + (address - r.from))) (translated regions address size)

-- all regions lie within so many bytes of memory
abbrev pub AreWithin : ℕ → List Region → Type 0
AreWithin bytes regions = All (λ r. r.place + (r.until - r.from) ≤ bytes) regions

-- so many bytes of the memory are all of one region
abbrev pub InRegions : List Region → ℕ → ℕ → Type 0
InRegions regions place size = (r : Region) × Contains regions r × (r.place ≤ place) × (place + size ≤ r.place + (r.until - r.from))

-- word i has one of these bytes
abbrev pub Touches : ℕ → ℕ → ℕ → Type 0
Touches place size i = (place < 8 * i + 8) × (8 * i < place + size)

-- word i has a byte of a region
abbrev pub InRegion : List Region → ℕ → Type 0
InRegion regions i = (r : Region) × Contains regions r × Touches r.place (r.until - r.from) i

-- word i has a byte of the queue's table or of a region
abbrev pub IsOpen : Queue → List Region → ℕ → Type 0
IsOpen q regions i = Touches q.table (16 * q.size) i ⊎ InRegion regions i

-- a walk in a memory of so many bytes: its table lies within, and in what is open; its descriptor is an entry of it; and it has at most
-- 2^32 bytes so far
pub record IsAt (q : Queue) (regions : List Region) (bytes : ℕ) (w : Walk) : Type 0 where
  pub inside : w.table + 16 * w.entries ≤ bytes
  pub entry : w.index < w.entries
  pub few : w.bytes ≤ 2 ^ 32
  pub table : (i : ℕ) → Touches w.table (16 * w.entries) i → IsOpen q regions i

-- it holds of where a walk goes on, if it does
abbrev pub GoesTo : (Walk → Type 0) → Move → Type 0
GoesTo P (Table v) = P v
GoesTo P (Next piece v) = P v
GoesTo P (Last piece) = Unit {0}
GoesTo P (Refused e) = Unit {0}
