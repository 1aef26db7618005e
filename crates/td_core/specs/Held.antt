-- Copy buffers of a validator, and the cells that tell what they hold (own rule); of use below the validator alone.
use Rattle.std.specs.Prelude.{◌≡◌, ℕ, ◌+◌, ◌*◌, ◌<◌, ◌≤◌, List, length, drop, slice_index}
use Rattle.td_core.specs.Outcome.{copies_by}

-- the two cells of a buffer, behind the first cells, of those of all buffers, one of which has room for it
pub record IsBufferAt (place count room first : ℕ) (rooms : List ℕ) : Type 0 where
  pub number : ℕ
  pub there : number < length rooms
  pub place_is : place ≡ first + 2 * number
  pub count_is : count ≡ place + 1
  pub room_is : room ≤ slice_index rooms number

-- the bytes that buffers hold are those of a message that the cells behind the first ones say
abbrev pub AreHeld : List ℕ → ℕ → List ℕ → List (List ℕ) → Type 0
AreHeld b first cells held = copies_by b (drop first cells) ≡ held
