-- Buffers to which bytes are copied (own rule).
use Rattle.std.specs.Prelude.{ℕ, List, [], map}

-- what a buffer holds, and how many bytes it has room for in all
pub record BufferView : Type 0 where
  pub held : List ℕ
  pub room : ℕ

-- what buffers hold
abbrev pub held_by : List BufferView → List (List ℕ)
held_by buffers = map (λ b. b.held) buffers

abbrev pub rooms_of : List BufferView → List ℕ
rooms_of buffers = map (λ b. b.room) buffers

-- nothing yet
abbrev pub empty_with : ℕ → BufferView
empty_with room = record { held = []; room = room }
