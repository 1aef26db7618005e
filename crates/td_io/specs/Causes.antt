-- What was read of a source and written to a sink, of which it is told (own rule). Of bytes that aren't told nothing is
-- claimed.
use Rattle.std.specs.Prelude.{◌≡◌, ℕ, ◌≤◌, ◌<◌, List, length, take, Some, None}
use Rattle.std.specs.declared.option.Option.{Option}
use Rattle.std.specs.Io.KnownBytes.{Appends, Consumes}

-- a prefix of the text was written, where what is written is told, and not all of it: so the text isn't empty
abbrev pub StartsWritten : Option (List ℕ) → Option (List ℕ) → List ℕ → Type 0
StartsWritten old new text = (n : ℕ) × (n < length text) × Appends old new (take n text)

-- some bytes were read, at most so many, where what is left is told
abbrev pub TookAtMost : Option (List ℕ) → Option (List ℕ) → ℕ → Type 0
TookAtMost old new most = (bytes : List ℕ) × Consumes old new bytes × (length bytes ≤ most)

-- at least one byte was read, and at most so many, where what is left is told
abbrev pub TookSome : Option (List ℕ) → Option (List ℕ) → ℕ → Type 0
TookSome old new most = (bytes : List ℕ) × Consumes old new bytes × (0 < length bytes) × (length bytes ≤ most)

-- more bytes than so many are left, where that is told
abbrev pub HasMore : Option (List ℕ) → ℕ → Type 0
HasMore None limit = Unit {0}
HasMore (Some bytes) limit = limit < length bytes

-- what was left is this text, where that is told
abbrev pub ReadWhole : Option (List ℕ) → List ℕ → Type 0
ReadWhole None text = Unit {0}
ReadWhole (Some bytes) text = bytes ≡ text
