-- Bytes that are JSON. Cited by other crates.
use Rattle.std.proofs.Common.{◌≡◌, ℕ, ◌<◌, List, [], ◌∷◌, length, None, refl, arith}
use Rattle.serde_json.proofs.OnLiterals.{serde_json_on_literals}
use Rattle.serde_json.specs.Data.{Data}
use Rattle.serde_json.specs.Read.{read}
use Rattle.td_job.specs.Fields.{Reads}

nothing_read : read [] ≡ None
unfolding serde_json_on_literals
nothing_read = refl

-- no bytes at all stand for no value
pub some_bytes : (bytes : List ℕ) (job : Data) → Reads bytes job → 0 < length bytes
some_bytes [] job h = let none = nothing_read in let some = h.1 in cc
some_bytes (byte ∷ bytes) job h = omega arith
