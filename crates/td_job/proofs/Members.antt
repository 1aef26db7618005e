-- Members with names of their own. Cited by other crates.
use Rattle.std.proofs.Common.{◌≡◌, ℕ, ◌<◌, List, [], ◌∷◌, length, Bool, true, false, if◌then◌else◌, Option, Some, None, refl, ◌∙◌, arith, String, Global, string_bytes}
use Rattle.std.specs.Prelude.{IsSomeAnd}
use Rattle.serde_json.specs.View.{members_view}
use Rattle.serde_json.specs.declared.value.Value.{Value}
use Rattle.td_job.specs.declared.error.Key.{Key}
use Rattle.td_job.specs.Jobs.{is_known, first_unknown_in}

unknown_at : (known : Bool) (name : List ℕ) (others : Option (List ℕ)) → known ≡ false → (if known then others else Some name) ≡ Some name
unknown_at true name others h = absurd (cc)
unknown_at false name others h = refl

-- the first member's name is none of these
pub unknown_first : (keys : List Key) (name : String Global) (value : Value) (rest : List (String Global × Value)) → is_known keys (string_bytes name) ≡ false
    → first_unknown_in keys (members_view ((name, value) ∷ rest)) ≡ Some (string_bytes name)
unknown_first keys name value rest h = unknown_at (is_known keys (string_bytes name)) (string_bytes name) (first_unknown_in keys (members_view rest)) h

known_at : (known : Bool) (name : List ℕ) (others : Option (List ℕ)) → known ≡ true → (if known then others else Some name) ≡ others
known_at true name others h = refl
known_at false name others h = absurd (cc)

pub known_first : (keys : List Key) (name : String Global) (value : Value) (rest : List (String Global × Value)) → is_known keys (string_bytes name) ≡ true
    → first_unknown_in keys (members_view ((name, value) ∷ rest)) ≡ first_unknown_in keys (members_view rest)
known_first keys name value rest h = known_at (is_known keys (string_bytes name)) (string_bytes name) (first_unknown_in keys (members_view rest)) h

has_bytes : (name : List ℕ) → (name ≡ [] → ⊥) → 0 < length name
has_bytes [] h = absurd (h refl)
has_bytes (byte ∷ name) h = omega arith

-- a name that is not empty has bytes
pub some_name : (found : Option (List ℕ)) (name : List ℕ) → Some name ≡ found → (name ≡ [] → ⊥) → IsSomeAnd found (λ (n : List ℕ). 0 < length n)
some_name None name same h = absurd (cc)
some_name (Some found) name same h = let is : name ≡ found = cc in has_bytes found (λ e. h (is ∙ e))
