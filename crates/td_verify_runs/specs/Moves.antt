-- What an instruction that is neither a call nor a loop does to the position and to the end, by its shape.
use Rattle.std.specs.Prelude.{◌≡◌, ℕ, ◌+◌, ◌-◌, ◌≤◌}
use Rattle.td_verify_runs.specs.Imports.{Shape, Straight, Call, While, Open, Close}

-- neither a call nor a loop
abbrev pub Passes : Shape → Type 0
Passes (Call m) = ⊥
Passes (While t) = ⊥
Passes j = Unit {0}

-- the bytes that an instruction takes at least
abbrev pub least : Shape → ℕ
least (Straight b w) = b
least j = 0

-- the steps that it may take for each byte, its own apart
abbrev pub more : Shape → ℕ
more (Straight b w) = w - 1
more j = 0

-- what becomes of the end
abbrev pub Ends : Shape → (pos before after : ℕ) → Type 0
Ends (Open k) pos before after = pos + k ≤ after
Ends Close pos before after = pos ≡ before
Ends j pos before after = after ≡ before
