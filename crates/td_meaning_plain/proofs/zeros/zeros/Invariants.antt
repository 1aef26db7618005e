use Rattle.std.proofs.Common.{◌≡◌, ℕ, ◌+◌, List}
use Rattle.td_meaning.specs.Meaning.{zeros_meaning}
use Rattle.td_meaning_plain.proofs.zeros.zeros.Given as goal

abbrev pub invariant-loop-turn : goal.invariant-loop-turn
invariant-loop-turn l = (cells : List ℕ) → (zeros_meaning l.message l.end l.pos cells).ending ≡ (zeros_meaning l.message l.end (l.pos + l.turn) cells).ending
