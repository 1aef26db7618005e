use Rattle.std.proofs.Common.{ℕ, ◌<◌}
use Rattle.td_ir.specs.Entries.{IsEntryNamed}
use Rattle.td_ir.proofs.entries.entry_in.Given as goal

abbrev pub invariant-loop-place : goal.invariant-loop-place
invariant-loop-place l = (n : ℕ) → n < l.place → IsEntryNamed l.code l.name n → ⊥
