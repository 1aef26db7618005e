use Rattle.std.proofs.Common.{◌≡◌, ◌*◌, ◌/◌, ◌++◌, drop, length}
use Rattle.td_core.specs.Outcome.{copies_by}
use Rattle.td_meaning_plain.proofs.copies.copies_by.Given as goal

-- what was made, and what is left
abbrev pub invariant-loop-k : goal.invariant-loop-k
invariant-loop-k l = record {
  shown : l.copies ++ copies_by l.message (drop (2 * l.k) l.cells) ≡ copies_by l.message l.cells;
  few : l.pairs ≡ length l.cells / 2;
}
