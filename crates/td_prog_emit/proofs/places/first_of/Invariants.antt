use Rattle.std.proofs.Common.{◌≡◌, ◌+◌, drop}
use Rattle.td_prog_text.specs.Entries.{first_of}
use Rattle.td_prog_emit.proofs.places.first_of.Given as goal

abbrev pub invariant-loop-k : goal.invariant-loop-k
invariant-loop-k l = first_of l.name l.entry.cells ≡ l.k + first_of l.name (drop l.k l.entry.cells)
