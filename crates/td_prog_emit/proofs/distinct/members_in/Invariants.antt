use Rattle.std.proofs.Common.{◌≡◌, take}
use Rattle.td_prog_text.specs.Entries.{members_in}
use Rattle.td_prog_emit.proofs.distinct.members_in.Given as goal

abbrev pub invariant-loop-k : goal.invariant-loop-k
invariant-loop-k l = l.out.items ≡ members_in l.parts l.name (take l.k l.entry.cells)
