use Rattle.std.proofs.Common.{◌≡◌, take}
use Rattle.td_prog_text.specs.Entries.{indexed, member_of}
use Rattle.td_prog_emit.proofs.distinct.all_members.Given as goal

abbrev pub invariant-loop-k : goal.invariant-loop-k
invariant-loop-k l = l.out.items ≡ indexed (member_of l.parts l.entry.cells) 0 (take l.k l.entry.cells)
