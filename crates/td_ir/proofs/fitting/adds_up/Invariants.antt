use Rattle.std.proofs.Common.{◌≡◌, ◌+◌, length}
use Rattle.td_ir.specs.Tables.{begin, lengths_of}
use Rattle.td_ir.proofs.fitting.adds_up.Given as goal

abbrev pub invariant-loop-k : goal.invariant-loop-k
invariant-loop-k l = begin (lengths_of l.parts) l.k + l.left ≡ length l.parts.instructions
