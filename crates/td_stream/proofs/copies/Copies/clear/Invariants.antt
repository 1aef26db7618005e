use Rattle.std.proofs.Common.{◌≡◌}
use Rattle.td_stream.proofs.Clearing.{cleared}
use Rattle.td_stream.proofs.copies.Copies.clear.Given as goal

abbrev pub invariant-loop-k : goal.invariant-loop-k
invariant-loop-k l = l.self.buffers.items ≡ cleared l.k l.fn.self.buffers.items
