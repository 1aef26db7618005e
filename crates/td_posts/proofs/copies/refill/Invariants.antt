use Rattle.std.proofs.Common.{◌≡◌, take}
use Rattle.td_posts.proofs.copies.refill.Given as goal

abbrev pub invariant-loop-k : goal.invariant-loop-k
invariant-loop-k l = record {
  held : l.buffer.held ≡ take l.k l.bytes;
  room : l.buffer.room ≡ l.fn.buffer.room;
}
