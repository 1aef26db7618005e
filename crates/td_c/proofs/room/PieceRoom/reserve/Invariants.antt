use Rattle.std.proofs.Common.{◌≡◌, length}
use Rattle.td_stream.specs.Layouts.{length_in}
use Rattle.td_c.proofs.room.PieceRoom.reserve.Given as goal

abbrev pub invariant-loop-at : goal.invariant-loop-at
invariant-loop-at l = record {
  count : length l.list ≡ l._at;
  bytes : length_in l.list ≡ 0;
}
