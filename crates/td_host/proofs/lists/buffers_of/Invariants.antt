use Rattle.std.proofs.Common.{◌≡◌, ◌++◌, drop, map, length, vec_capacity}
use Rattle.td_stream.specs.Copies.{empty_with}
use Rattle.td_host.proofs.lists.buffers_of.Given as goal

-- what was made, and what is left; a buffer was put at each turn, and the memory stayed
abbrev pub invariant-loop-room : goal.invariant-loop-room
invariant-loop-room l = record {
  made : l.list.items ++ map empty_with (drop l.room-index l.rooms) ≡ map empty_with l.rooms;
  count : length l.list.items ≡ l.room-index;
  memory : vec_capacity l.list ≡ length l.rooms;
}
