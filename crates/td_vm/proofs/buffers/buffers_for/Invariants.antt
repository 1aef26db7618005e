use Rattle.std.proofs.Common.{◌≡◌, ◌++◌, drop, length, map, vec_capacity}
use Rattle.td_stream.specs.Copies.{empty_with}
use Rattle.td_vm.proofs.buffers.buffers_for.Given as goal

-- what was made, and what is left; the memory stayed
abbrev pub invariant-loop-room : goal.invariant-loop-room
invariant-loop-room l = record {
  made : l.buffers.items ++ map empty_with (drop l.room-index l.rooms) ≡ map empty_with l.rooms;
  count : length l.buffers.items ≡ l.room-index;
  memory : vec_capacity l.buffers ≡ length l.rooms;
}
