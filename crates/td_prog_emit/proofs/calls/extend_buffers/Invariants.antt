use Rattle.std.proofs.Common.{◌≡◌, ◌++◌, flat_map, take}
use Rattle.td_prog_emit.specs.Written.{buffer_text}
use Rattle.td_prog_emit.proofs.calls.extend_buffers.Given as goal

abbrev pub invariant-loop-buffer : goal.invariant-loop-buffer
invariant-loop-buffer l = l.out.items ≡ l.fn.out.items ++ flat_map buffer_text (take l.buffer-index l.buffers)
