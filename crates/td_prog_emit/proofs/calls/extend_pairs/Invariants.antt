use Rattle.std.proofs.Common.{◌≡◌, ◌++◌, flat_map, take}
use Rattle.td_prog_emit.specs.Written.{pair_text}
use Rattle.td_prog_emit.proofs.calls.extend_pairs.Given as goal

abbrev pub invariant-loop-buffer : goal.invariant-loop-buffer
invariant-loop-buffer l = l.out.items ≡ l.fn.out.items ++ flat_map (pair_text l.own) (take l.buffer-index l.buffers)
