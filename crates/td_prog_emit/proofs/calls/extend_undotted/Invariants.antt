use Rattle.std.proofs.Common.{◌≡◌, ◌++◌, map, take}
use Rattle.td_prog_text.specs.Names.{undotted_byte}
use Rattle.td_prog_emit.proofs.calls.extend_undotted.Given as goal

abbrev pub invariant-loop-byte : goal.invariant-loop-byte
invariant-loop-byte l = l.out.items ≡ l.fn.out.items ++ map undotted_byte (take l.byte-index l.bytes)
