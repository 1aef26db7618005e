use Rattle.std.proofs.Common.{◌≡◌, ◌++◌, take, string_bytes}
use Rattle.td_ir.specs.Listing.{operands}
use Rattle.td_ir.proofs.listing.push_operands.Given as goal

abbrev pub invariant-loop-operand : goal.invariant-loop-operand
invariant-loop-operand l = string_bytes l.text ≡ string_bytes l.fn.text ++ operands l.fields (take l.operand-index l.operands)
