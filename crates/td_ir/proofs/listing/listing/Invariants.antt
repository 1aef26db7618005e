use Rattle.std.proofs.Common.{◌≡◌, take, string_bytes}
use Rattle.td_ir.specs.Listing.{lines}
use Rattle.td_ir.proofs.listing.listing.Given as goal

abbrev pub invariant-loop-number : goal.invariant-loop-number
invariant-loop-number l = string_bytes l.text ≡ lines 0 (take l.number l.instructions)
