use Rattle.std.proofs.Common.{◌≡◌, drop}
use Rattle.td_write_values.specs.Writing.{Written, agreed}
use Rattle.td_write.specs.Writes.{claims_of}
use Rattle.td_write.proofs.claims.wrong_claim.Given as goal

-- what is left of the claims decides
abbrev pub invariant-loop-claim : goal.invariant-loop-claim
invariant-loop-claim l = (next : Written) → agreed l.end (claims_of l.claims) next ≡ agreed l.end (claims_of (drop l.claim-index l.claims)) next
