use Rattle.std.proofs.Common.{◌≡◌, drop}
use Rattle.td_chain.specs.Places.{translated}
use Rattle.td_chain.proofs.region.translated.Given as goal

-- none of the regions passed has them
abbrev pub invariant-loop-r : goal.invariant-loop-r
invariant-loop-r l = translated l.regions l.address l.size ≡ translated (drop l.r-index l.regions) l.address l.size
