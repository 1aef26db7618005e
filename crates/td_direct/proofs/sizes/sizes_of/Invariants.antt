use Rattle.std.proofs.Common.{◌≡◌, length}
use Rattle.td_direct.specs.Passing.{AreSizes}
use Rattle.td_direct.proofs.sizes.sizes_of.Given as goal

abbrev pub invariant-loop-place : goal.invariant-loop-place
invariant-loop-place l = record {
  long : length l.sizes.items ≡ l.place;
  right : AreSizes l.m l.sizes.items;
}
