use Rattle.std.proofs.Common.{◌≡◌, ◌++◌, [], length, map, take}
use Rattle.td_image_upgrade.specs.Upgrade.{used_in, own_site}
use Rattle.td_image_upgrade.proofs.upgrade.use_sites.Given as goal

abbrev pub invariant-loop-instruction : goal.invariant-loop-instruction
invariant-loop-instruction l = (l.used ≡ used_in (length l.parts.sites) [] (take l.instruction-index l.code)) × (l.sites ≡ l.fn.sites ++ map (own_site l.parts l.n) l.used)
