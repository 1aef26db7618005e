use Rattle.std.proofs.Common.{◌≡◌}
use Rattle.td_ir.specs.Tables.{begin, lengths_of}
use Rattle.td_image_upgrade.specs.Upgrade.{sites_below, code_below}
use Rattle.td_image_upgrade.proofs.upgrade.upgrade.Given as goal

abbrev pub invariant-loop-n : goal.invariant-loop-n
invariant-loop-n l = (l.from ≡ begin (lengths_of l.parts) l.n) × (l.sites ≡ sites_below l.parts l.n) × (l.instructions ≡ code_below l.parts l.n)
