use Rattle.std.proofs.Common.{◌≡◌, ◌++◌, drop}
use Rattle.td_core.proofs.copying.copy_listed.Given as goal

-- what was copied, and what is left
abbrev pub invariant-loop-values : goal.invariant-loop-values
invariant-loop-values l = l.copied ++ drop l.values-index l.listed ≡ l.listed
