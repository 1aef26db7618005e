use Rattle.std.proofs.Common.{◌≡◌, ◌++◌, drop}
use Rattle.td_core.proofs.copying.copy_cases.Given as goal

-- what was copied, and what is left
abbrev pub invariant-loop-one : goal.invariant-loop-one
invariant-loop-one l = l.copied ++ drop l.one-index l.cases ≡ l.cases
