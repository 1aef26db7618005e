use Rattle.std.proofs.Common.{◌≡◌, ◌++◌, drop}
use Rattle.td_core.proofs.copying.copy_args.Given as goal

-- what was copied, and what is left
abbrev pub invariant-loop-e : goal.invariant-loop-e
invariant-loop-e l = l.copied ++ drop l.e-index l.args ≡ l.args
