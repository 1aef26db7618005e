use Rattle.std.proofs.Common.{◌≡◌, drop}
use Rattle.td_meaning.specs.Meaning.{case_for}
use Rattle.td_meaning.proofs.casetypes.case_for.Given as goal

abbrev pub invariant-loop-case : goal.invariant-loop-case
invariant-loop-case l = case_for l.value l.cases l.default ≡ case_for l.value (drop l.case-index l.cases) l.default
