use Rattle.std.proofs.Common.{◌≡◌, ℕ, ◌<◌, length, Some, []}
use Rattle.td_ir.specs.Tables.{lengths_of, begin}
use Rattle.td_verify.specs.Brackets.{opened}
use Rattle.td_verify.specs.Verify.{IsIn, Keeps, KeepsAll}
use Rattle.td_verify.specs.Findings.{AreFindings, HasSpace}
use Rattle.td_verify.proofs.verify.pass_all.Given as goal

abbrev pub invariant-loop-n : goal.invariant-loop-n
invariant-loop-n l = record {
  size : length l.marks ≡ length l.shapes;
  from_is : l.from ≡ begin (lengths_of l.parts) l.n;
  opens : opened l.shapes l.from ≡ Some [];
  findings : AreFindings l.parts l.n l.findings;
  space : HasSpace l.parts l.findings;
  sound : (m p : ℕ) → m < l.n → IsIn l.parts m p → KeepsAll (Keeps l.parts m p);
}
