use Rattle.std.proofs.Common.{◌≡◌, ◌+◌, length}
use Rattle.td_verify.specs.Contexts.{AreContexts}
use Rattle.td_verify.proofs.contexts.fill.Given as goal

abbrev pub invariant-loop-at : goal.invariant-loop-at
invariant-loop-at l = record {
  length : length l.contexts ≡ length l.shapes + 1;
  contexts : AreContexts l.shapes l.contexts (l.at + 1);
}
