use Rattle.std.proofs.Common.{◌≡◌, ◌+◌, ◌*◌, ◌≤◌, ◌^◌}
use Rattle.td_cli.specs.Bench.{AreTotals}
use Rattle.td_cli.specs.Benching.{AreModules}
use Rattle.td_cli.proofs.bench.run_messages.Given as goal

-- the totals over the messages so far, each of which has a place below 2^32 and fewer loads than that
abbrev pub invariant-loop-k : goal.invariant-loop-k
invariant-loop-k l = record {
  modules : AreModules l.modules;
  totals : AreTotals l.k l.totals;
  messages : l.totals.messages ≡ l.k;
  verdicts : l.totals.accepted + l.totals.rejected ≡ l.k;
  bytes : l.totals.bytes ≤ l.k * 2 ^ 32;
  loads : l.totals.loads ≤ l.k * 2 ^ 32;
}
