use Rattle.std.proofs.Common.{◌-◌, ◌≤◌, length, drop}
use Rattle.td_lexer.specs.Splits.{SplitsUpTo}
use Rattle.td_lexer.proofs.lexing.read_all.Given as goal

abbrev pub invariant-loop-at : goal.invariant-loop-at
invariant-loop-at l = record {
  within : l.at ≤ length l.bytes;
  so_far : SplitsUpTo 0 l.bytes l.tokens.items l.at (drop l.at l.bytes);
}

abbrev pub decreases-loop-at : goal.decreases-loop-at
decreases-loop-at l = length l.bytes - l.at
