use Rattle.std.proofs.Common.{◌≡◌, ◌+◌, length}
use Rattle.td_lexer.specs.Scanner.{close_of}
use Rattle.td_lexer.proofs.Values.{further}
use Rattle.td_lexer.proofs.comments.close_of.Given as goal

abbrev pub invariant-loop-rest : goal.invariant-loop-rest
invariant-loop-rest l = record {
  place : further l.passed (close_of l.rest) ≡ close_of l.bytes;
  count : l.passed + length l.rest ≡ length l.bytes;
}

abbrev pub decreases-loop-rest : goal.decreases-loop-rest
decreases-loop-rest l = length l.rest
