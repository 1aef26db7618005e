use Rattle.std.proofs.Common.{◌≡◌, ◌<◌, ◌^◌, drop}
use Rattle.td_lexer.specs.Bytes.{value_from, value_of}
use Rattle.td_lexer.proofs.numbers.value.Given as goal

abbrev pub invariant-loop-d : goal.invariant-loop-d
invariant-loop-d l = record {
  value : value_from l.radix l.n (drop l.d-index l.digits) ≡ value_of l.radix l.digits;
  fits : l.n < 2 ^ 64;
}
