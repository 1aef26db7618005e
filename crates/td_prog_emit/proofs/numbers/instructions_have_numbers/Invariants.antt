use Rattle.std.proofs.Common.{take}
use Rattle.td_prog_code.specs.Sentence.{HasNumber}
use Rattle.td_num.specs.Lists.{Each}
use Rattle.td_prog_emit.proofs.numbers.instructions_have_numbers.Given as goal

abbrev pub invariant-loop-k : goal.invariant-loop-k
invariant-loop-k l = Each (HasNumber l.parts) (take l.k l.parts.instructions)
