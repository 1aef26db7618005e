use Rattle.std.proofs.Common.{◌≡◌, take, vec_capacity}
use Rattle.td_takes.proofs.validate.keep.Given as goal

-- the lines so far, in the memory that was there
abbrev pub invariant-loop-line : goal.invariant-loop-line
invariant-loop-line l = record {
  items : l.trace.items ≡ take l.line-index l.lines;
  memory : vec_capacity l.trace ≡ vec_capacity l.initial.trace;
}
