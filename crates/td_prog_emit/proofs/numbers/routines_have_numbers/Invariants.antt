use Rattle.std.proofs.Common.{take, ◌<◌, ◌^◌}
use Rattle.td_num.specs.Lists.{Each}
use Rattle.td_ir.specs.declared.tables.Routine.{Routine}
use Rattle.td_prog_emit.proofs.numbers.routines_have_numbers.Given as goal

abbrev pub invariant-loop-n : goal.invariant-loop-n
invariant-loop-n l = Each (λ (r : Routine). Each (λ v. v < 2 ^ 32) r.buffers) (take l.n l.parts.routines)
