use Rattle.std.proofs.Common.{length, ap, arith}
use Rattle.td_vm.proofs.arm.own.Goals as goal

pub place_count-requires : goal.place_count-requires
place_count-requires c = omega (arith, ap (λ x. length x.buffers) c.routine_at-in-Cells.ensures, (c.requires.code.routines c.args.n c.requires.there).few)
