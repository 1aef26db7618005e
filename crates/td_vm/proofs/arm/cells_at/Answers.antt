use Rattle.std.proofs.Common.{length, ap, arith}
use Rattle.td_vm.proofs.arm.cells_at.Goals as goal

pub place_count-requires : goal.place_count-requires
place_count-requires c =
    let e = c.requires.code.entries c.args.k c.requires.there in
    omega (arith, ap (λ x. length x.buffers) c.routine_of_entry.ensures, (c.requires.code.routines _ e.there).few)

pub returns : goal.returns
returns c =
    let e = c.requires.code.entries c.args.k c.requires.there in
    omega (arith, c.place_count.ensures.is, ap (λ x. x.cells) c.routine_of_entry.ensures, ap (λ x. length x.buffers) c.routine_of_entry.ensures, e.cell_count, e.buffer_count)
