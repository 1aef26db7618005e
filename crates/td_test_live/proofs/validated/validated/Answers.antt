use Rattle.std.proofs.Common.{◌≡◌, ◌≤◌, true, length, subst, arith}
use Rattle.std.proofs.lemmas.Grind.{common_steps}
use Rattle.td_vm.specs.Need.{most_entry_cells}
use Rattle.td_test_live.proofs.validated.validated.Goals as goal

pub set_cells-requires : goal.set_cells-requires
set_cells-requires g c =
    let yes : c.fits.result ≡ true = grind (arith, common_steps, c.if-not-fits.false, c.if-not-fits.ensures) in
    let most = c.fitting_cells_have_room.ensures _ _ _ _ (c.fits.ensures.0 yes) in
    let least : length c.args.cells.now ≤ most_entry_cells c.args.code.now = subst (λ p. length c.args.cells.now ≤ most_entry_cells p) c.code.ensures.same most in
    omega (arith, least, c.in-Ok-arm.ensures.armed.cell_room)
