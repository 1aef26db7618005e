use Rattle.std.proofs.Common.{◌≡◌, drop, length}
use Rattle.td_elab_rules.specs.Types.{fits_buffers}
use Rattle.td_elab_types.proofs.buffers.fits_buffers.Given as goal

abbrev pub invariant-loop-i : goal.invariant-loop-i
invariant-loop-i l = record {
  same : length l.buffers ≡ length l.places;
  rest : fits_buffers l.rooms (drop l.i l.buffers) (drop l.i l.places) ≡ fits_buffers l.rooms l.buffers l.places;
}
