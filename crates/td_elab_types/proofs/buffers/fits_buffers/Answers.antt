use Rattle.td_elab_types.proofs.Sides.{unlike_buffers}
use Rattle.td_elab_types.proofs.buffers.fits_buffers.Goals as goal

pub returns-then-buffers-places : goal.returns-then-buffers-places
returns-then-buffers-places c = unlike_buffers c.args.rooms.now c.args.buffers.now c.args.places.now c.if-buffers-places.true
