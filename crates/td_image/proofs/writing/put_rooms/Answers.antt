use Rattle.std.proofs.Common.{append_assoc}
use Rattle.td_image.proofs.Flat.{rooms_flat}
use Rattle.td_image.proofs.writing.put_rooms.Goals as goal

pub returns : goal.returns
returns c = rw (c.in_ok-put_numbers.ensures, c.in_ok-put_count.ensures, rooms_flat c.args.rooms.now) (simp append_assoc)
