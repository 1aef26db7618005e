use Rattle.std.proofs.Common.{arith}
use Rattle.td_c_pack.proofs.pack.image_of.Goals as goal

pub returns-in-Ok-packed_image-clause-image : goal.returns-in-Ok-packed_image-clause-image
returns-in-Ok-packed_image-clause-image c =
    (c.in-Ok.«module», c.in-Ok.ensures.stands, c.in-Ok-packed_image.ensures.packed c.args.text.now (let r = c.requires in omega (arith, r)) c.in-Ok.ensures.stands)
