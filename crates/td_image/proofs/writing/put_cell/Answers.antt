use Rattle.std.proofs.Common.{append_assoc}
use Rattle.td_image.proofs.Flat.{cell_flat}
use Rattle.td_image.proofs.writing.put_cell.Goals as goal

pub returns : goal.returns
returns c =
    rw (c.in_ok-put_u32-3.ensures, c.in_ok-put_u32-2.ensures, c.in_ok-put_u32.ensures, c.kind_bits.ensures, c.field_number.ensures, cell_flat c.args.cell) (simp append_assoc)
