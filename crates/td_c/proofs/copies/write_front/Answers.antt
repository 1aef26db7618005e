use Rattle.td_c.proofs.Written.{written}
use Rattle.td_c.proofs.copies.write_front.Goals as goal

pub returns : goal.returns
returns c = written c.args.text.now c.args.bytes.now _ c.min-count.result c.min-count.ensures c.copy_from_slice.ensures.after
