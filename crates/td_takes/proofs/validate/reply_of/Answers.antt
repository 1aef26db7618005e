use Rattle.std.proofs.Common.{refl}
use Rattle.td_takes.proofs.validate.reply_of.Goals as goal

pub returns-clause-memory : goal.returns-clause-memory
returns-clause-memory c = record { trace = c.keep.ensures.memory; cells = refl; buffers = refl; rooms = refl }
