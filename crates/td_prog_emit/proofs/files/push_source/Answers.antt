use Rattle.std.proofs.Common.{refl}
use Rattle.td_prog_emit.proofs.Texts.{joined, recut}
use Rattle.td_prog_emit.proofs.files.push_source.Goals as goal

pub returns : goal.returns
returns c = recut (joined (c.in_ok-push_front.ensures {u = tt}) (joined (c.in_ok-push_functions.ensures {u = tt}) c.push_entry_functions.ensures)) refl
