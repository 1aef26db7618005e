use Rattle.std.proofs.Common.{refl}
use Rattle.td_prog_emit.proofs.Texts.{joined, recut}
use Rattle.td_prog_emit.proofs.files.push_header.Goals as goal

pub returns : goal.returns
returns c = recut (joined (c.in_ok-push_header_front.ensures {u = tt}) (joined (c.in_ok-push_declarations.ensures {u = tt}) (joined (c.in_ok-push_parts_declarations.ensures {u = tt}) c.push_header_end.ensures))) refl
