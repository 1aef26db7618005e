use Rattle.td_prog_emit.proofs.copies.push_buffer.Goals as goal
use Rattle.std.proofs.Common.{[], ◌++◌, codes, decimal, sym}
use Rattle.std.proofs.lemmas.List.{append-nil}
use Rattle.td_prog_emit.proofs.Texts.{joined, recut}

pub returns : goal.returns
returns c = recut (joined (c.in_ok-push.ensures {u = tt}) c.push_decimal.ensures) (sym (append-nil (codes ", b" ++ decimal c.args.buffer ++ [])))
