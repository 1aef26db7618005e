use Rattle.std.proofs.Common.{sym, ◌∙◌, arith}
use Rattle.std.proofs.lemmas.Bool.{false≢true}
use Rattle.td_core.proofs.Ends.{same_end}
use Rattle.td_core.proofs.full_name.before.Goals as goal

pub returns-else-is_equal : goal.returns-else-is_equal
returns-else-is_equal c front e =
    let same = same_end c.split_at.result.0.now front c.split_at.result.1.now c.args.last.now (omega (arith, c.split_at.ensures.back_len, c.if-bytes-last.false)) (sym c.split_at.ensures.by_index.0 ∙ e) in
    false≢true (c.if-is_equal.ensures.1 same)
