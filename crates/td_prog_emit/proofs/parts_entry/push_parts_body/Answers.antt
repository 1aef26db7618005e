use Rattle.std.proofs.Common.{ℕ, ap, refl}
use Rattle.td_prog_emit.proofs.Texts.{joined, recut}
use Rattle.td_prog_emit.proofs.parts_entry.push_parts_body.Goals as goal
use Rattle.td_prog_text.specs.Entries.{cells_line}
use Rattle.td_prog_text.specs.Expressions.{text}

pub returns : goal.returns
returns c = recut (joined (c.in_ok-push_parts_head.ensures {u = tt}) (joined (c.in_ok-push.ensures {u = tt}) (joined (recut (c.in_ok-push_cells_line.ensures {u = tt}) (ap (λ (n : ℕ). text (cells_line c.args.entry.now c.args.names.now c.args.members.now n)) c.requires.count)) (joined (c.in_ok-push-2.ensures {u = tt}) (joined (c.in_ok-push_empties.ensures {u = tt}) (joined (c.in_ok-push-3.ensures {u = tt}) (joined (c.in_ok-push_parts_call.ensures {u = tt} c.args.prefix.now) (joined (c.in_ok-push-4.ensures {u = tt}) (joined (c.in_ok-push_stores.ensures {u = tt}) (joined (c.in_ok-push_counts.ensures {u = tt}) c.push-5.ensures)))))))))) refl
