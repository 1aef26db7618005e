use Rattle.std.proofs.Common.{ℕ, ap, sym}
use Rattle.td_prog_emit.proofs.Texts.{none, recut}
use Rattle.td_prog_emit.proofs.Lines.{line_is}
use Rattle.td_prog_text.specs.Entries.{cells_line}
use Rattle.td_prog_text.specs.Expressions.{text}
use Rattle.td_prog_emit.proofs.wrapper.push_cells_line.Goals as goal

pub returns-then-count-eq0 : goal.returns-then-count-eq0
returns-then-count-eq0 c =
    recut (none c.args.out.now.items) (ap (λ (n : ℕ). text (cells_line c.args.entry.now c.args.names.now c.args.members.now n)) (sym c.if-count-eq0.true))

pub returns-else-count-eq0 : goal.returns-else-count-eq0
returns-else-count-eq0 c = recut c.push_cells_by.ensures (line_is c.args.entry.now c.args.names.now c.args.members.now c.args.count c.if-count-eq0.false)
