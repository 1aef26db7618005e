use Rattle.std.proofs.Common.{ap}
use Rattle.td_ir.specs.declared.tables.EntryPoint.{EntryPoint}
use Rattle.td_prog_emit.proofs.Texts.{recut}
use Rattle.td_prog_text.specs.Entries.{function}
use Rattle.td_prog_text.specs.Expressions.{text}
use Rattle.td_prog_emit.proofs.files.push_function_at.Goals as goal

pub returns : goal.returns
returns c = recut c.push_entry_function.ensures (ap (λ (e : EntryPoint). text (function c.args.parts.now c.args.prefix.now e)) c.entry_at.ensures)
