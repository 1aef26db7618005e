use Rattle.std.proofs.Common.{ap}
use Rattle.td_ir.specs.declared.tables.EntryPoint.{EntryPoint}
use Rattle.td_prog_emit.proofs.Texts.{recut}
use Rattle.td_prog_text.specs.PartsEntries.{parts_declaration}
use Rattle.td_prog_text.specs.Expressions.{text}
use Rattle.td_prog_emit.proofs.files.push_parts_declaration_at.Goals as goal

pub returns : goal.returns
returns c = recut c.push_parts_declaration.ensures (ap (λ (e : EntryPoint). text (parts_declaration c.args.parts.now c.args.prefix.now e)) c.entry_at.ensures)
